use Rattle.std.proofs.Common.{◌≡◌, ℕ, Bool, true, false, not, List, [], ◌∷◌, ◌++◌, map, drop, length, subst, sym, ap, ◌∙◌, arith, append_assoc, Option, Some, None, is_some, Result, Ok, Err, OnOk, is_ok, ◌+◌}
use Rattle.std.proofs.lemmas.List.{map-append}
use Rattle.std.specs.Option.{option_or}
use Rattle.er7_tree.specs.Delims.{Delims}
use Rattle.er7_tree.specs.Tree.{is_body, bad_name_place, segments_of}
use Rattle.er7_tree.specs.declared.segments.Span.{Span}
use Rattle.er7_tree.specs.inner.Spans.{covered, InOrder}
use Rattle.er7_tree.proofs.Spanning.{in_order_push, in_order_to}
use Rattle.er7_tree.proofs.text_walk.read_spans.Goals as goal
use Rattle.er7_tree.proofs.text_walk.read_spans.Goals.{then-is_none+then-not-is_body, else-is_none, else-is_none-via-then-is_none+else-not-is_body, else-is_none-via-else-is_none}

-- one more segment is covered
covers_more : (text : List ℕ) (spans pushed : List Span) (span : Span) (rest all : List (List ℕ)) → pushed ≡ spans ++ span ∷ []
    → map (covered text) spans ++ (covered text span ∷ rest) ≡ all → map (covered text) pushed ++ rest ≡ all
covers_more text spans pushed span rest all is so_far =
    ap (λ spans. map (covered text) spans ++ rest) is ∙ ap (λ segments. segments ++ rest) (map-append (covered text) spans (span ∷ []))
    ∙ append_assoc (map (covered text) spans) (covered text span ∷ []) rest ∙ so_far

pushed_is : {A B : Type 0} (r : Result A B) (said : Bool) (pushed spans : List Span) (span : Span) → OnOk r (pushed ≡ spans ++ span ∷ []) → said ≡ is_ok r → said ≡ true → pushed ≡ spans ++ span ∷ []
pushed_is (Ok x) said pushed spans span is same yes_said = is
pushed_is (Err e) said pushed spans span is same yes_said = cc

-- the place of the first bad name, where this segment is the first bad one, where it is not bad, and where one stands before it
found_here : (d : Delims) (n : ℕ) (bad : Option ℕ) (segment : List ℕ) (rest : List (List ℕ)) (all : Option ℕ) → is_some bad ≡ false → is_body d segment ≡ false
    → option_or bad (bad_name_place n d (segment ∷ rest)) ≡ all → Some n ≡ all
found_here d n None segment rest all none bad is = rw bad at is
found_here d n (Some m) segment rest all none bad is = cc

found_later : (d : Delims) (n : ℕ) (bad : Option ℕ) (segment : List ℕ) (rest : List (List ℕ)) (all : Option ℕ) → is_body d segment ≡ true
    → option_or bad (bad_name_place n d (segment ∷ rest)) ≡ all → option_or bad (bad_name_place (n + 1) d rest) ≡ all
found_later d n None segment rest all good is = rw good at is
found_later d n (Some m) segment rest all good is = is

found_before : (bad last next all : Option ℕ) → is_some bad ≡ true → option_or bad last ≡ all → option_or bad next ≡ all
found_before None last next all some is = cc
found_before (Some m) last next all some is = is

pub loop-span-preserved-then-kept : goal.loop-span-preserved-then-kept
loop-span-preserved-then-kept c =
    let here = c.in-Some.ensures in
    let so_far = c.loop-span.invariant in
    let spans = c.loop-span.spans.items in
    let pushed = pushed_is c.push-then-kept.result c.is_ok-kept-then-kept.result _ spans c.in-Some.span c.push-then-kept.ensures.ok c.is_ok-kept-then-kept.ensures.value in
    let covered_so_far = ap (λ segments. map (covered c.args.text.now) spans ++ segments) (sym here.segment) ∙ so_far.cut c.if-kept.true in
    let here_is = covered c.args.text.now c.in-Some.span in
    let left = segments_of (drop c.in-Some.span.end c.args.text.now) in
    let place = c.loop-span.place + 1 in
    let next = bad_name_place (place + 1) c.args.delims left in
    let said = ap (λ segments. option_or c.loop-span.bad (bad_name_place (c.loop-span.place + 1) c.args.delims segments)) (sym here.segment) ∙ so_far.named in
    record {
      within = here.between.within;
      counted = omega (arith, ap length here.segment);
      few = omega arith;
      named =
          elim c.if-is_none.branch [
            | then-is_none+then-not-is_body w ↦
                rw w.bad-is (found_here c.args.delims place c.loop-span.bad here_is left _ (c.is_none.ensures ∙ ap not w.if-is_none.true)
                (ap (is_body c.args.delims) (sym w.of.ensures) ∙ sym w.is_body.ensures ∙ w.if-not-is_body.true) said)
            | else-is_none w ↦
                elim w.else-is_none.branch [
                  | else-is_none-via-then-is_none+else-not-is_body v ↦
                      rw w.bad-is (found_later c.args.delims place c.loop-span.bad here_is left _ (ap (is_body c.args.delims) (sym v.of.ensures) ∙ sym v.is_body.ensures ∙ v.if-not-is_body.false) said)
                  | else-is_none-via-else-is_none v ↦ rw w.bad-is (found_before c.loop-span.bad (bad_name_place place c.args.delims (here_is ∷ left)) next _ (c.is_none.ensures ∙ ap not v.if-is_none.false) said)
                ]
          ];
      cut = λ kept. covers_more c.args.text.now spans _ c.in-Some.span _ _ (pushed kept) covered_so_far;
      ends = c.next_span.ensures.ends;
      near = here.near;
      in_order = λ kept.
          subst (InOrder 0 c.in-Some.span.end) (sym (pushed kept)) (in_order_push 0 c.loop-span.at _ spans c.in-Some.span (so_far.in_order c.if-kept.true) here.between);
    }

pub returns-in-None-clause-in_order : goal.returns-in-None-clause-in_order
returns-in-None-clause-in_order c = in_order_to 0 c.loop-span.at (length c.args.text.now) c.loop-span.spans.items (c.loop-span.invariant.in_order c.if-kept-2.true) c.loop-span.invariant.within
