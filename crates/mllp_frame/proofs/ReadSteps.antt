-- What the steps of a framer read.
use Rattle.std.proofs.Common.{◌≡◌, ℕ, false, ◌==◌, List, [], ◌∷◌, ◌++◌, Some, Result, Ok, Err, OnErr, refl, sym, ap, ◌∙◌, subst, append_assoc, append-nil}
use Rattle.mllp_frame.specs.declared.Break.TheVariants.{NewStart, BadEnd}
use Rattle.mllp_frame.specs.Event.{FramingEvent, broken}
use Rattle.mllp_frame.specs.Framing.{start_block, end_block, carriage_return, ended_block, decision, block_outcome, blocks}
use Rattle.mllp_frame.specs.inner.Framing.{shortened, open_end, begun_block, ending_block}
use Rattle.mllp_frame.specs.inner.Framed.{AddsFront}
use Rattle.mllp_frame.specs.inner.Stage.{Reads}
use Rattle.mllp_frame.proofs.Cuts.{Plain, Plain-append, NoStart, NoStart-plain, NoStart-append, outcome_of-cut, blocks-quiet, open_end-quiet}
use Rattle.mllp_frame.proofs.Appending.{GoesOn, goes_on_plain, blocks-resumed, open_end-resumed, blocks-decided, open_end-closed, blocks-none, open_end-none}

module _ (old : List FramingEvent) where
  pub reads_nothing : (s : List ℕ) → Reads old old s s
  reads_nothing s = record { added = []; events = sym (append-nil old); front = refl; end = refl }

  pub reads_on : (new last : List FramingEvent) (a b c : List ℕ) → Reads old new a b → Reads new last b c → Reads old last a c
  reads_on new last a b c one two = record {
    added = one.added ++ two.added;
    events = two.events ∙ ap (λ l. l ++ two.added) one.events ∙ append_assoc old one.added two.added;
    front = one.front ∙ ap (λ l. one.added ++ l) two.front ∙ sym (append_assoc one.added two.added (blocks c));
    end = one.end ∙ two.end;
  }

  pub reads_front : (new last : List FramingEvent) (a b : List ℕ) → Reads old new a b → AddsFront new last (blocks b) → AddsFront old last (blocks a)
  reads_front new last a b one more = record {
    added = one.added ++ more.added;
    missed = more.missed;
    grows = more.grows ∙ ap (λ l. l ++ more.added) one.events ∙ append_assoc old one.added more.added;
    front = one.front ∙ ap (λ l. one.added ++ l) more.front ∙ sym (append_assoc one.added more.added more.missed);
  }

  -- nothing is decided
  same : (a b : List ℕ) → blocks a ≡ blocks b → open_end a ≡ open_end b → Reads old old a b
  same a b front end = record { added = []; events = sym (append-nil old); front = front; end = end }

  -- an event is
  one_more : (e : FramingEvent) (a b : List ℕ) → blocks a ≡ e ∷ blocks b → open_end a ≡ open_end b → Reads old (old ++ e ∷ []) a b
  one_more e a b front end = record { added = e ∷ []; events = refl; front = front; end = end }

  pub outside_none : (piece : List ℕ) → NoStart piece → Reads old old piece []
  outside_none piece quiet = same piece [] (blocks-none piece quiet) (open_end-none piece quiet)

  pub outside_start : (front rest : List ℕ) → NoStart front → Reads old old (front ++ start_block ∷ rest) (start_block ∷ rest)
  outside_start front rest quiet = same _ _ (blocks-quiet front (start_block ∷ rest) quiet) (open_end-quiet front (start_block ∷ rest) quiet)

  resumed : (s k p : List ℕ) → GoesOn s k → Reads old old (start_block ∷ (s ++ p)) (start_block ∷ (k ++ p))
  resumed s k p goes = same _ _ (blocks-resumed start_block s k p refl goes) (open_end-resumed start_block s k p refl goes)

  pub inside_data : (d piece : List ℕ) → Plain d → Plain piece → Reads old old (begun_block d ++ piece) (begun_block (shortened (d ++ piece)) ++ [])
  inside_data d piece one two =
      subst (λ l. Reads old old (start_block ∷ l) (start_block ∷ (shortened (d ++ piece) ++ []))) (append-nil (d ++ piece))
      (resumed (d ++ piece) (shortened (d ++ piece)) [] (goes_on_plain (d ++ piece) (Plain-append d piece one two)))

  decided : (x r : List ℕ) (e : FramingEvent) (left : List ℕ) → block_outcome (x ++ r) ≡ Some e → blocks (x ++ r) ≡ blocks left → open_end (x ++ r) ≡ open_end left → Reads old (old ++ e ∷ []) (start_block ∷ (x ++ r)) left
  decided x r e left is front end =
      one_more e (start_block ∷ (x ++ r)) left
      (blocks-decided start_block (x ++ r) e refl is ∙ ap (λ l. e ∷ l) front)
      (open_end-closed start_block (x ++ r) e is ∙ end)

  decision-start : (x rest : List ℕ) → decision x (start_block ∷ rest) ≡ Some (broken NewStart)
  decision-start x [] = refl
  decision-start x (c ∷ rest) = refl

  pub inside_start : (d front rest : List ℕ) → Plain d → Plain front → Reads old (old ++ broken NewStart ∷ []) (begun_block d ++ (front ++ start_block ∷ rest)) (start_block ∷ rest)
  inside_start d front rest one two =
      let plain : Plain (d ++ front) = Plain-append d front one two in
      let quiet : NoStart (d ++ front) = NoStart-plain (d ++ front) plain in
      subst (λ l. Reads old (old ++ broken NewStart ∷ []) (start_block ∷ l) (start_block ∷ rest)) (append_assoc d front (start_block ∷ rest))
      (decided (d ++ front) (start_block ∷ rest) (broken NewStart) (start_block ∷ rest)
      (outcome_of-cut (d ++ front) (start_block ∷ rest) plain refl ∙ decision-start (d ++ front) rest)
      (blocks-quiet (d ++ front) (start_block ∷ rest) quiet) (open_end-quiet (d ++ front) (start_block ∷ rest) quiet))

  pub inside_end : (d front rest : List ℕ) → Plain d → Plain front → Reads old old (begun_block d ++ (front ++ end_block ∷ rest)) (ending_block (shortened (d ++ front)) ++ rest)
  inside_end d front rest one two =
      let x : List ℕ = d ++ front in
      let goes : Reads old old (start_block ∷ ((d ++ front) ++ end_block ∷ rest)) (start_block ∷ (shortened (d ++ front) ++ end_block ∷ rest)) =
      resumed (d ++ front) (shortened (d ++ front)) (end_block ∷ rest) (goes_on_plain (d ++ front) (Plain-append d front one two)) in
      subst (λ l. Reads old old (start_block ∷ l) (ending_block (shortened (d ++ front)) ++ rest)) (append_assoc d front (end_block ∷ rest))
      (subst (λ l. Reads old old (start_block ∷ ((d ++ front) ++ end_block ∷ rest)) (start_block ∷ l)) (sym (append_assoc (shortened (d ++ front)) (end_block ∷ []) rest)) goes)

  pub ended_whole : (d rest : List ℕ) → Plain d → Reads old (old ++ ended_block d ∷ []) (ending_block d ++ carriage_return ∷ rest) rest
  ended_whole d rest plain =
      let quiet : NoStart (d ++ end_block ∷ carriage_return ∷ []) = NoStart-append d (end_block ∷ carriage_return ∷ []) (NoStart-plain d plain) (refl, (refl, tt)) in
      let front : d ++ end_block ∷ carriage_return ∷ rest ≡ (d ++ end_block ∷ carriage_return ∷ []) ++ rest = sym (append_assoc d (end_block ∷ carriage_return ∷ []) rest) in
      subst (λ l. Reads old (old ++ ended_block d ∷ []) (start_block ∷ l) rest) (sym (append_assoc d (end_block ∷ []) (carriage_return ∷ rest)))
      (decided d (end_block ∷ carriage_return ∷ rest) (ended_block d) rest
      (outcome_of-cut d (end_block ∷ carriage_return ∷ rest) plain refl)
      (ap blocks front ∙ blocks-quiet (d ++ end_block ∷ carriage_return ∷ []) rest quiet)
      (ap open_end front ∙ open_end-quiet (d ++ end_block ∷ carriage_return ∷ []) rest quiet))

  decision-bad : (d rest : List ℕ) (c : ℕ) → (c == carriage_return) ≡ false → decision d (end_block ∷ c ∷ rest) ≡ Some (broken BadEnd)
  decision-bad d rest c other = rw other

  pub ended_bad : (d rest : List ℕ) (c : ℕ) → Plain d → (c == carriage_return) ≡ false → Reads old (old ++ broken BadEnd ∷ []) (ending_block d ++ c ∷ rest) (c ∷ rest)
  ended_bad d rest c plain other =
      let quiet : NoStart (d ++ end_block ∷ []) = NoStart-append d (end_block ∷ []) (NoStart-plain d plain) (refl, tt) in
      let front : d ++ end_block ∷ c ∷ rest ≡ (d ++ end_block ∷ []) ++ c ∷ rest = sym (append_assoc d (end_block ∷ []) (c ∷ rest)) in
      subst (λ l. Reads old (old ++ broken BadEnd ∷ []) (start_block ∷ l) (c ∷ rest)) (sym (append_assoc d (end_block ∷ []) (c ∷ rest)))
      (decided d (end_block ∷ c ∷ rest) (broken BadEnd) (c ∷ rest)
      (outcome_of-cut d (end_block ∷ c ∷ rest) plain refl ∙ decision-bad d rest c other)
      (ap blocks front ∙ blocks-quiet (d ++ end_block ∷ []) (c ∷ rest) quiet)
      (ap open_end front ∙ open_end-quiet (d ++ end_block ∷ []) (c ∷ rest) quiet))

pub on_err_always : {T E : Type 0} {P : Type 0} (r : Result T E) → P → OnErr r P
on_err_always (Ok x) p = tt
on_err_always (Err e) p = p
