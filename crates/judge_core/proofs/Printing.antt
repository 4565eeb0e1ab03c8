-- A text that can be framed says a message that can, whatever steps are taken.
use Rattle.std.proofs.Common.{◌≡◌, ◌≢◌, ℕ, ◌+◌, Bool, true, false, not, ◌&&◌, ◌||◌, ◌==◌, List, [], ◌∷◌, ◌++◌, Ok, Err, refl, sym, subst, arith}
use Rattle.std.specs.Prelude.{Contains}
use Rattle.std.specs.List.{list_all}
use Rattle.std.proofs.lemmas.List.Elements.{All-nil, All-cons, All-head, All-tail}
use Rattle.std.proofs.lemmas.Result.{IfOk-at_ok}
use Rattle.er7_tree.specs.Delims.{lacks}
use Rattle.er7_tree.specs.Escape.{controls}
use Rattle.er7_tree.specs.Tree.{Tree, tree, text_of, ◌>>=◌}
use Rattle.er7_tree.proofs.Messages.{tree_is, tree_segments, segments_lack}
use Rattle.er7_tree.proofs.Lacking.{written_lacks}
use Rattle.hl7_transform.specs.declared.fault.StepFault.TheVariants.{Stopped}
use Rattle.hl7_transform.specs.Step.{Edit, after_steps, after_from, change}
use Rattle.hl7_transform.proofs.Controls.{lacks-after}
use Rattle.std.specs.Result.{result_map_both}
use Rattle.mllp_frame.specs.Framing.{IsData, is_framing}

or-parts : (x y : Bool) → (x || y) ≡ false → (x ≡ false) × (y ≡ false)
or-parts true y e = absurd cc
or-parts false y e = (refl, e)

and-parts : (x y : Bool) → (x && y) ≡ true → (x ≡ true) × (y ≡ true)
and-parts true y e = (refl, e)
and-parts false y e = absurd cc

not-true : (x : Bool) → not x ≡ true → x ≡ false
not-true true e = absurd cc
not-true false e = refl

plain-lacks : (text : List ℕ) → IsData text → (lacks 11 text ≡ true) × (lacks 28 text ≡ true)
plain-lacks [] all = (refl, refl)
plain-lacks (c ∷ cs) all =
    let here = or-parts (c == 11) (c == 28) (All-head (λ b. is_framing b ≡ false) c cs all) in
    let rest = plain-lacks cs (All-tail (λ b. is_framing b ≡ false) c cs all) in
    (rw (here.0, rest.0) refl, rw (here.1, rest.1) refl)

lacks-plain : (text : List ℕ) → lacks 11 text ≡ true → lacks 28 text ≡ true → IsData text
lacks-plain [] e f = All-nil (λ b. is_framing b ≡ false)
lacks-plain (c ∷ cs) e f =
    let starts = and-parts (not (c == 11)) (lacks 11 cs) e in
    let ends = and-parts (not (c == 28)) (lacks 28 cs) f in
    All-cons (λ b. is_framing b ≡ false) c cs (rw (not-true (c == 11) starts.0, not-true (c == 28) ends.0) refl) (lacks-plain cs starts.1 ends.1)

-- where steps are taken, their places don't matter
taken-anywhere : (p q : ℕ) (steps : List Edit) (t u : Tree) → after_from q steps t ≡ Ok u → after_from p steps t ≡ Ok u
taken-anywhere p q [] t u e = e
taken-anywhere p q (step ∷ steps) t u e =
    elim (change step t) as (λ r. (result_map_both (λ x. x) (λ cause. Stopped q cause) r >>= after_from (q + 1) steps) ≡ Ok u → (result_map_both (λ x. x) (λ cause. Stopped p cause) r >>= after_from (p + 1) steps) ≡ Ok u)
    [ Ok v ↦ taken-anywhere (p + 1) (q + 1) steps v u | Err cause ↦ λ e. absurd cc ] e

-- steps after steps
taken-both : (p q : ℕ) (first second : List Edit) (t between u : Tree) → after_from p first t ≡ Ok between → after_from q second between ≡ Ok u → after_from p (first ++ second) t ≡ Ok u
taken-both p q [] second t between u e f =
    let same : between ≡ t = cc in
    taken-anywhere p q second t u (subst (λ x. after_from q second x ≡ Ok u) same f)
taken-both p q (step ∷ first) second t between u e f =
    elim (change step t) as (λ r. (result_map_both (λ x. x) (λ cause. Stopped p cause) r >>= after_from (p + 1) first) ≡ Ok between → after_from q second between ≡ Ok u → (result_map_both (λ x. x) (λ cause. Stopped p cause) r >>= after_from (p + 1) (first ++ second)) ≡ Ok u)
    [ Ok v ↦ taken-both (p + 1) q first second v between u | Err cause ↦ λ e f. absurd cc ] e f

-- a framing byte that a text lacks is in no message after steps
printed-lacks : (b : ℕ) (text : List ℕ) (t u : Tree) (steps : List Edit) → Contains controls b → b ≢ 13 → tree text ≡ Ok t → after_steps steps t ≡ Ok u → lacks b text ≡ true → lacks b (text_of u) ≡ true
printed-lacks b text t u steps control other read done bare =
    let segments = subst (λ (ss : List (List ℕ)). list_all (lacks b) ss ≡ true) (sym (tree_segments text t read)) (segments_lack b text bare) in
    written_lacks b u.segments other (IfOk-at_ok (λ new. list_all (lacks b) new.segments ≡ true) done (lacks-after steps t b (tree_is text t read) control segments))

-- a message after the steps of its channel and of a route can be framed
pub printed_plain : (text : List ℕ) (t between u : Tree) (first second : List Edit) → tree text ≡ Ok t → IsData text → after_steps first t ≡ Ok between → after_steps second between ≡ Ok u → IsData (text_of u)
printed_plain text t between u first second read plain e f =
    let done = taken-both 0 0 first second t between u e f in
    let bare = plain-lacks text plain in
    lacks-plain (text_of u)
    (printed-lacks 11 text t u (first ++ second) (1, omega arith, refl) (λ e. absurd cc) read done bare.0)
    (printed-lacks 28 text t u (first ++ second) (2, omega arith, refl) (λ e. absurd cc) read done bare.1)
