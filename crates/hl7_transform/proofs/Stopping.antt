-- Steps that stop.
use Rattle.std.proofs.Common.{◌≡◌, ℕ, suc, ◌+◌, ◌<◌, Bool, true, false, not, ◌||◌, cond, List, ◌∷◌, length, drop, get_or, drop-cons, Ok, Err, inl, inr, subst, refl, ◌∙◌, ap, sym, arith}
use Rattle.er7_tree.specs.declared.refusal.Refusal.{Refusal}
use Rattle.er7_tree.specs.declared.refusal.Refusal.TheVariants.{NoHeader, BadDelimiters, BadSegmentName, TooManySegments, BadPath, NoSuchSegment, NoMemory}
use Rattle.er7_tree.specs.Edit.{remove_segments}
use Rattle.er7_tree.specs.Tree.{Tree, is_name, is_header}
use Rattle.hl7_transform.specs.declared.fault.StopCause.{StopCause}
use Rattle.hl7_transform.specs.declared.fault.StepFault.TheVariants.{Stopped}
use Rattle.hl7_transform.specs.declared.step.Step.{Step}
use Rattle.hl7_transform.specs.inner.Outcome.{Takes, stop_of}
use Rattle.hl7_transform.specs.Step.{remove, made, after_steps, after_from, change}
use Rattle.hl7_transform.specs.inner.Step.{SomeWantsMemory, wants_memory}
use Rattle.hl7_transform.specs.inner.View.{view, steps_view}

stops : (place : ℕ) (step : Step) (steps : List Step) (t : Tree) (cause : StopCause) → change (view step) t ≡ Err cause
    → after_from place (steps_view (step ∷ steps)) t ≡ Err (Stopped place cause)
stops place step steps t cause stopped = rw stopped refl

takes : (place : ℕ) (step : Step) (steps : List Step) (t new : Tree) → change (view step) t ≡ Ok new
    → after_from place (steps_view (step ∷ steps)) t ≡ after_from (suc place) (steps_view steps) new
takes place step steps t new taken =
    let next : place + 1 ≡ suc place = omega arith in
    let first : after_from place (steps_view (step ∷ steps)) t ≡ after_from (place + 1) (steps_view steps) new = rw taken refl in
    first ∙ ap (λ n. after_from n (steps_view steps) new) next

-- The message so far: what is left of the steps makes of it what all make of the first message, and a step that is left and
-- may want memory is one that is reached.
pub record SoFar (steps : List Step) (first : Tree) (place : ℕ) (t : Tree) : Type 0 where
  pub after_all : after_steps (steps_view steps) first ≡ after_from place (steps_view (drop place steps)) t
  pub wants : SomeWantsMemory (steps_view (drop place steps)) t → SomeWantsMemory (steps_view steps) first

next_step : (steps : List Step) (place : ℕ) (step : Step) → place < length steps → step ≡ get_or steps place step → drop place steps ≡ step ∷ drop (suc place) steps
next_step steps place step within here = drop-cons steps place step within ∙ ap (λ s. s ∷ drop (suc place) steps) (sym here)

-- the step at a place can't be taken
pub stopped_at : (steps : List Step) (place : ℕ) (step : Step) (first t : Tree) (cause : StopCause) → place < length steps → step ≡ get_or steps place step
    → SoFar steps first place t → change (view step) t ≡ Err cause → after_steps (steps_view steps) first ≡ Err (Stopped place cause)
stopped_at steps place step first t cause within here so_far stopped =
    so_far.after_all ∙ ap (λ left. after_from place (steps_view left) t) (next_step steps place step within here) ∙ stops place step (drop (suc place) steps) t cause stopped

-- the step at a place was taken
pub goes_on : (steps : List Step) (place : ℕ) (step : Step) (first t new : Tree) → place < length steps → step ≡ get_or steps place step
    → SoFar steps first place t → change (view step) t ≡ Ok new → SoFar steps first (suc place) new
goes_on steps place step first t new within here so_far taken =
    let rest = next_step steps place step within here in
    record {
      after_all = so_far.after_all ∙ ap (λ left. after_from place (steps_view left) t) rest ∙ takes place step (drop (suc place) steps) t new taken;
      wants = λ later. so_far.wants (subst (λ left. SomeWantsMemory (steps_view left) t) (sym rest) (inr (rw taken later)));
    }

-- the step at a place may want memory
pub some_wants : (steps : List Step) (place : ℕ) (step : Step) (first t : Tree) → place < length steps → step ≡ get_or steps place step
    → SoFar steps first place t → wants_memory (view step) t ≡ true → SomeWantsMemory (steps_view steps) first
some_wants steps place step first t within here so_far wants =
    so_far.wants (subst (λ left. SomeWantsMemory (steps_view left) t) (sym (next_step steps place step within here)) (inl wants))

removed_or_not : (named header : Bool) (t : Tree) → cond (not named || header) (Err BadPath) (Ok t) ≡ Err NoMemory → ⊥
removed_or_not true true t is = cc
removed_or_not true false t is = cc
removed_or_not false header t is = cc

-- what refuses a removal is no want of memory
pub removal_refused : (t new : Tree) (name : List ℕ) (e : Refusal) → remove_segments t name ≡ Err e → Takes (remove name) t (Err (stop_of e)) new
removal_refused t new name NoMemory refused = absurd (removed_or_not (is_name name) (is_header name) _ refused)
removal_refused t new name NoHeader refused = ap made refused
removal_refused t new name BadDelimiters refused = ap made refused
removal_refused t new name (BadSegmentName place) refused = ap made refused
removal_refused t new name TooManySegments refused = ap made refused
removal_refused t new name BadPath refused = ap made refused
removal_refused t new name NoSuchSegment refused = ap made refused
