-- The first message to come that passes a test.
use Rattle.std.proofs.Common.{◌≡◌, ◌+◌, ◌-◌, ◌<◌, ◌∙◌, ◌∷◌, ◌++◌, [], ℕ, zero, suc, Bool, List, Option, None, Some, true, false, take, drop, refl, ap, arith, sym}
use Rattle.std.specs.Prelude.{find, slice_get, if◌then◌else◌}
use Rattle.std.specs.Option.{option_to_list}
use Rattle.er7_tree.specs.Tree.{Tree}
use Rattle.mllp_frame.specs.Event.{FramingEvent}
use Rattle.answer_words.specs.inner.Words.{message_in, messages_in}

-- among no events there is none
pub found_nothing : (p : Tree → Bool) (n : ℕ) (events : List FramingEvent) → slice_get events 0 ≡ None
    → find p (messages_in (take n events)) ≡ None
found_nothing p zero [] none = refl
found_nothing p (suc n) [] none = refl
found_nothing p n (event ∷ events) none = absurd cc

-- one event more is looked at
one_more : (n : ℕ) → n < 9 → 9 - n ≡ suc (9 - (n + 1))
one_more n within = omega arith

-- the first one is found
pub found_here : (p : Tree → Bool) (n : ℕ) (events : List FramingEvent) (event : FramingEvent) (t : Tree) → n < 9
    → slice_get events 0 ≡ Some event → find p (option_to_list (message_in event)) ≡ Some t
    → find p (messages_in (take (9 - n) events)) ≡ Some t
found_here p n [] event t within first found = absurd cc
found_here p n (event' ∷ events) event t within first found =
    let same : event' ≡ event = cc in
    rw (one_more n within, same) (front (message_in event) found)
  where
    front : (o : Option Tree) → find p (option_to_list o) ≡ Some t → find p (option_to_list o ++ messages_in (take (9 - (n + 1)) events)) ≡ Some t
    front (Some u) found = elim (p u) as (λ b. (if b then Some u else None) ≡ Some t → (if b then Some u else find p (messages_in (take (9 - (n + 1)) events))) ≡ Some t) [ true ↦ λ e. e | false ↦ λ e. absurd cc ] found
    front None found = absurd cc

-- the first one is not
pub found_later : (p : Tree → Bool) (n : ℕ) (events : List FramingEvent) (event : FramingEvent) → n < 9
    → slice_get events 0 ≡ Some event → find p (option_to_list (message_in event)) ≡ None
    → find p (messages_in (take (9 - (n + 1)) (drop 1 events))) ≡ find p (messages_in (take (9 - n) events))
found_later p n [] event within first none = absurd cc
found_later p n (event' ∷ events) event within first none =
    let same : event' ≡ event = cc in
    rw (one_more n within, same) (sym (front (message_in event) none))
  where
    front : (o : Option Tree) → find p (option_to_list o) ≡ None
        → find p (option_to_list o ++ messages_in (take (9 - (n + 1)) events)) ≡ find p (messages_in (take (9 - (n + 1)) events))
    front (Some u) none = elim (p u) as (λ b. (if b then Some u else None) ≡ None → (if b then Some u else find p (messages_in (take (9 - (n + 1)) events))) ≡ find p (messages_in (take (9 - (n + 1)) events))) [ true ↦ λ e. absurd cc | false ↦ λ e. refl ] none
    front None none = refl
