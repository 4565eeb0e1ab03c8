-- What the blocks of a stream hold, and reading back what was written.
use Rattle.std.proofs.Common.{◌≡◌, ℕ, ◌<◌, ◌==◌, List, [], ◌∷◌, ◌++◌, length, map, Some, option_to_list, inl, inr, refl, sym, ap, ◌∙◌, subst, arith}
use Rattle.std.proofs.lemmas.Bool.{cases_Bool, cases_lt}
use Rattle.std.proofs.lemmas.List.Elements.{recursion_from_All, All-from_recursion}
use Rattle.std.specs.List.{AllByRecursion, flat_map}
use Rattle.mllp_frame.specs.declared.Break.TheVariants.{NewStart, BadEnd}
use Rattle.mllp_frame.specs.Event.{FramingEvent, block, broken}
use Rattle.mllp_frame.specs.inner.Framed.{AddsFront}
use Rattle.mllp_frame.specs.Framing.{start_block, end_block, carriage_return, data_max, ended_block, decision, block_outcome, blocks, block_bytes, IsBlockData}
use Rattle.mllp_frame.specs.inner.Framing.{open_end, HoldsData}
use Rattle.mllp_frame.specs.inner.Stage.{Reads}
use Rattle.mllp_frame.proofs.Cuts.{Plain, NoStart-plain, cut, outcome_of-cut, open_end-quiet}
use Rattle.mllp_frame.proofs.Appending.{blocks-append, open_end-append, open_end-closed, option_cases, blocks-other, blocks-start}
use Rattle.mllp_frame.proofs.Rules.{rule_whole, ended_block-whole, ended_block-long}

-- ---- each event holds data

abbrev AllHoldData : List FramingEvent → Type 0
AllHoldData events = AllByRecursion HoldsData events

AllHoldData-append : (a b : List FramingEvent) → AllHoldData a → AllHoldData b → AllHoldData (a ++ b)
AllHoldData-append [] b one two = two
AllHoldData-append (e ∷ a) b one two = (one.0, AllHoldData-append a b one.1 two)

AllHoldData-front : (a b : List FramingEvent) → AllHoldData (a ++ b) → AllHoldData a
AllHoldData-front [] b both = tt
AllHoldData-front (e ∷ a) b both = (both.0, AllHoldData-front a b both.1)

ended_data : (d : List ℕ) → Plain d → HoldsData (ended_block d)
ended_data d plain =
    elim (cases_lt data_max (length d)) as (λ _. HoldsData (ended_block d)) [
      | inl long ↦ subst HoldsData (sym (ended_block-long d long)) tt
      | inr fits ↦
          let holds : IsBlockData d = record { plain = All-from_recursion _ d plain; bounded = fits } in
          subst HoldsData (sym (ended_block-whole d fits)) holds
    ]

decision_data : (d r : List ℕ) (e : FramingEvent) → Plain d → decision d r ≡ Some e → HoldsData e
decision_data d [] e plain is = cc
decision_data d (b ∷ []) e plain is =
    elim (cases_Bool (b == start_block)) as (λ _. HoldsData e) [
      | inl start ↦ let known : Some (broken NewStart) ≡ Some e = rw start at is in let same : broken NewStart ≡ e = cc in subst HoldsData same tt
      | inr other ↦ let known = rw other at is in cc
    ]
decision_data d (b ∷ c ∷ r) e plain is =
    elim (cases_Bool (b == start_block)) as (λ _. HoldsData e) [
      | inl start ↦ let known : Some (broken NewStart) ≡ Some e = rw start at is in let same : broken NewStart ≡ e = cc in subst HoldsData same tt
      | inr other ↦
          elim (cases_Bool (c == carriage_return)) as (λ _. HoldsData e) [
            | inl ends ↦ let known : Some (ended_block d) ≡ Some e = rw (other, ends) at is in let same : ended_block d ≡ e = cc in subst HoldsData same (ended_data d plain)
            | inr bad ↦ let known : Some (broken BadEnd) ≡ Some e = rw (other, bad) at is in let same : broken BadEnd ≡ e = cc in subst HoldsData same tt
          ]
    ]

outcome_data : (s : List ℕ) (e : FramingEvent) → block_outcome s ≡ Some e → HoldsData e
outcome_data s e is =
    let parts = cut s in
    decision_data parts.front parts.after e parts.plain (sym (outcome_of-cut parts.front parts.after parts.plain parts.stops) ∙ sym (ap block_outcome parts.whole) ∙ is)

pub blocks_data : (s : List ℕ) → AllHoldData (blocks s)
blocks_data [] = tt
blocks_data (b ∷ s) =
    let later : AllHoldData (blocks s) = blocks_data s in
    elim (cases_Bool (b == start_block)) as (λ _. AllHoldData (blocks (b ∷ s))) [
      | inr other ↦ subst AllHoldData (sym (blocks-other b s other)) later
      | inl start ↦
          elim (option_cases (block_outcome s)) as (λ _. AllHoldData (blocks (b ∷ s))) [
            | inl is ↦ subst AllHoldData (sym (blocks-start b s start ∙ ap (λ o. option_to_list o ++ blocks s) is)) later
            | inr found ↦ subst AllHoldData (sym (blocks-start b s start ∙ ap (λ o. option_to_list o ++ blocks s) found.1)) (outcome_data s found.0 found.1, later)
          ]
    ]

pub front_data : (old new : List FramingEvent) (s : List ℕ) → AllHoldData old → AddsFront old new (blocks s) → AllHoldData new
front_data old new s had adds =
    let found : AllHoldData (adds.added ++ adds.missed) = subst AllHoldData adds.front (blocks_data s) in
    subst AllHoldData (sym adds.grows) (AllHoldData-append old adds.added had (AllHoldData-front adds.added adds.missed found))

pub read_data : (old new : List FramingEvent) (before after : List ℕ) → AllHoldData old → Reads old new before after → AllHoldData new
read_data old new before after had reads =
    let adds : AddsFront old new (blocks before) = record { added = reads.added; missed = blocks after; grows = reads.events; front = reads.front } in
    front_data old new before had adds

-- the first of the events to come
pub first_data : (events : List FramingEvent) (e : FramingEvent) (rest : List FramingEvent) → AllHoldData events → events ≡ e ∷ rest → HoldsData e
first_data events e rest had is = let now : AllHoldData (e ∷ rest) = subst AllHoldData is had in now.0

-- ---- reading back

module _ (d : List ℕ) (holds : IsBlockData d) where
  none_skipped : (k : ℕ) (b : ℕ) → k < 0 → ⊥
  none_skipped k b below = omega arith

  pub block_alone : blocks (block_bytes d) ≡ block d ∷ []
  block_alone = rule_whole [] d [] (λ k b below. absurd (none_skipped k b below)) holds.plain ∙ ap (λ e. e ∷ []) (ended_block-whole d holds.bounded)

  pub nothing_open : open_end (block_bytes d) ≡ []
  nothing_open =
      let plain : Plain d = recursion_from_All _ d holds.plain in
      let tail : List ℕ = end_block ∷ carriage_return ∷ [] in
      open_end-closed start_block (d ++ end_block ∷ carriage_return ∷ []) (ended_block d) (outcome_of-cut d (end_block ∷ carriage_return ∷ []) plain refl)
      ∙ open_end-quiet d (end_block ∷ carriage_return ∷ []) (NoStart-plain d plain)

pub block_behind : (s d : List ℕ) → open_end s ≡ [] → IsBlockData d → blocks (s ++ block_bytes d) ≡ blocks s ++ block d ∷ []
block_behind s d outside holds =
    blocks-append s (block_bytes d) ∙ ap (λ l. blocks s ++ blocks (l ++ block_bytes d)) outside ∙ ap (λ l. blocks s ++ l) (block_alone d holds)

pub nothing_open_behind : (s d : List ℕ) → open_end s ≡ [] → IsBlockData d → open_end (s ++ block_bytes d) ≡ []
nothing_open_behind s d outside holds = open_end-append s (block_bytes d) ∙ ap (λ l. open_end (l ++ block_bytes d)) outside ∙ nothing_open d holds

pub blocks_in_row : (texts : List (List ℕ)) → AllByRecursion IsBlockData texts → blocks (flat_map block_bytes texts) ≡ map block texts
blocks_in_row [] holds = refl
blocks_in_row (d ∷ texts) holds =
    blocks-append (block_bytes d) (flat_map block_bytes texts)
    ∙ ap (λ l. blocks (block_bytes d) ++ blocks (l ++ flat_map block_bytes texts)) (nothing_open d holds.0)
    ∙ ap (λ l. l ++ blocks (flat_map block_bytes texts)) (block_alone d holds.0)
    ∙ ap (λ l. block d ∷ l) (blocks_in_row texts holds.1)
