-- A pruned history goes on like the one that was pruned.
use Rattle.std.proofs.Common.{◌≡◌, ℕ, ◌+◌, ◌<◌, ◌≤◌, Bool, true, false, cond, not, List, [], ◌∷◌, length, map, Option, None, Some, refl, sym, ◌∙◌, ap, subst, arith}
use Rattle.std.specs.Prelude.{filter, find}
use Rattle.std.specs.List.{AllByRecursion, cons_option}
use Rattle.std.specs.Option.{option_map, option_map_or}
use Rattle.std.proofs.lemmas.List.Elements.{recursion_from_All}
use Rattle.dest_queue.specs.declared.SlotState.TheVariants.{Waiting}
use Rattle.dest_queue.specs.Slots.{state_at}
use Rattle.event_log.specs.declared.entry.Entry.{Entry}
use Rattle.event_log.specs.declared.entry.Entry.TheVariants.{Arrival, Take, Settle, Cancel, Deploy}
use Rattle.event_log.specs.Alike.{forgotten_by}
use Rattle.event_log.specs.Answers.{is_kept}
use Rattle.event_log.specs.Folding.{known_arrivals, folded, is_forgotten, prune_answer, pruned, recalled}
use Rattle.event_log.specs.History.{History, Remembered, message_count, next_place, remembered_as, state}
use Rattle.event_log.specs.inner.Legal.{IsSound}
use Rattle.event_log.proofs.FoldedAlike.{all-append, pruned-alike, remains-of, same-count, few}
use Rattle.event_log.proofs.Reading.{message-beyond}
use Rattle.event_log.proofs.Recalling.{arrivals-are, is_of, recalled-message, recalled_all, renewed, what_came, what_is}
use Rattle.event_log.proofs.RunningAlike.{Both, known-inside, sound-orderly}
use Rattle.event_log.proofs.StayingAlike.{Orderly}

-- ---- where the arrivals that are kept stand

pub all-filter : (Q : Remembered → Type 0) (keep : Remembered → Bool) (rs : List Remembered) → AllByRecursion Q rs → AllByRecursion Q (filter keep rs)
all-filter Q keep [] all = tt
all-filter Q keep (r ∷ rs) all = by (keep r) (all-filter Q keep rs all.1)
  where
    by : (b : Bool) → AllByRecursion Q (filter keep rs) → AllByRecursion Q (cond b (r ∷ filter keep rs) (filter keep rs))
    by true rest = (all.0, rest)
    by false rest = rest

within-renewed : (h : History) (mid high : ℕ) (rs : List Remembered) → mid ≤ high → AllByRecursion (λ r. r.place < mid) rs → AllByRecursion (λ r. r.place < high) (map (renewed h) rs)
within-renewed h mid high [] less within = tt
within-renewed h mid high (r ∷ rs) less within = let first = within.0 in (omega arith, within-renewed h mid high rs less within.1)

within-entries : (h : History) (a high : ℕ) (es : List Entry) → a + length es ≤ high → AllByRecursion (λ r. r.place < high) (recalled_all h a es)
within-entries h a high [] less = tt
within-entries h a high (Arrival conn channel raw reply ∷ es) less = by (is_kept reply) (within-entries h (a + 1) high es (omega arith))
  where
    by : (b : Bool) → AllByRecursion (λ r. r.place < high) (recalled_all h (a + 1) es) → AllByRecursion (λ r. r.place < high) (cons_option (cond b (Some (recalled h a channel raw reply)) None) (recalled_all h (a + 1) es))
    by true rest = (omega arith, rest)
    by false rest = rest
within-entries h a high (Take ticket now ∷ es) less = within-entries h (a + 1) high es (omega arith)
within-entries h a high (Settle outcome ticket now state ∷ es) less = within-entries h (a + 1) high es (omega arith)
within-entries h a high (Cancel number among mask ∷ es) less = within-entries h (a + 1) high es (omega arith)
within-entries h a high (Deploy plan ∷ es) less = within-entries h (a + 1) high es (omega arith)

pub arrivals-within : (h : History) → IsSound h → AllByRecursion (λ r. r.place < next_place h) (known_arrivals h)
arrivals-within h sound =
    subst (AllByRecursion (λ r. r.place < next_place h)) (sym (arrivals-are h))
    (all-append (λ r. r.place < next_place h) (map (renewed h) h.opening.remembered) (recalled_all h h.opening.places h.entries)
    (within-renewed h h.opening.places (next_place h) h.opening.remembered (omega arith) (recursion_from_All (λ r. r.place < h.opening.places) h.opening.remembered sound.opening.places_within))
    (within-entries h h.opening.places (next_place h) h.entries (omega arith)))

module _ (h : History) (sound : IsSound h) (bound : ℕ) (may : prune_answer h bound ≡ None) where
  pub remaining-within : AllByRecursion (λ r. r.place < next_place h) (filter (λ r. not (is_forgotten h bound r)) (known_arrivals h))
  remaining-within = all-filter (λ r. r.place < next_place h) (λ r. not (is_forgotten h bound r)) (known_arrivals h) (arrivals-within h sound)

  -- no message to come is remembered
  pub unremembered : (n : ℕ) → message_count h ≤ n → remembered_as (folded bound h) n ≡ None
  unremembered n beyond =
      let enough = few h sound bound may in
      remains-of h sound bound may n (omega arith) ∙ by (find (is_of n) (known_arrivals h)) (recalled-message h sound n ∙ ap (option_map what_is) (message-beyond h n beyond))
    where
      by : (o : Option Remembered) → option_map what_came o ≡ None → o ≡ None
      by None is = refl
      by (Some r) is = absurd cc

  pruned-orderly : Orderly (pruned bound h)
  pruned-orderly = record {
    places = remaining-within;
    inside = known-inside (pruned bound h) remaining-within;
    to_come = λ n d beyond.
        ap (λ o. option_map_or (λ r. option_map_or (λ s. s) (state_at d r.slots) (Waiting 0 0)) o (Waiting 0 0))
        (unremembered n (subst (λ k. k ≤ n) (same-count h sound bound may) beyond));
  }

  -- both are alike and orderly
  pub pruned-both : Both (forgotten_by bound h) h (pruned bound h)
  pruned-both = record { alike = pruned-alike h sound bound may; orderly = sound-orderly h sound; its_orderly = pruned-orderly }
