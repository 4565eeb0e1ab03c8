-- A pruning folds a history into the opening that remains of it.
use Rattle.std.proofs.Common.{◌≡◌, ℕ, ◌≤◌, cond, not, nat_lt, List, map, None, Some, sym, ◌∙◌, ap, subst}
use Rattle.std.specs.Prelude.{filter, nat_le, option_and_then}
use Rattle.std.specs.List.Sorted.{IsStrictlyIncreasing}
use Rattle.row_store.specs.declared.Row.{Row}
use Rattle.dest_queue.specs.declared.slots.Queued.{Queued}
use Rattle.dup_index.specs.inner.Known.{Known, place_of}
use Rattle.stat_count.specs.Statistics.{Statistics}
use Rattle.event_log.specs.Folding.{arrival_place, known_arrivals, closing, folded, forgotten, prune_answer, pruned}
use Rattle.event_log.specs.History.{History, Remembered, begun}
use Rattle.event_log.specs.Room.{owed}
use Rattle.event_log.proofs.ArrivalPlaces.{folded-from}
use Rattle.event_log.proofs.Memories.{folded-owed, folded-places}
use Rattle.event_log.proofs.RememberedCounts.{pruned-count}
use Rattle.book_core.specs.declared.letter.Outbound.{Outbound}
use Rattle.book_core.specs.inner.Parts.{IsKept}
use Rattle.book_core.specs.inner.Pruning.{LeavesOut, since}
use Rattle.book_core.proofs.LeftOut.{forgotten-is}
use Rattle.book_core.proofs.PrunedBook.{kept-pruned}

-- what is remembered are the arrivals from a place on, and a tally that leaves them out is kept beside them
module _ (h : History) (rows : List (Row (Queued Outbound))) (index : List Known) (tally : Statistics) (flights room : ℕ)
    (kept : IsKept h rows index tally flights room) (bound : ℕ) (may : prune_answer h bound ≡ None)
    (floor : ℕ) (from : floor ≡ arrival_place h bound) (remembered : List Remembered)
    (are : remembered ≡ since floor (known_arrivals h)) (left : Statistics)
    (leaves : LeavesOut remembered tally left) where
  -- they are what remains
  remain : remembered ≡ (folded bound h).remembered
  remain = are ∙ (ap (λ place. since place (known_arrivals h)) from ∙ sym (folded-from h kept.sound bound may))

  uncounted : left ≡ forgotten h bound
  uncounted = forgotten-is h kept.sound bound may (λ d so. sym (pruned-count h kept.sound bound d so)) tally left kept.are_counted
      (subst (λ rs. LeavesOut rs tally left) remain leaves)

  pub closing-is : closing h left remembered ≡ folded bound h
  closing-is = λ i. closing h (uncounted i) (remain i)

  pub closing-places : IsStrictlyIncreasing (map (λ r. r.place) remembered)
  closing-places = subst (λ rs. IsStrictlyIncreasing (map (λ (r : Remembered). r.place) rs)) (sym remain) (folded-places h kept.sound bound)

  pub closing-owed : owed (begun (closing h left remembered)) ≡ owed h
  closing-owed = ap (λ o. owed (begun o)) closing-is ∙ folded-owed h kept.sound bound may

  -- the parts of the book agree with it
  pub kept-folded : (g : History) → g ≡ begun (closing h left remembered) → (rows' : List (Row (Queued Outbound)))
      → rows' ≡ filter (λ row. not (nat_lt row.number bound)) rows
      → (index' : List Known) (room' : ℕ)
      → ((key : List ℕ) → place_of key index' ≡ option_and_then (λ added. cond (nat_le floor added) (Some added) None) (place_of key index))
      → flights ≤ room'
      → IsKept g rows' index' tally flights room'
  kept-folded g is rows' dropped index' room' found enough =
      let history : pruned bound h ≡ g = sym (is ∙ ap begun closing-is) in
      subst (λ k. IsKept k rows' index' tally flights room') history
      (subst (λ rs. IsKept (pruned bound h) rs index' tally flights room') (sym dropped)
      (kept-pruned h rows index tally flights room kept bound may index' room'
      (λ key. found key ∙ ap (λ place. option_and_then (λ added. cond (nat_le place added) (Some added) None) (place_of key index)) from) enough))
