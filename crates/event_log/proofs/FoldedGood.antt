-- What remains of a pruned history is an opening to go on from, where its counters are good.
use Rattle.std.proofs.Common.{◌≡◌, ℕ, ◌+◌, ◌<◌, ◌≤◌, Bool, true, false, cond, nat_lt, List, [], ◌∷◌, length, Option, None, Some, refl, sym, subst, arith}
use Rattle.std.specs.Prelude.{find}
use Rattle.std.specs.List.{cons_option, range_with_len}
use Rattle.std.specs.Option.{option_map_or}
use Rattle.std.proofs.lemmas.Bool.Decides.{nat_tests}
use Rattle.std.proofs.lemmas.List.Elements.{All-from_recursion}
use Rattle.plan_text.specs.Entries.{PlanEntry}
use Rattle.event_log.specs.declared.entry.Entry.{Entry}
use Rattle.event_log.specs.declared.refusal.PruneRefusal.TheVariants.{NoSuchMessage, StillLive, TooMany}
use Rattle.event_log.specs.Counting.{destination_counts}
use Rattle.event_log.specs.Folding.{folded, forgotten, is_live_message, prune_answer, pruned}
use Rattle.event_log.specs.History.{Accepted, History, accepted_by, accepted_from, message_count, next_place, plan_after}
use Rattle.event_log.specs.inner.History.{forgotten_messages}
use Rattle.event_log.specs.inner.Legal.{AreForgotten, IsGoodOpening, IsSound}
use Rattle.event_log.proofs.FoldedAlike.{destination-same}
use Rattle.event_log.proofs.Forgetting.{in-turn-folded}
use Rattle.event_log.proofs.Memories.{folded-memories, folded-owed, folded-places}
use Rattle.event_log.proofs.MemoryKeys.{folded-keys}
use Rattle.event_log.proofs.MemoryNumbers.{folded-numbers, numbers-within}
use Rattle.event_log.proofs.PrunedRuns.{remaining-within}

-- no more messages come than entries
pub accepted-few : (plan : PlanEntry) (es : List Entry) → length (accepted_from plan es) ≤ length es
accepted-few plan [] = omega arith
accepted-few plan (e ∷ es) = by (accepted_by plan e) (accepted-few (plan_after plan e) es)
  where
    by : (o : Option Accepted) → length (accepted_from (plan_after plan e) es) ≤ length es → length (cons_option o (accepted_from (plan_after plan e) es)) ≤ length (e ∷ es)
    by None rest = omega arith
    by (Some m) rest = omega arith

-- one more pruning may be made
pub prunings-left : (h : History) (bound : ℕ) → prune_answer h bound ≡ None → h.opening.prunings < 1000
unfolding prune_answer
prunings-left h bound is = by (nat_lt (message_count h) bound) (find (is_live_message h) (range_with_len 0 bound)) (nat_lt h.opening.prunings 1000) refl is
  where
    by : (b : Bool) (o : Option ℕ) (c : Bool) → nat_lt h.opening.prunings 1000 ≡ c → cond b (Some NoSuchMessage) (option_map_or (λ n. Some (StillLive n)) o (cond c None (Some TooMany))) ≡ None → h.opening.prunings < 1000
    by true o c few e = absurd cc
    by false (Some n) c few e = absurd cc
    by false None false few e = absurd cc
    by false None true few e = grind (arith, nat_tests)

pub folded-good : (h : History) → IsSound h → (bound : ℕ) → prune_answer h bound ≡ None → h.opening.events_max ≤ 1000000 → AreForgotten (next_place h) (forgotten_messages (pruned bound h)) (forgotten h bound)
    → ((d : ℕ) → d < 32 → (destination_counts h d).inflight + (destination_counts h d).delivered ≤ (destination_counts h d).attempts) → IsGoodOpening (folded bound h)
folded-good h sound bound may small counts taken =
    let held = sound.room in
    let came = accepted-few h.opening.plan h.entries in
    let earlier = sound.opening.messages_few in
    let places = sound.opening.places_few in
    let left = prunings-left h bound may in
    let owes = folded-owed h sound bound may in
    record {
      plan = sound.plan;
      memories = folded-memories h sound bound;
      places = folded-places h sound bound;
      places_within = All-from_recursion (λ r. r.place < next_place h) (folded bound h).remembered (remaining-within h sound bound may);
      numbers = folded-numbers h sound bound;
      numbers_within = numbers-within h sound bound;
      in_turn = in-turn-folded h sound bound may;
      keys = folded-keys h sound bound;
      forgotten = counts;
      were_taken = λ d below. subst (λ c. c.inflight + c.delivered ≤ c.attempts) (sym (destination-same h sound bound may d below)) (taken d below);
      messages_few = omega arith;
      places_few = omega arith;
      prunings_few = omega arith;
      room = omega arith;
    }
