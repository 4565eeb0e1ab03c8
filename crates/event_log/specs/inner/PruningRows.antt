-- A worked pruning under the built-in plan: two messages, of which the first is delivered and forgotten.
use Rattle.std.specs.Prelude.{◌≡◌, refl, ℕ, List, [], ◌∷◌, ◌++◌, codes, None, Some, Err}
use Rattle.plan_text.specs.inner.BuiltIn.{built_in}
use Rattle.judge_core.specs.Judging.{verdict, header_fault, key_of}
use Rattle.dest_queue.specs.declared.SettleRefusal.TheVariants.{NoSlot}
use Rattle.dest_queue.specs.declared.SlotState.TheVariants.{Waiting, Delivered}
use Rattle.dest_queue.specs.declared.Outcome.TheVariants as outcome
use Rattle.event_log.specs.declared.entry.Told.TheVariants.{Accepted, Filtered, Repeat}
use Rattle.event_log.specs.declared.entry.Entry.TheVariants.{Arrival, Take, Settle}
use Rattle.event_log.specs.declared.refusal.CancelRefusal.TheVariants as cancel_refusal
use Rattle.event_log.specs.declared.refusal.PruneRefusal.TheVariants.{NoSuchMessage, StillLive}
use Rattle.event_log.specs.Answers.{arrival_answer, cancel_answer, known, settle_answer}
use Rattle.event_log.specs.Counting.{channel_counts, destination_counts}
use Rattle.event_log.specs.Folding.{folded, prune_answer, pruned}
use Rattle.event_log.specs.History.{History, of_snapshot, entry_at, next_place, queue, slot}
use Rattle.event_log.specs.inner.History.{history_of}
use Rattle.event_log.specs.inner.Rows.{attempt, first}

-- an admission with the control id 2
abbrev pub second : List ℕ
second = codes "MSH|^~\\&|A|B|||||ADT|2|P|2.5.1" ++ 13 ∷ []

-- both were accepted, and the first was taken and delivered
abbrev pub settled : History
settled =
    history_of built_in 100
    (Arrival 0 0 first (Accepted 0)
    ∷ (Arrival 0 0 second (Accepted 1)
    ∷ (Take (attempt 1) 0
    ∷ (Settle outcome.Delivered (attempt 1) 0 Delivered ∷ []))))

-- ---- what may be forgotten

pub too_many : prune_answer settled 3 ≡ Some NoSuchMessage
unfolding prune_answer verdict header_fault
too_many = refl

pub still_live : prune_answer settled 2 ≡ Some (StillLive 1)
unfolding prune_answer verdict header_fault
still_live = refl

pub may_go : prune_answer settled 1 ≡ None
unfolding prune_answer verdict header_fault
may_go = refl

-- ---- the first is forgotten

-- no entry is held, and indices go on counting
pub no_entry : entry_at (pruned 1 settled) 1 ≡ None
no_entry = refl

pub last_folded : entry_at (pruned 1 settled) 3 ≡ None
last_folded = refl

pub next_is : next_place (pruned 1 settled) ≡ 4
next_is = refl

pub first_gone : slot (pruned 1 settled) 0 0 ≡ None
unfolding verdict header_fault
first_gone = refl

pub no_attempt : settle_answer (pruned 1 settled) (attempt 1) outcome.Delivered 0 ≡ Err NoSlot
unfolding verdict header_fault
no_attempt = refl

pub not_cancelled : cancel_answer (pruned 1 settled) 0 4294967295 ≡ Err cancel_refusal.NoSuchMessage
unfolding verdict header_fault
not_cancelled = refl

-- the second waits as before
pub second_waits : slot (pruned 1 settled) 1 0 ≡ Some (Waiting 0 0)
unfolding verdict header_fault
second_waits = refl

pub second_queued : queue (pruned 1 settled) 0 ≡ 1 ∷ []
unfolding verdict header_fault
second_queued = refl

-- its key is known at its index, so it is a repeat; the first is a message again
pub second_known : known (pruned 1 settled) (key_of 0 second) ≡ Some 1
unfolding verdict header_fault key_of
second_known = refl

pub second_repeated : arrival_answer (pruned 1 settled) 0 second ≡ Some (Repeat 1)
unfolding arrival_answer verdict header_fault key_of
second_repeated = refl

pub first_anew : arrival_answer (pruned 1 settled) 0 first ≡ Some (Accepted 2)
unfolding arrival_answer verdict header_fault key_of
first_anew = refl

-- the counters keep both
pub both_received : (channel_counts (pruned 1 settled) 0).received ≡ 2
unfolding verdict header_fault
both_received = refl

pub one_delivered : (destination_counts (pruned 1 settled) 0).delivered ≡ 1
unfolding verdict header_fault
one_delivered = refl

pub one_waits : (destination_counts (pruned 1 settled) 0).waiting ≡ 1
unfolding verdict header_fault
one_waits = refl

-- ---- what was filtered

-- the first was delivered and is forgotten, and then the second arrived, under a plan that filtered it
abbrev pub delivered : History
delivered =
    history_of built_in 100
    (Arrival 0 0 first (Accepted 0) ∷ (Take (attempt 1) 0 ∷ (Settle outcome.Delivered (attempt 1) 0 Delivered ∷ [])))

abbrev pub filtered_later : History
filtered_later = of_snapshot (folded 1 delivered) (Arrival 0 0 second Filtered ∷ [])

-- it arrived after message 0, which is forgotten already, so nothing is forgotten where no more messages are; before
-- the next message it is
pub filtered_stays : known (pruned 0 filtered_later) (key_of 0 second) ≡ Some 3
unfolding verdict header_fault key_of
filtered_stays = refl

pub filtered_goes : known (pruned 1 filtered_later) (key_of 0 second) ≡ None
unfolding verdict header_fault key_of
filtered_goes = refl
