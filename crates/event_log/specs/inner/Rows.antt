-- Worked histories under the built-in plan: one destination, three attempts, ten seconds between two.
use Rattle.std.specs.Prelude.{◌≡◌, refl, ℕ, true, false, List, [], ◌∷◌, ◌++◌, ◌+◌, codes, Some, Ok, Err}
use Rattle.hl7_head.specs.declared.ack.Cause.TheVariants.{IdReused}
use Rattle.plan_text.specs.inner.BuiltIn.{built_in}
use Rattle.judge_core.specs.Judging.{verdict, header_fault, key_of}
use Rattle.dest_queue.specs.declared.SlotState.TheVariants.{Waiting, Failed}
use Rattle.dest_queue.specs.declared.FailCause.TheVariants.{Cancelled, Exhausted}
use Rattle.dest_queue.specs.declared.Outcome.TheVariants.{Again}
use Rattle.event_log.specs.declared.entry.Ticket.{Ticket}
use Rattle.event_log.specs.declared.entry.Told.TheVariants.{Accepted, Refused, Repeat}
use Rattle.event_log.specs.declared.entry.Entry.{Entry}
use Rattle.event_log.specs.declared.entry.Entry.TheVariants.{Arrival, Take, Settle, Cancel}
use Rattle.event_log.specs.declared.refusal.TakeRefusal.TheVariants.{Idle, InFlightNow, NotDue}
use Rattle.event_log.specs.declared.refusal.CancelRefusal.TheVariants.{NoSuchMessage, NothingWaiting}
use Rattle.event_log.specs.History.{queue, slot}
use Rattle.event_log.specs.inner.History.{history_of, snapshot_after}
use Rattle.event_log.specs.Answers.{arrival_answer, cancel_answer, mask_where, settle_answer, take_answer}
use Rattle.event_log.specs.Room.{is_full, owed, total}

-- an admission with the control id 1, and one more text with that id
abbrev pub first : List ℕ
first = codes "MSH|^~\\&|A|B|||||ADT|1|P|2.5.1" ++ 13 ∷ []

abbrev pub other : List ℕ
other = first ++ codes "PID|1" ++ 13 ∷ []

-- the right to settle an attempt to deliver message 0 to destination 0
abbrev pub attempt : ℕ → Ticket
attempt n = record { number = 0; destination = 0; attempt = n }

-- what is booked of an attempt that has to be made again
abbrev pub tried : ℕ → ℕ → ℕ → List Entry
tried n taken settled = Take (attempt n) taken ∷ (Settle Again (attempt n) settled (Waiting n (settled + 10)) ∷ [])

-- the message was accepted; it was taken; it waits for its second attempt
abbrev pub came : List Entry
came = Arrival 0 0 first (Accepted 0) ∷ []

abbrev pub taken : List Entry
taken = came ++ Take (attempt 1) 0 ∷ []

abbrev pub waits : List Entry
waits = came ++ tried 1 0 100

-- its third attempt is under way; it has failed
abbrev pub last_taken : List Entry
last_taken = waits ++ tried 2 110 111 ++ Take (attempt 3) 121 ∷ []

abbrev pub exhausted : List Entry
exhausted = last_taken ++ Settle Again (attempt 3) 121 (Failed Exhausted) ∷ []

-- ---- arrivals

pub is_accepted : arrival_answer (snapshot_after built_in 20) 0 first ≡ Some (Accepted 0)
unfolding arrival_answer verdict header_fault key_of
is_accepted = refl

-- the same bytes again, and others with that control id
pub is_repeated : arrival_answer (history_of built_in 20 came) 0 first ≡ Some (Repeat 0)
unfolding arrival_answer key_of
is_repeated = refl

pub is_reused : arrival_answer (history_of built_in 20 came) 0 other ≡ Some (Refused IdReused)
unfolding arrival_answer key_of
is_reused = refl

-- ---- attempts

-- an accepted message waits in the queue of its destination
pub queued : queue (history_of built_in 20 came) 0 ≡ 0 ∷ []
unfolding verdict header_fault
queued = refl

-- the first attempt, and none while it is under way
pub first_attempt : take_answer (history_of built_in 20 came) 0 0 ≡ Ok (attempt 1)
unfolding verdict header_fault
first_attempt = refl

pub in_flight_now : take_answer (history_of built_in 20 taken) 0 0 ≡ Err (InFlightNow 0)
unfolding verdict header_fault
in_flight_now = refl

-- it has to be made again: the second is due ten seconds later, and not before
pub first_retry : settle_answer (history_of built_in 20 taken) (attempt 1) Again 100 ≡ Ok (Waiting 1 110)
unfolding verdict header_fault
first_retry = refl

pub not_due : take_answer (history_of built_in 20 waits) 0 109 ≡ Err (NotDue 110)
unfolding verdict header_fault
not_due = refl

pub second_attempt : take_answer (history_of built_in 20 waits) 0 110 ≡ Ok (attempt 2)
unfolding verdict header_fault
second_attempt = refl

-- there is no fourth attempt
pub third_failed : settle_answer (history_of built_in 20 last_taken) (attempt 3) Again 121 ≡ Ok (Failed Exhausted)
unfolding verdict header_fault
third_failed = refl

pub nothing_left : take_answer (history_of built_in 20 exhausted) 0 200 ≡ Err Idle
unfolding verdict header_fault
nothing_left = refl

pub empty_queue : queue (history_of built_in 20 exhausted) 0 ≡ []
unfolding verdict header_fault
empty_queue = refl

-- ---- cancellations

-- a message that waits is cancelled at its destination, and an attempt under way is not
pub cancelled : cancel_answer (history_of built_in 20 came) 0 4294967295 ≡ Ok 1
unfolding verdict header_fault mask_where
cancelled = refl

pub cancelled_slot : slot (history_of built_in 20 (came ++ Cancel 0 4294967295 1 ∷ [])) 0 0 ≡ Some (Failed Cancelled)
unfolding verdict header_fault
cancelled_slot = refl

pub not_cancelled : cancel_answer (history_of built_in 20 taken) 0 4294967295 ≡ Err NothingWaiting
unfolding verdict header_fault mask_where
not_cancelled = refl

-- it is cancelled among some destinations where these name its own
pub cancelled_among : cancel_answer (history_of built_in 20 came) 0 5 ≡ Ok 1
unfolding verdict header_fault mask_where
cancelled_among = refl

pub elsewhere : cancel_answer (history_of built_in 20 came) 0 6 ≡ Err NothingWaiting
unfolding verdict header_fault mask_where
elsewhere = refl

pub no_message : cancel_answer (history_of built_in 20 came) 1 4294967295 ≡ Err NoSuchMessage
unfolding verdict header_fault mask_where
no_message = refl

-- ---- room

-- three takes and their settlements, and a cancellation
pub owed_waiting : owed (history_of built_in 20 came) ≡ 7
unfolding verdict header_fault total
owed_waiting = refl

pub owed_in_flight : owed (history_of built_in 20 taken) ≡ 6
unfolding verdict header_fault total
owed_in_flight = refl

pub owed_settled : owed (history_of built_in 20 exhausted) ≡ 0
unfolding verdict header_fault total
owed_settled = refl

-- with its own entry these are eight: a book of eight has room for its first message, and one of seven has not
pub has_room : is_full (snapshot_after built_in 8) 0 first ≡ false
unfolding arrival_answer verdict header_fault key_of is_full total
has_room = refl

pub has_no_room : is_full (snapshot_after built_in 7) 0 first ≡ true
unfolding arrival_answer verdict header_fault key_of is_full total
has_no_room = refl
