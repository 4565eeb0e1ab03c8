-- The worked history is one that a sequential engine gives: each entry, with its reply, may follow those before it.
use Rattle.std.proofs.Common.{◌≡◌, Bool, true, false, not, [], ◌∷◌, ◌++◌, get_or, Ok, refl, arith}
use Rattle.std.proofs.lemmas.List.Sums.{AllPass-from_list_all}
use Rattle.mllp_frame.specs.Framing.{IsBlockData, is_framing}
use Rattle.plan_text.specs.inner.BuiltIn.{built_in}
use Rattle.judge_core.specs.Judging.{verdict, header_fault, key_of}
use Rattle.dest_queue.specs.declared.SlotState.TheVariants.{Waiting, Failed}
use Rattle.dest_queue.specs.declared.FailCause.TheVariants.{Exhausted}
use Rattle.dest_queue.specs.declared.Outcome.TheVariants.{Again}
use Rattle.event_log.specs.declared.entry.Told.TheVariants.{Accepted}
use Rattle.event_log.specs.declared.entry.Entry.TheVariants.{Arrival, Take, Settle}
use Rattle.event_log.specs.inner.History.{history_of, snapshot_after}
use Rattle.event_log.specs.Answers.{arrival_answer, settle_answer, take_answer}
use Rattle.event_log.specs.Legal.{IsLegal}
use Rattle.event_log.specs.Room.{is_full, total}
use Rattle.event_log.specs.inner.Rows.{attempt, came, exhausted, first, is_accepted, first_attempt, first_retry, second_attempt, third_failed, last_taken, taken, tried, waits}
use Rattle.event_log.proofs.Events.{arrival-answered}
use Rattle.event_log.proofs.Following.{legal-followed_by, legal-since}

-- the message fits a block
fits : IsBlockData first
fits = record { plain = λ k d inside. clear (is_framing (get_or first k d)) (AllPass-from_list_all (λ b. not (is_framing b)) first refl k d inside); bounded = omega arith }
  where
    clear : (b : Bool) → not b ≡ true → b ≡ false
    clear true t = absurd cc
    clear false t = refl

-- it has room
has-room : is_full (snapshot_after built_in 20) 0 first ≡ false
unfolding arrival_answer verdict header_fault key_of is_full total
has-room = refl

legal-came : IsLegal (history_of built_in 20 came)
legal-came =
    legal-followed_by (snapshot_after built_in 20) (Arrival 0 0 first (Accepted 0)) (legal-since (snapshot_after built_in 20) (λ k e got. absurd cc))
    (record { possible = fits; replied = arrival-answered (snapshot_after built_in 20) 0 0 first (Accepted 0) has-room is_accepted })

legal-taken : IsLegal (history_of built_in 20 taken)
legal-taken = legal-followed_by (history_of built_in 20 came) (Take (attempt 1) 0) legal-came (record { possible = tt; replied = first_attempt })

legal-waits : IsLegal (history_of built_in 20 waits)
legal-waits = legal-followed_by (history_of built_in 20 taken) (Settle Again (attempt 1) 100 (Waiting 1 110)) legal-taken (record { possible = tt; replied = first_retry })

-- the second attempt has to be made again too
retry-2 : settle_answer (history_of built_in 20 (waits ++ Take (attempt 2) 110 ∷ [])) (attempt 2) Again 111 ≡ Ok (Waiting 2 121)
unfolding verdict header_fault
retry-2 = refl

third : take_answer (history_of built_in 20 (waits ++ tried 2 110 111)) 0 121 ≡ Ok (attempt 3)
unfolding verdict header_fault
third = refl

legal-last_taken : IsLegal (history_of built_in 20 last_taken)
legal-last_taken =
    legal-followed_by (history_of built_in 20 (waits ++ tried 2 110 111)) (Take (attempt 3) 121)
    (legal-followed_by (history_of built_in 20 (waits ++ Take (attempt 2) 110 ∷ [])) (Settle Again (attempt 2) 111 (Waiting 2 121))
    (legal-followed_by (history_of built_in 20 waits) (Take (attempt 2) 110) legal-waits (record { possible = tt; replied = second_attempt })) (record { possible = tt; replied = retry-2 })) (record { possible = tt; replied = third })

-- the whole of it: three attempts, and none after them
pub legal-exhausted : IsLegal (history_of built_in 20 exhausted)
legal-exhausted = legal-followed_by (history_of built_in 20 last_taken) (Settle Again (attempt 3) 121 (Failed Exhausted)) legal-last_taken (record { possible = tt; replied = third_failed })
