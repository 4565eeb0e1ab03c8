-- What follows of what an arrival adds.
use Rattle.std.proofs.Common.{◌≡◌, ℕ, ◌<◌, List, [], Option, Some, refl, sym, ◌∙◌, ap, subst}
use Rattle.std.specs.Prelude.{All}
use Rattle.std.specs.Option.{option_map_or}
use Rattle.hl7_head.specs.Header.{Msh}
use Rattle.plan_text.specs.Entries.{PlanEntry}
use Rattle.judge_core.specs.declared.judged.Verdict.{Verdict}
use Rattle.judge_core.specs.Delivering.{destinations_of}
use Rattle.judge_core.specs.Judging.{verdict as decided}
use Rattle.row_store.specs.declared.Row.{Row}
use Rattle.dest_queue.specs.declared.slots.Queued.{Queued}
use Rattle.event_log.specs.declared.entry.Told.{Told}
use Rattle.event_log.specs.declared.entry.Told.TheVariants as told
use Rattle.event_log.specs.History.{History, plan_in_force}
use Rattle.event_log.specs.Answers.{arrival_answer, is_kept}
use Rattle.event_log.specs.Room.{own, committed_by_new, slots_added}
use Rattle.event_log.proofs.Steps.{IsNumbered}
use Rattle.book_core.specs.declared.arrival.Addition.{Addition}
use Rattle.book_core.specs.declared.arrival.Addition.TheVariants as gain
use Rattle.book_core.specs.declared.letter.Outbound.{Outbound}
use Rattle.book_core.specs.inner.Sending.{HasRoomFor, IsAddition, goes_to, has_key}

-- a key is added where the message is kept by it
pub key-kept : (reply : Told) (id : List ℕ) (v : Verdict) (g : Addition) → IsAddition reply id v g → has_key g ≡ is_kept reply
key-kept (told.Accepted number) id v (gain.Message n c ds) is = refl
key-kept (told.Accepted number) id v gain.Key is = absurd is
key-kept (told.Accepted number) id v gain.Nothing is = absurd is
key-kept told.Filtered id v (gain.Message n c ds) is = absurd is
key-kept told.Filtered id v gain.Key is = refl
key-kept told.Filtered id v gain.Nothing is = absurd is
key-kept (told.Refused cause) id v (gain.Message n c ds) is = absurd is
key-kept (told.Refused cause) id v gain.Key is = absurd is
key-kept (told.Refused cause) id v gain.Nothing is = refl
key-kept (told.Repeat place) id v (gain.Message n c ds) is = absurd is
key-kept (told.Repeat place) id v gain.Key is = absurd is
key-kept (told.Repeat place) id v gain.Nothing is = refl

-- it goes to the slots that are added
goes-added : (plan : PlanEntry) (channel : ℕ) (raw : List ℕ) (reply : Told) (id : List ℕ) (g : Addition) → IsAddition reply id (decided plan channel raw) g → destinations_of (goes_to g) ≡ slots_added plan channel raw reply
goes-added plan channel raw (told.Accepted number) id (gain.Message n c ds) is = ap destinations_of is.2
goes-added plan channel raw (told.Accepted number) id gain.Key is = absurd is
goes-added plan channel raw (told.Accepted number) id gain.Nothing is = absurd is
goes-added plan channel raw told.Filtered id (gain.Message n c ds) is = absurd is
goes-added plan channel raw told.Filtered id gain.Key is = refl
goes-added plan channel raw told.Filtered id gain.Nothing is = absurd is
goes-added plan channel raw (told.Refused cause) id (gain.Message n c ds) is = absurd is
goes-added plan channel raw (told.Refused cause) id gain.Key is = absurd is
goes-added plan channel raw (told.Refused cause) id gain.Nothing is = refl
goes-added plan channel raw (told.Repeat place) id (gain.Message n c ds) is = absurd is
goes-added plan channel raw (told.Repeat place) id gain.Key is = absurd is
goes-added plan channel raw (told.Repeat place) id gain.Nothing is = refl

-- the same by the plan in force
pub gain-added : (h : History) (plan : PlanEntry) (channel : ℕ) (raw : List ℕ) (reply : Told) (id : List ℕ) (g : Addition) → plan ≡ plan_in_force h → IsAddition reply id (decided plan channel raw) g
    → destinations_of (goes_to g) ≡ slots_added (plan_in_force h) channel raw reply
gain-added h plan channel raw reply id g same is = goes-added plan channel raw reply id g is ∙ ap (λ p. slots_added p channel raw reply) same

-- what they owe is what the arrival owes
pub gain-owed : (h : History) (plan : PlanEntry) (channel : ℕ) (raw : List ℕ) (reply : Told) (id : List ℕ) (g : Addition) (mine : ℕ) → plan ≡ plan_in_force h → arrival_answer h channel raw ≡ Some reply
    → IsAddition reply id (decided plan channel raw) g → mine ≡ committed_by_new (plan_in_force h) (destinations_of (goes_to g)) → mine ≡ own h channel raw
gain-owed h plan channel raw reply id g mine same answered is owes =
    owes ∙ (ap (committed_by_new (plan_in_force h)) (gain-added h plan channel raw reply id g same is) ∙ sym (own-answered h channel raw reply answered))
  where
    own-answered : (h : History) (channel : ℕ) (raw : List ℕ) (reply : Told) → arrival_answer h channel raw ≡ Some reply → own h channel raw ≡ committed_by_new (plan_in_force h) (slots_added (plan_in_force h) channel raw reply)
    own-answered h channel raw reply answered = rw answered refl

-- there is room for the next number
pub gain-next : (reply : Told) (id : List ℕ) (v : Verdict) (g : Addition) (next : ℕ) (rows : List (Row (Queued Outbound))) → IsAddition reply id v g → IsNumbered next reply → All (λ row. row.number < next) rows → HasRoomFor g rows
gain-next (told.Accepted number) id v (gain.Message n c ds) next rows is numbered below = subst (λ k. All (λ (row : Row (Queued Outbound)). row.number < k) rows) (sym (is.0 ∙ numbered)) below
gain-next (told.Accepted number) id v gain.Key next rows is numbered below = tt
gain-next (told.Accepted number) id v gain.Nothing next rows is numbered below = tt
gain-next told.Filtered id v (gain.Message n c ds) next rows is numbered below = absurd is
gain-next told.Filtered id v gain.Key next rows is numbered below = tt
gain-next told.Filtered id v gain.Nothing next rows is numbered below = tt
gain-next (told.Refused cause) id v (gain.Message n c ds) next rows is numbered below = absurd is
gain-next (told.Refused cause) id v gain.Key next rows is numbered below = tt
gain-next (told.Refused cause) id v gain.Nothing next rows is numbered below = tt
gain-next (told.Repeat place) id v (gain.Message n c ds) next rows is numbered below = absurd is
gain-next (told.Repeat place) id v gain.Key next rows is numbered below = tt
gain-next (told.Repeat place) id v gain.Nothing next rows is numbered below = tt

-- the control id of a text that has a header
pub id_known : (o : Option Msh) (h : Msh) → Some h ≡ o → h.control_id ≡ option_map_or (λ h. h.control_id) o []
id_known o h e = ap (λ (o : Option Msh). option_map_or (λ h. h.control_id) o []) e
