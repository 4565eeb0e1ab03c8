-- What follows of the answer to an arrival.
use Rattle.std.proofs.Common.{◌≡◌, ℕ, Bool, true, false, not, List, Option, None, Some, Result, Ok, Err, refl, sym, ◌∙◌, ap, subst}
use Rattle.std.specs.Prelude.{if◌then◌else◌, IsTrue}
use Rattle.std.specs.Option.{option_map_or}
use Rattle.std.specs.Result.{IsErrAnd, is_ok}
use Rattle.hl7_head.specs.declared.ack.Cause.TheVariants.{IdReused}
use Rattle.plan_text.specs.Entries.{PlanEntry}
use Rattle.judge_core.specs.declared.judged.Verdict.{Verdict}
use Rattle.judge_core.specs.declared.judged.Verdict.TheVariants as verdict
use Rattle.judge_core.specs.Judging.{is_bookable, key_of, verdict as decided}
use Rattle.event_log.specs.declared.entry.Told.{Told}
use Rattle.event_log.specs.declared.entry.Told.TheVariants as told
use Rattle.event_log.specs.History.{History, message_count, plan_in_force}
use Rattle.event_log.specs.Answers.{arrival_answer, brings_at, is_kept, known, told_by}
use Rattle.event_log.specs.Event.{MemoryIsLast, Event, Refusal, Reply, answer as event_answer}
use Rattle.event_log.specs.Room.{is_over_limit, is_full, own}
use Rattle.book_core.specs.declared.receipt.NotBooked.{NotBooked}
use Rattle.book_core.specs.declared.receipt.NotBooked.TheVariants.{NoMemory, Full}
use Rattle.book_core.specs.inner.Sending.{IsAccepting}

-- ---- what is told

-- what a verdict alone is told fits the verdict
accepting-by : (v : Verdict) (count : ℕ) (reply : Told) → told_by count v ≡ Some reply → IsAccepting reply v
accepting-by verdict.Unreadable count reply is = absurd cc
accepting-by verdict.Stray count reply is = absurd cc
accepting-by (verdict.Refuse cause) count (told.Accepted number) is = absurd cc
accepting-by verdict.Filtered count (told.Accepted number) is = absurd cc
accepting-by (verdict.Accept deliveries) count (told.Accepted number) is = (deliveries, refl)
accepting-by v count told.Filtered is = tt
accepting-by v count (told.Refused cause) is = tt
accepting-by v count (told.Repeat place) is = tt

-- a message whose key is known is not accepted
accepting-again : (same : Bool) (place : ℕ) (v : Verdict) (reply : Told) → Some (if same then told.Repeat place else told.Refused IdReused) ≡ Some reply → IsAccepting reply v
accepting-again true place v (told.Accepted number) is = absurd cc
accepting-again false place v (told.Accepted number) is = absurd cc
accepting-again same place v told.Filtered is = tt
accepting-again same place v (told.Refused cause) is = tt
accepting-again same place v (told.Repeat again) is = tt

-- so what is told fits the verdict
accepting-told : (bookable : Bool) (seen : Option ℕ) (same : ℕ → Bool) (v : Verdict) (count : ℕ) (reply : Told)
    → (if bookable then option_map_or (λ place. Some (if same place then told.Repeat place else told.Refused IdReused)) seen (told_by count v) else None) ≡ Some reply → IsAccepting reply v
accepting-told false seen same v count reply is = absurd cc
accepting-told true None same v count reply is = accepting-by v count reply is
accepting-told true (Some place) same v count reply is = accepting-again (same place) place v reply is

-- the answer is one that fits the verdict
pub told-accepting : (h : History) (plan : PlanEntry) (channel : ℕ) (raw : List ℕ) (v : Verdict) (reply : Told) → plan ≡ plan_in_force h → v ≡ decided plan channel raw → arrival_answer h channel raw ≡ Some reply → IsAccepting reply v
unfolding arrival_answer
told-accepting h plan channel raw v reply same says is =
    subst (IsAccepting reply) (sym (says ∙ ap (λ p. decided p channel raw) same))
    (accepting-told (is_bookable raw) (known h (key_of channel raw)) (brings_at h raw) (decided (plan_in_force h) channel raw) (message_count h) reply is)

-- a message whose key is known is not kept by it again
again-kept : (same : Bool) (place : ℕ) (reply : Told) → Some (if same then told.Repeat place else told.Refused IdReused) ≡ Some reply → is_kept reply ≡ true → ⊥
again-kept true place (told.Accepted number) is keeps = cc
again-kept false place (told.Accepted number) is keeps = cc
again-kept true place told.Filtered is keeps = cc
again-kept false place told.Filtered is keeps = cc
again-kept same place (told.Refused cause) is keeps = cc
again-kept same place (told.Repeat again) is keeps = cc

-- so a message that is kept by its key came with one that is not known
unknown-told : (bookable : Bool) (seen : Option ℕ) (same : ℕ → Bool) (v : Verdict) (count : ℕ) (reply : Told)
    → (if bookable then option_map_or (λ place. Some (if same place then told.Repeat place else told.Refused IdReused)) seen (told_by count v) else None) ≡ Some reply → is_kept reply ≡ true → seen ≡ None
unknown-told false seen same v count reply is keeps = absurd cc
unknown-told true None same v count reply is keeps = refl
unknown-told true (Some place) same v count reply is keeps = absurd (again-kept (same place) place reply is keeps)

-- the key of a message that is kept by it is not known
pub told-unknown : (h : History) (channel : ℕ) (raw : List ℕ) (reply : Told) → arrival_answer h channel raw ≡ Some reply → is_kept reply ≡ true → known h (key_of channel raw) ≡ None
unfolding arrival_answer
told-unknown h channel raw reply is keeps =
    unknown-told (is_bookable raw) (known h (key_of channel raw)) (brings_at h raw) (decided (plan_in_force h) channel raw) (message_count h) reply is keeps

-- ---- its room

-- there is room for it exactly where what it owes doesn't go past the bound
full-is : (h : History) (channel : ℕ) (raw : List ℕ) → is_full h channel raw ≡ is_over_limit h (own h channel raw)
unfolding is_full
full-is h channel raw = refl

-- there is room where the log has room for what it owes
pub asked-full : (h : History) (channel : ℕ) (raw : List ℕ) (mine : ℕ) (has b : Bool) → mine ≡ own h channel raw → has ≡ not (is_over_limit h mine) → has ≡ b → is_full h channel raw ≡ not b
asked-full h channel raw mine has b owes is tested = full-is h channel raw ∙ (ap (is_over_limit h) (sym owes) ∙ (twice (is_over_limit h mine) ∙ ap not (sym is ∙ tested)))
  where
    twice : (b : Bool) → b ≡ not (not b)
    twice true = refl
    twice false = refl

-- an arrival for which there is no room is refused for that
pub then-full : {P : Type 0} (h g : History) (channel : ℕ) (raw : List ℕ) → h ≡ g → is_full h channel raw ≡ true → P → (P → IsTrue (is_full g channel raw)) × (IsTrue (is_full g channel raw) → P)
then-full h g channel raw same full refused = (λ p. ap (λ k. is_full k channel raw) (sym same) ∙ full, λ q. refused)

-- an arrival for which there is room is not refused for that
pub never-full : {P : Type 0} (h g : History) (channel : ℕ) (raw : List ℕ) → h ≡ g → is_full h channel raw ≡ false → (P → ⊥) → (P → IsTrue (is_full g channel raw)) × (IsTrue (is_full g channel raw) → P)
never-full h g channel raw same room refused =
    (λ p. absurd (refused p), λ full. let none = sym (ap (λ k. is_full k channel raw) same) ∙ room in absurd cc)

-- want of memory is not want of room
pub refused-memory : {T : Type 0} (r : Result T NotBooked) → IsErrAnd r (λ e. e ≡ NoMemory) → r ≡ Err Full → ⊥
refused-memory (Ok x) is full = cc
refused-memory (Err e) is full = cc

-- an event that is answered is refused for memory last
pub memory-last : (e : Event) (old : History) (result : Result (Reply e) (Refusal e)) (reply : Reply e) → event_answer old e ≡ Ok reply → MemoryIsLast e old result
memory-last e old (Ok x) reply is = tt
memory-last e old (Err refusal) reply is = λ memory. ap is_ok is
