-- The records of a legal log are booked again as its changes were.
use Rattle.std.proofs.Common.{◌≡◌, ℕ, suc, List, [], ◌∷◌, ◌++◌, map, Result, Ok, refl, sym, ap, subst, ◌∙◌}
use Rattle.std.specs.Prelude.{IsOk}
use Rattle.event_log.specs.declared.entry.Entry.{Entry}
use Rattle.event_log.specs.declared.entry.Entry.TheVariants as entry
use Rattle.event_log.specs.History.{History, followed_by}
use Rattle.event_log.specs.Folding.{pruned}
use Rattle.event_log.specs.Legal.{MayFollow}
use Rattle.event_log.specs.Event.{answer, cancel, deploy, settle, take as take_front}
use Rattle.event_log.proofs.Events.{next-again}
use Rattle.event_records.specs.declared.record.Record.{Record}
use Rattle.book_lock.specs.declared.copied.Copied.{Copied}
use Rattle.book_lock.specs.declared.log_entry.LogEntry.{LogEntry}
use Rattle.book_lock.specs.declared.log_entry.LogEntry.TheVariants as log
use Rattle.book_lock.specs.Durable.{changes_of}
use Rattle.book_lock.specs.Journal.{Copies, change_copied}
use Rattle.book_lock.specs.Log.{IsLegalLog, Log, MayComeNext, SeatView, after_log, with_entry}
use Rattle.book_replay.specs.Replay.{AreReplayed, IsReplayed, IsDeployed, after_reading, after_record, after_records}
use Rattle.restart_laws.specs.Restart.{AreRecordsOf, IsRecordIn, IsRecordOf}

-- the first entry of a legal log is legal, and the rest after it
pub first_legal : (h : History) (x : ℕ × LogEntry) (xs : Log) → IsLegalLog h (x ∷ xs) → MayComeNext h x.1
first_legal h x xs legal = legal.each 0 x refl

pub rest_legal : (h : History) (x : ℕ × LogEntry) (xs : Log) → IsLegalLog h (x ∷ xs) → IsLegalLog (with_entry h x.1) xs
rest_legal h x xs legal = record { each = λ k y got. legal.each (suc k) y got }

-- one record
redone : (h : History) (e : Entry) (r : Record) → MayFollow h e → IsRecordOf r e → after_record h r ≡ followed_by h e
redone h (entry.Arrival conn channel raw told) r may is = ap (after_record h) is ∙ next-again h (entry.Arrival conn channel raw told) may
redone h (entry.Take ticket now) r may is = ap (after_record h) is ∙ next-again h (entry.Take ticket now) may
redone h (entry.Settle outcome ticket now state) r may is = ap (after_record h) is ∙ next-again h (entry.Settle outcome ticket now state) may
redone h (entry.Cancel number among mask) r may is = ap (after_record h) is ∙ next-again h (entry.Cancel number among mask) may
redone h (entry.Deploy plan) r may is =
    ap (after_record h) is.1 ∙ (ap (after_reading h) is.2 ∙ next-again h (entry.Deploy plan) may)

ok_of : {A B : Type 0} (x : Result A B) (y : A) → x ≡ Ok y → IsOk x
ok_of x y e = subst IsOk (sym e) refl

answered : (h : History) (e : Entry) (r : Record) → MayFollow h e → IsRecordOf r e → IsReplayed h r
answered h (entry.Arrival conn channel raw told) r may is = subst (IsReplayed h) (sym is) may.replied
answered h (entry.Take ticket now) r may is = subst (IsReplayed h) (sym is) (ok_of (answer h (take_front ticket.destination now)) ticket may.replied)
answered h (entry.Settle outcome ticket now state) r may is =
    subst (IsReplayed h) (sym is) (ok_of (answer h (settle ticket outcome now)) state may.replied)
answered h (entry.Cancel number among mask) r may is = subst (IsReplayed h) (sym is) (ok_of (answer h (cancel number among)) mask may.replied)
answered h (entry.Deploy plan) r may is =
    subst (IsReplayed h) (sym is.1) (subst (IsDeployed h) (sym is.2) (ok_of (answer h (deploy plan)) tt may.replied))

redone_in : (h : History) (x : LogEntry) (r : Record) → MayComeNext h x → IsRecordIn r x → after_record h r ≡ with_entry h x
redone_in h (log.Booked e) r may is = redone h e r may is
redone_in h (log.Pruned before) r may is = ap (after_record h) is
redone_in h (log.Durable below) r may is = absurd is

answered_in : (h : History) (x : LogEntry) (r : Record) → MayComeNext h x → IsRecordIn r x → IsReplayed h r
answered_in h (log.Booked e) r may is = answered h e r may is
answered_in h (log.Pruned before) r may is = subst (IsReplayed h) (sym is) may
answered_in h (log.Durable below) r may is = absurd is

-- all records
pub all_redone : (h : History) (entries : Log) (rs : List Record) → IsLegalLog h entries → AreRecordsOf rs (changes_of entries)
    → after_records h rs ≡ after_log h entries
all_redone h [] [] legal are = refl
all_redone h [] (r ∷ rs) legal are = absurd are
all_redone h ((n, log.Durable below) ∷ xs) rs legal are = all_redone h xs rs (rest_legal h (n, log.Durable below) xs legal) are
all_redone h ((n, log.Booked e) ∷ xs) [] legal are = absurd are
all_redone h ((n, log.Booked e) ∷ xs) (r ∷ rs) legal are =
    ap (λ (k : History). after_records k rs) (redone_in h (log.Booked e) r (first_legal h (n, log.Booked e) xs legal) are.0)
    ∙ all_redone (followed_by h e) xs rs (rest_legal h (n, log.Booked e) xs legal) are.1
all_redone h ((n, log.Pruned before) ∷ xs) [] legal are = absurd are
all_redone h ((n, log.Pruned before) ∷ xs) (r ∷ rs) legal are =
    ap (λ (k : History). after_records k rs) (redone_in h (log.Pruned before) r (first_legal h (n, log.Pruned before) xs legal) are.0)
    ∙ all_redone (pruned before h) xs rs (rest_legal h (n, log.Pruned before) xs legal) are.1

-- each after those before it
next_answered : (h : History) (x : LogEntry) (r : Record) (rs : List Record) → MayComeNext h x → IsRecordIn r x
    → AreReplayed (with_entry h x) rs → AreReplayed h (r ∷ rs)
next_answered h x r rs may is rest = (
  answered_in h x r may is,
  subst (λ (k : History). AreReplayed k rs) (sym (redone_in h x r may is)) rest,
)

pub all_answered : (h : History) (entries : Log) (rs : List Record) → IsLegalLog h entries → AreRecordsOf rs (changes_of entries)
    → AreReplayed h rs
all_answered h [] [] legal are = tt
all_answered h [] (r ∷ rs) legal are = absurd are
all_answered h ((n, log.Durable below) ∷ xs) rs legal are = all_answered h xs rs (rest_legal h (n, log.Durable below) xs legal) are
all_answered h ((n, log.Booked e) ∷ xs) [] legal are = absurd are
all_answered h ((n, log.Booked e) ∷ xs) (r ∷ rs) legal are =
    next_answered h (log.Booked e) r rs (first_legal h (n, log.Booked e) xs legal) are.0
    (all_answered (followed_by h e) xs rs (rest_legal h (n, log.Booked e) xs legal) are.1)
all_answered h ((n, log.Pruned before) ∷ xs) [] legal are = absurd are
all_answered h ((n, log.Pruned before) ∷ xs) (r ∷ rs) legal are =
    next_answered h (log.Pruned before) r rs (first_legal h (n, log.Pruned before) xs legal) are.0
    (all_answered (pruned before h) xs rs (rest_legal h (n, log.Pruned before) xs legal) are.1)

-- ---- what a journal copies

joined : (rs more : List Record) (xs ys : List LogEntry) → AreRecordsOf rs xs → AreRecordsOf more ys → AreRecordsOf (rs ++ more) (xs ++ ys)
joined [] more [] ys are behind = behind
joined [] more (x ∷ xs) ys are behind = absurd are
joined (r ∷ rs) more [] ys are behind = absurd are
joined (r ∷ rs) more (x ∷ xs) ys are behind = (are.0, joined rs more xs ys are.1 behind)

pub copied : (opening : History) (old new : SeatView) (changes : List Copied) (rs more : List Record) → Copies opening old new changes
    → AreRecordsOf rs (changes_of old.seen) → AreRecordsOf more (map change_copied changes) → AreRecordsOf (rs ++ more) (changes_of new.seen)
copied opening old new changes rs more copies are behind =
    subst (AreRecordsOf (rs ++ more)) (sym copies.changes) (joined rs more (changes_of old.seen) (map change_copied changes) are behind)
