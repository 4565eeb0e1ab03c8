-- What was committed outlives a crash.
use Rattle.std.proofs.Common.{◌≡◌, ◌<◌, ℕ, zero, suc, List, [], ◌∷◌, ◌++◌, take, Some, refl, sym, ap, subst, ◌∙◌, append_assoc}
use Rattle.std.specs.List.{slice_get}
use mathlib.Core.List.{IsPrefix}
use Rattle.sqlite_trees.specs.Tree.{Trees}
use Rattle.sqlite_trees.specs.View.{View}
use Rattle.event_log.specs.declared.entry.Entry.TheVariants.{Arrival}
use Rattle.event_log.specs.declared.entry.Told.{Told}
use Rattle.event_log.specs.History.{History, next_place}
use Rattle.event_store.specs.Records.{Record as Row, records_in}
use Rattle.book_lock.specs.declared.log_entry.LogEntry.{LogEntry}
use Rattle.book_lock.specs.declared.log_entry.LogEntry.TheVariants as log
use Rattle.book_lock.specs.Durable.{AreArrivalsDurable, AreCommitted, HasDurable}
use Rattle.book_lock.specs.Log.{IsLegalLog, Log, MayComeNext, SeatView, after_log}
use Rattle.book_recovery.specs.inner.File.{IsRecovered}
use Rattle.restart_laws.proofs.Beginnings.{covered}
use Rattle.book_journal.specs.inner.Crash.{AllBelowOutliveCrash, OutlivesCrash, WasCommitted}
use Rattle.book_journal.specs.inner.Held.{bodies_of}
use Rattle.book_journal.proofs.Recovered.{recovered}

-- a beginning of a legal log is legal
got_in : (xs ys : Log) (k : ℕ) (x : ℕ × LogEntry) → slice_get xs k ≡ Some x → slice_get (xs ++ ys) k ≡ Some x
got_in [] ys k x got = absurd cc
got_in (z ∷ xs) ys zero x got = got
got_in (z ∷ xs) ys (suc k) x got = got_in xs ys k x got

same_take : (xs ys : Log) (k : ℕ) (x : ℕ × LogEntry) → slice_get xs k ≡ Some x → take k (xs ++ ys) ≡ take k xs
same_take [] ys k x got = absurd cc
same_take (z ∷ xs) ys zero x got = refl
same_take (z ∷ xs) ys (suc k) x got = ap (λ l. z ∷ l) (same_take xs ys k x got)

beginning_legal : (h : History) (xs ys : Log) → IsLegalLog h (xs ++ ys) → IsLegalLog h xs
beginning_legal h xs ys legal = record {
  each = λ k x got. subst (λ (l : Log). MayComeNext (after_log h l) x.1) (same_take xs ys k x got) (legal.each k x (got_in xs ys k x got));
}

module _ {S : Type 0} (view : S → View) (recovers : S → Trees → Type 0) (before : List Row) (opening : History)
    (given : IsRecovered (bodies_of before) opening) where
  pub published : (entries : Log) (below : ℕ) → IsLegalLog opening entries → AreCommitted opening (WasCommitted view recovers before) entries
      → HasDurable entries below → AllBelowOutliveCrash view recovers opening entries below
  published entries below legal committed has =
      let commit = committed.each has.before has.seat below has.after has.is in
      let after : Log = commit.rest ++ (has.seat, log.Durable below) ∷ has.after in
      let whole : commit.durable ++ after ≡ entries =
      sym (append_assoc commit.durable commit.rest ((has.seat, log.Durable below) ∷ has.after))
      ∙ ap (λ (l : Log). l ++ (has.seat, log.Durable below) ∷ has.after) (sym commit.is) ∙ sym has.is in
      let its : IsLegalLog opening commit.durable = beginning_legal opening commit.durable after (subst (IsLegalLog opening) (sym whole) legal) in
      record {
        durable = commit.durable;
        outlives = record {
          begins = (after, whole);
          store = commit.committed.0;
          recovered = λ clean db left.
              recovered before (records_in db) opening commit.durable (commit.committed.1.each clean db left) its given;
        };
        next = commit.next;
      }

  pub acknowledged : (seat : SeatView) → IsLegalLog opening seat.seen → AreArrivalsDurable opening seat
      → AreCommitted opening (WasCommitted view recovers before) seat.seen → (seen : Log) (conn channel : ℕ) (raw : List ℕ) (told : Told) (after : Log)
      → seat.seen ≡ seen ++ (seat.number, log.Booked (Arrival conn channel raw told)) ∷ after
      → OutlivesCrash view recovers opening seat.seen seen (seat.number, log.Booked (Arrival conn channel raw told))
  acknowledged seat legal durable committed seen conn channel raw told after is =
      let own : ℕ × LogEntry = (seat.number, log.Booked (Arrival conn channel raw told)) in
      let cover = durable.each seen conn channel raw told after is in
      let below = published seat.seen cover.below legal committed cover.has in
      let begins : IsPrefix (seen ++ own ∷ []) seat.seen = (after, append_assoc seen (own ∷ []) after ∙ sym is) in
      record {
        durable = below.durable;
        outlives = below.outlives;
        has = covered opening seen below.durable seat.seen own begins below.outlives.begins
            (subst (λ (n : ℕ). next_place (after_log opening seen) < n) below.next cover.covers);
      }
