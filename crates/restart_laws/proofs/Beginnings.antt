-- Beginnings of a log.
use Rattle.std.proofs.Common.{◌≡◌, ◌⊎◌, inl, inr, ℕ, zero, suc, ◌<◌, ◌≤◌, List, [], ◌∷◌, ◌++◌, take, Some, refl, sym, ap, subst, ◌∙◌, arith, length-append}
use Rattle.std.specs.List.{slice_get}
use mathlib.Core.List.{IsPrefix}
use Rattle.event_log.specs.History.{History, next_place}
use Rattle.event_records.specs.declared.record.Record.{Record}
use Rattle.book_lock.specs.declared.log_entry.LogEntry.{LogEntry}
use Rattle.book_lock.specs.declared.log_entry.LogEntry.TheVariants as log
use Rattle.book_lock.specs.Durable.{IsCommittedBelow, changes_of}
use Rattle.book_lock.specs.Log.{IsLegalLog, Log, MayComeNext, after_log, with_entry}
use Rattle.book_replay.specs.Replay.{after_records}
use Rattle.restart_laws.specs.Restart.{AreRecordsOf}
use Rattle.restart_laws.proofs.Redoing.{all_redone, first_legal, rest_legal}

-- ---- a beginning of a legal log is legal

some_is : (x y : ℕ × LogEntry) → Some x ≡ Some y → x ≡ y
some_is x y e = cc

joined : (h : History) (x : ℕ × LogEntry) (xs : Log) → MayComeNext h x.1 → IsLegalLog (with_entry h x.1) xs → IsLegalLog h (x ∷ xs)
joined h x xs may legal = record { each = each }
  where
    each : (k : ℕ) (y : ℕ × LogEntry) → slice_get (x ∷ xs) k ≡ Some y → MayComeNext (after_log h (take k (x ∷ xs))) y.1
    each zero y got = subst (λ (z : ℕ × LogEntry). MayComeNext h z.1) (some_is x y got) may
    each (suc k) y got = legal.each k y got

beginning_legal : (h : History) (xs ys : Log) → IsLegalLog h (xs ++ ys) → IsLegalLog h xs
beginning_legal h [] ys legal = record { each = λ k y got. absurd cc }
beginning_legal h (x ∷ xs) ys legal =
    joined h x xs (first_legal h x (xs ++ ys) legal) (beginning_legal (with_entry h x.1) xs ys (rest_legal h x (xs ++ ys) legal))

pub beginning : (h : History) (durable rest : Log) (rs : List Record) → IsLegalLog h (durable ++ rest) → AreRecordsOf rs (changes_of durable)
    → after_records h rs ≡ after_log h durable
beginning h durable rest rs legal are = all_redone h durable rs (beginning_legal h durable rest legal) are

pub committed : (h : History) (entries : Log) (rs : List Record) (below : ℕ) → IsLegalLog h entries
    → IsCommittedBelow h (AreRecordsOf rs) entries below → next_place (after_records h rs) ≡ below
committed h entries rs below legal commit =
    ap next_place (beginning h commit.durable commit.rest rs (subst (IsLegalLog h) commit.is legal) commit.committed) ∙ sym commit.next

-- ---- indices grow with a log

grows_one : (h : History) (x : LogEntry) → next_place h ≤ next_place (with_entry h x)
grows_one h (log.Booked e) = omega (arith, length-append h.entries (e ∷ []))
grows_one h (log.Pruned before) = omega arith
grows_one h (log.Durable below) = omega arith

grows : (h : History) (xs ys : Log) → next_place (after_log h xs) ≤ next_place (after_log h (xs ++ ys))
grows h [] [] = omega arith
grows h [] (y ∷ ys) = omega (arith, grows_one h y.1, grows (with_entry h y.1) [] ys)
grows h (x ∷ xs) ys = grows (with_entry h x.1) xs ys

-- ---- of two beginnings one is a beginning of the other

heads : (x y : ℕ × LogEntry) (xs ys : Log) → x ∷ xs ≡ y ∷ ys → x ≡ y
heads x y xs ys e = cc

tails : (x y : ℕ × LogEntry) (xs ys : Log) → x ∷ xs ≡ y ∷ ys → xs ≡ ys
tails x y xs ys e = cc

either : (a b : Log) (x : ℕ × LogEntry) (ra rb : Log) → (a ++ x ∷ []) ++ ra ≡ b ++ rb → IsPrefix b a ⊎ IsPrefix (a ++ x ∷ []) b
either a [] x ra rb e = inl (a, refl)
either [] (y ∷ b) x ra rb e = inr (b, ap (λ z. z ∷ b) (heads x y ra (b ++ rb) e))
either (z ∷ a) (y ∷ b) x ra rb e =
    let same : z ≡ y = heads z y ((a ++ x ∷ []) ++ ra) (b ++ rb) e in
    elim (either a b x ra rb (tails z y ((a ++ x ∷ []) ++ ra) (b ++ rb) e)) [
      | inl p ↦ inl (p.0, ap (λ w. w ∷ (b ++ p.0)) (sym same) ∙ ap (λ l. z ∷ l) p.1)
      | inr p ↦ inr (p.0, ap (λ w. w ∷ ((a ++ x ∷ []) ++ p.0)) same ∙ ap (λ l. y ∷ l) p.1)
    ]

pub covered : (h : History) (seen durable entries : Log) (own : ℕ × LogEntry) → IsPrefix (seen ++ own ∷ []) entries → IsPrefix durable entries
    → next_place (after_log h seen) < next_place (after_log h durable) → IsPrefix (seen ++ own ∷ []) durable
covered h seen durable entries own mine its more =
    elim (either seen durable own mine.0 its.0 (mine.1 ∙ sym its.1)) [
      | inl p ↦
          let less : next_place (after_log h durable) ≤ next_place (after_log h seen) =
          subst (λ (l : Log). next_place (after_log h durable) ≤ next_place (after_log h l)) p.1 (grows h durable p.0) in
          absurd (omega (arith, less, more))
      | inr p ↦ p
    ]
