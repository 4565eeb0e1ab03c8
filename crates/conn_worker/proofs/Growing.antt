-- What one more message adds to the receipts and to the count of those that weren't booked.
use Rattle.std.proofs.Common.{◌≡◌, ℕ, ◌+◌, cond, map, Result, Ok, Err, IfOk, IfErr, List, [], ◌∷◌, ◌++◌, refl, append-nil}
use Rattle.book_core.specs.declared.receipt.Receipt.{Receipt}
use Rattle.conn_core.specs.declared.booking.Unbooked.{Unbooked}
use Rattle.std.specs.Result.{is_err}
use Rattle.std.specs.List.{AllByRecursion}
use Rattle.event_log.specs.declared.entry.Told.{Told}
use Rattle.conn_core.specs.declared.booking.Unbooked.TheVariants.{Refused, Repeat}
use Rattle.conn_core.specs.Booking.{IfRepeat}
use Rattle.conn_core.specs.Replies.{Answer}
use Rattle.conn_core.specs.inner.Booking.{receipts_of}
use Rattle.conn_core.specs.Messages.{booked, message_by}
use Rattle.conn_core.specs.inner.Replies.{answer_to, told_by}
use Rattle.conn_worker.specs.Serving.{IsKnownIfRepeated}
use Rattle.conn_worker.specs.inner.Counting.{unbooked_of}

-- From one book and one keeper of receipts to others, these receipts were booked and handed in, and nothing else was. What was
-- known stays known.
pub record Adds {B K : Type 0} (books : B → List Receipt → Type 0) (knows : B → ℕ → List ℕ → Type 0) (has : K → List Receipt → Type 0) (added : List Receipt) (b b' : B) (k k' : K) : Type 0 where
  pub booked : (rs : List Receipt) → books b rs → books b' (rs ++ added)
  pub known : (channel : ℕ) (raw : List ℕ) → knows b channel raw → knows b' channel raw
  pub kept : (rs : List Receipt) → has k rs → has k' (rs ++ added)

-- a keeper that has the same was handed in none
pub keeps_none : {K : Type 0} (has : K → List Receipt → Type 0) (k k' : K) → ((rs : List Receipt) → has k rs → has k' rs) → (rs : List Receipt) → has k rs → has k' (rs ++ [])
keeps_none has k k' same rs h = rw append-nil (same rs h)

-- where nothing changes nothing is added
pub none_added : {B K : Type 0} {books : B → List Receipt → Type 0} {knows : B → ℕ → List ℕ → Type 0} {has : K → List Receipt → Type 0} {b : B} {k : K} → Adds books knows has [] b b k k
none_added = record { booked = λ rs h. rw append-nil h; known = λ channel raw k. k; kept = λ rs h. rw append-nil h }

-- the receipt of an outcome tells of its message
pub message_of_receipt : (conn channel : ℕ) (raw : List ℕ) (moment : ℕ) (o : Result Receipt Unbooked) → IfOk o (λ r. (r.conn ≡ conn) × (r.channel ≡ channel) × (r.raw ≡ raw))
    → map message_by (receipts_of o) ≡ booked conn channel (answer_to raw o moment ∷ [])
message_of_receipt conn channel raw moment (Ok r) is = cc (is.0, is.1, is.2)
message_of_receipt conn channel raw moment (Err unbooked) is = refl

-- a message that wasn't booked is counted
pub unbooked_is : (o : Result Receipt Unbooked) (old new : ℕ) → new ≡ old + unbooked_of o → new ≡ old + cond (is_err (told_by o)) 1 0
unbooked_is (Ok r) old new is = is
unbooked_is (Err unbooked) old new is = is

-- ---- what is answered as a repeat without being booked

-- what is known for answers stays known
pub known_all : {P Q : List ℕ → Type 0} (answers : List Answer) → ((raw : List ℕ) → P raw → Q raw) → AllByRecursion (IsKnownIfRepeated P) answers → AllByRecursion (IsKnownIfRepeated Q) answers
known_all [] f all = tt
known_all {P} {Q} (a ∷ answers) f all = (known_one a.outcome all.0, known_all answers f all.1)
  where
    known_one : (o : Result Told Unbooked) → IfErr o (IfRepeat (P a.raw)) → IfErr o (IfRepeat (Q a.raw))
    known_one (Ok told) k = tt
    known_one (Err (Refused refusal)) k = tt
    known_one (Err (Repeat place)) k = f a.raw k

-- and for one more
pub known_more : (P : List ℕ → Type 0) (answers : List Answer) (a : Answer) → AllByRecursion (IsKnownIfRepeated P) answers → IsKnownIfRepeated P a → AllByRecursion (IsKnownIfRepeated P) (answers ++ a ∷ [])
known_more P [] a all k = (k, tt)
known_more P (x ∷ answers) a all k = (all.0, known_more P answers a all.1 k)

-- what is known of an outcome is known of its answer
pub known_told : (P : List ℕ → Type 0) (raw : List ℕ) (moment : ℕ) (o : Result Receipt Unbooked) → IfErr o (IfRepeat (P raw)) → IsKnownIfRepeated P (answer_to raw o moment)
known_told P raw moment (Ok r) k = tt
known_told P raw moment (Err unbooked) k = k
