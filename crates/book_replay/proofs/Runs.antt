-- Records one behind the other.
use Rattle.std.proofs.Common.{◌≡◌, ℕ, zero, suc, ◌+◌, List, [], ◌∷◌, ◌++◌, map, take, length, get_or, ◌<◌, ◌≤◌, add-one, arith, Option, None, Some, refl, sym, ap, subst, ◌∙◌}
use Rattle.std.specs.Prelude.{slice_get}
use Rattle.std.specs.List.{filter_map, cons_option, range_with_len}
use Rattle.std.proofs.lemmas.List.{append-nil, take_all}
use Rattle.book_core.proofs.Asked.{more-mapped}
use Rattle.event_log.specs.declared.entry.Ticket.{Ticket}
use Rattle.event_log.specs.History.{History}
use Rattle.event_records.specs.declared.record.Record.{Record}
use Rattle.book_replay.specs.inner.Flights.{settled_again}
use Rattle.book_replay.specs.declared.fault.ReplayFault.{ReplayFault}
use Rattle.book_replay.specs.Replay.{AreReplayed, IsBooked, IsReplayed, IsStopped, StopsAt, after_record, after_records}

pub after_one_more : (h : History) (rs : List Record) (r : Record) → after_records h (rs ++ r ∷ []) ≡ after_record (after_records h rs) r
after_one_more h [] r = refl
after_one_more h (x ∷ rs) r = after_one_more (after_record h x) rs r

pub answered_one_more : (h : History) (rs : List Record) (r : Record) → AreReplayed h rs → IsReplayed (after_records h rs) r → AreReplayed h (rs ++ r ∷ [])
answered_one_more h [] r are is = (is, tt)
answered_one_more h (x ∷ rs) r are is = (are.0, answered_one_more (after_record h x) rs r are.1 is)

-- ---- the first records of some, by their number

pub first_are : (rs : List Record) (i : ℕ) (r : Record) → slice_get rs i ≡ Some r → take (suc i) rs ≡ take i rs ++ r ∷ []
first_are [] i r found = absurd cc
first_are (x ∷ rs) zero r found = let same : x ≡ r = cc in ap (λ y. y ∷ []) same
first_are (x ∷ rs) (suc i) r found = ap (λ ys. x ∷ ys) (first_are rs i r found)

pub after_next : (h : History) (rs : List Record) (i : ℕ) (r : Record) → slice_get rs i ≡ Some r
    → after_records h (take (i + 1) rs) ≡ after_record (after_records h (take i rs)) r
after_next h rs i r found =
    ap (λ (k : ℕ). after_records h (take k rs)) (add-one i) ∙ (ap (after_records h) (first_are rs i r found) ∙ after_one_more h (take i rs) r)

pub replayed_next : (h : History) (rs : List Record) (i : ℕ) (r : Record) → slice_get rs i ≡ Some r → AreReplayed h (take i rs)
    → IsReplayed (after_records h (take i rs)) r → AreReplayed h (take (i + 1) rs)
replayed_next h rs i r found are is =
    subst (λ (k : ℕ). AreReplayed h (take k rs)) (sym (add-one i))
    (subst (AreReplayed h) (sym (first_are rs i r found)) (answered_one_more h (take i rs) r are is))

-- the history after a replay of records
pub record IsReplayOf (old : History) (records : List Record) (now : History) : Type 0 where
  pub history : now ≡ after_records old records
  pub replayed : AreReplayed old records

-- a replay of the first records, and what is booked of the next
pub record HasReplayed (old : History) (records : List Record) (i : ℕ) (now : History) : Type 0 where
  pub history : now ≡ after_records old (take i records)
  pub replayed : AreReplayed old (take i records)

pub goes_on : (old : History) (records : List Record) (i : ℕ) (now new : History) (r : Record) → HasReplayed old records i now → slice_get records i ≡ Some r
    → IsBooked now new r → HasReplayed old records (i + 1) new
goes_on old records i now new r has found booked = record {
  history = booked.history ∙ (ap (λ (h : History). after_record h r) has.history ∙ sym (after_next old records i r found));
  replayed = replayed_next old records i r found has.replayed (subst (λ (h : History). IsReplayed h r) has.history booked.replayed);
}

pub stops : (old : History) (records : List Record) (i : ℕ) (now new : History) (fault : ReplayFault) (r : Record) → HasReplayed old records i now
    → slice_get records i ≡ Some r → StopsAt fault now new r → IsStopped i fault old new records
stops old records i now new fault r has found stop =
    record { stop = r; found = found; replayed = has.replayed; stops = subst (λ (h : History). StopsAt fault h new r) has.history stop }

pub all_replayed : (old : History) (records : List Record) (i : ℕ) (now : History) → HasReplayed old records i now → length records ≤ i → IsReplayOf old records now
all_replayed old records i now has le = record {
  history = has.history ∙ ap (after_records old) (take_all i records le);
  replayed = subst (AreReplayed old) (take_all i records le) has.replayed;
}

-- ---- attempts that are settled one after the other

mapped : (h : History) (f : Ticket → Record) (ts : List Ticket) (i : ℕ) (t : Ticket) → slice_get ts i ≡ Some t
    → after_records h (map f (take (suc i) ts)) ≡ after_record (after_records h (map f (take i ts))) (f t)
mapped h f [] i t found = absurd cc
mapped h f (x ∷ ts) zero t found = let same : x ≡ t = cc in ap (λ y. after_record h (f y)) same
mapped h f (x ∷ ts) (suc i) t found = mapped (after_record h (f x)) f ts i t found

pub after_mapped : (h : History) (f : Ticket → Record) (ts : List Ticket) (i : ℕ) (t : Ticket) → slice_get ts i ≡ Some t
    → after_records h (map f (take (i + 1) ts)) ≡ after_record (after_records h (map f (take i ts))) (f t)
after_mapped h f ts i t found = ap (λ (k : ℕ). after_records h (map f (take k ts))) (add-one i) ∙ mapped h f ts i t found

-- the first attempts are settled, and the records of those settlements that were booked
pub record HasSettled (old : History) (moment : ℕ) (tickets : List Ticket) (i : ℕ) (settled : List Record) (now : History) : Type 0 where
  pub flights : now ≡ after_records old (map (settled_again moment) (take i tickets))
  pub history : now ≡ after_records old settled
  pub replayed : AreReplayed old settled

pub settles : (old : History) (moment : ℕ) (tickets : List Ticket) (i : ℕ) (settled : List Record) (now new : History) (t : Ticket)
    → HasSettled old moment tickets i settled now → slice_get tickets i ≡ Some t → new ≡ after_record now (settled_again moment t)
    → IsReplayed now (settled_again moment t) → HasSettled old moment tickets (i + 1) (settled ++ settled_again moment t ∷ []) new
settles old moment tickets i settled now new t has found booked is = record {
  flights = booked ∙ (ap (λ (h : History). after_record h (settled_again moment t)) has.flights ∙ sym (after_mapped old (settled_again moment) tickets i t found));
  history = booked ∙ (ap (λ (h : History). after_record h (settled_again moment t)) has.history ∙ sym (after_one_more old settled (settled_again moment t)));
  replayed = answered_one_more old settled (settled_again moment t) has.replayed (subst (λ (h : History). IsReplayed h (settled_again moment t)) has.history is);
}

pub settles_not : (old : History) (moment : ℕ) (tickets : List Ticket) (i : ℕ) (settled : List Record) (now new : History) (t : Ticket)
    → HasSettled old moment tickets i settled now → slice_get tickets i ≡ Some t → new ≡ after_record now (settled_again moment t) → new ≡ now
    → HasSettled old moment tickets (i + 1) settled new
settles_not old moment tickets i settled now new t has found booked same = record {
  flights = booked ∙ (ap (λ (h : History). after_record h (settled_again moment t)) has.flights ∙ sym (after_mapped old (settled_again moment) tickets i t found));
  history = same ∙ has.history;
  replayed = has.replayed;
}

pub all_settled : (old : History) (moment : ℕ) (tickets : List Ticket) (i : ℕ) (settled : List Record) (now : History)
    → HasSettled old moment tickets i settled now → length tickets ≤ i → now ≡ after_records old (map (settled_again moment) tickets)
all_settled old moment tickets i settled now has le =
    has.flights ∙ ap (λ (ts : List Ticket). after_records old (map (settled_again moment) ts)) (take_all i tickets le)

-- ---- what a loop reads

pub found_at : {A : Type 0} (xs : List A) (i : ℕ) (x : A) → i < length xs → x ≡ get_or xs i x → slice_get xs i ≡ Some x
found_at [] i x less is = absurd (omega (arith, less))
found_at (y ∷ ys) zero x less is = ap (λ z. Some z) (sym is)
found_at (y ∷ ys) (suc i) x less is = found_at ys i x (omega (arith, less)) is

pub found_or : {A : Type 0} (xs : List A) (i : ℕ) (x : A) → i < length xs → slice_get xs i ≡ Some (get_or xs i x)
found_or [] i x less = absurd (omega (arith, less))
found_or (y ∷ ys) zero x less = refl
found_or (y ∷ ys) (suc i) x less = found_or ys i x (omega (arith, less))

pub one_found : {A : Type 0} (p : ℕ → Option A) (k : ℕ) (x : A) → p k ≡ Some x
    → filter_map p (range_with_len 0 k) ++ x ∷ [] ≡ filter_map p (range_with_len 0 (k + 1))
one_found p k x is =
    let at : 0 + k ≡ k = omega arith in
    sym (more-mapped p 0 k ∙ ap (λ o. filter_map p (range_with_len 0 k) ++ cons_option o []) (ap p at ∙ is))

pub none_found : {A : Type 0} (p : ℕ → Option A) (k : ℕ) → p k ≡ None → filter_map p (range_with_len 0 k) ≡ filter_map p (range_with_len 0 (k + 1))
none_found p k is =
    let at : 0 + k ≡ k = omega arith in
    sym (more-mapped p 0 k ∙ (ap (λ o. filter_map p (range_with_len 0 k) ++ cons_option o []) (ap p at ∙ is) ∙ append-nil (filter_map p (range_with_len 0 k))))
