-- Lemmas on the log of a shared book: one more entry, and a call as its seat sees it.
use Rattle.std.proofs.Common.{◌≡◌, ◌≢◌, ◌↔◌, ◌⊎◌, ℕ, zero, suc, List, [], ◌∷◌, ◌++◌, length, map, take, Some, None, slice_get, Result, Ok, Err, IfOk, IfErr, IsErrOf, OnOk, refl, ap, sym, ◌∙◌, subst, inl, inr, All, ◌+◌, arith}
use Rattle.std.proofs.lemmas.List.{append-nil, map-append}
use Rattle.std.proofs.lemmas.List.Elements.{All-append, All-map}
use Rattle.std.proofs.lemmas.List.FromFn.{map-range_with_len_more}
use Rattle.judge_core.specs.declared.judged.Judged.{Judged}
use Rattle.event_log.specs.History.{History, next_place, plan_in_force}
use Rattle.event_log.specs.Event.{Does, Event, MemoryIsLast, Refusal, Reply, arrive, entry_of, result_map}
use Rattle.event_log.specs.Event as event
use Rattle.event_log.specs.Folding.{prune_answer, pruned}
use Rattle.event_log.proofs.Events.{does-follow}
use Rattle.event_log.specs.declared.refusal.PruneRefusal.{PruneRefusal}
use Rattle.event_log.specs.declared.refusal.PruneRefusal.TheVariants as prune_refusal
use Rattle.event_log.specs.declared.refusal.TakeRefusal.{TakeRefusal}
use Rattle.book_core.specs.Receiving.{IsReceipt, arrival_reply}
use Rattle.book_core.specs.declared.letter.Job.{Job}
use Rattle.book_core.specs.declared.receipt.NotBooked.{NotBooked}
use Rattle.book_core.specs.declared.receipt.NotBooked.TheVariants as not_booked
use Rattle.book_core.specs.declared.receipt.Receipt.{Receipt}
use Rattle.std.specs.Prelude.{IsErr}
use Rattle.dest_queue.specs.declared.Outcome.{Outcome}
use Rattle.dest_queue.specs.declared.SettleRefusal.{SettleRefusal}
use Rattle.dest_queue.specs.declared.SlotState.{SlotState}
use Rattle.event_log.specs.declared.entry.Ticket.{Ticket}
use Rattle.ghost_log.specs.Seats.{Agrees}
use Rattle.ghost_log.specs.inner.Seats.{entries_by}
use Rattle.ghost_log.proofs.Seats.{rest_none}
use Rattle.book_lock.specs.declared.log_entry.LogEntry.{LogEntry}
use Rattle.book_lock.specs.declared.log_entry.LogEntry.TheVariants as log_entry
use Rattle.book_lock.specs.Log.{Arrives, Calls, IsBookOf, IsJob, IsLegalLog, Log, MayComeNext, SeatView, Takes, after_log, book_at, own_entry, with_entry, IsCalled, IsPruned}
use Rattle.book_lock.specs.inner.Arriving.{ArrivesHere}
use Rattle.book_lock.specs.inner.Log.{new_seats}
use Rattle.book_lock.specs.Shares.{DeskView, StationView, seats_of}

after_more : (h : History) (log : Log) (x : ℕ × LogEntry) → after_log h (log ++ x ∷ []) ≡ with_entry (after_log h log) x.1
after_more h [] x = refl
after_more h (y ∷ ys) x = after_more (with_entry h y.1) ys x

-- an entry of a longer log is one of the shorter, with the same before it, or the last
at_more : {A : Type 0} (xs : List A) (x y : A) (k : ℕ) → slice_get (xs ++ x ∷ []) k ≡ Some y
    → (slice_get xs k ≡ Some y) × (take k (xs ++ x ∷ []) ≡ take k xs) ⊎ (x ≡ y) × (take k (xs ++ x ∷ []) ≡ xs)
at_more [] x y zero h = inr (cc, refl)
at_more [] x y (suc k) h = absurd cc
at_more (z ∷ zs) x y zero h = inl (h, refl)
at_more (z ∷ zs) x y (suc k) h = more (at_more zs x y k h)
  where
    more : (slice_get zs k ≡ Some y) × (take k (zs ++ x ∷ []) ≡ take k zs) ⊎ (x ≡ y) × (take k (zs ++ x ∷ []) ≡ zs)
        → (slice_get zs k ≡ Some y) × (z ∷ take k (zs ++ x ∷ []) ≡ z ∷ take k zs) ⊎ (x ≡ y) × (z ∷ take k (zs ++ x ∷ []) ≡ z ∷ zs)
    more (inl p) = inl (p.0, ap (λ w. z ∷ w) p.1)
    more (inr p) = inr (p.0, ap (λ w. z ∷ w) p.1)

legal_more : (h : History) (log : Log) (x : ℕ × LogEntry) → IsLegalLog h log → MayComeNext (after_log h log) x.1 → IsLegalLog h (log ++ x ∷ [])
legal_more h log x legal may = record { each = λ k y at. by k y (at_more log x y k at) }
  where
    by : (k : ℕ) (y : ℕ × LogEntry) → (slice_get log k ≡ Some y) × (take k (log ++ x ∷ []) ≡ take k log) ⊎ (x ≡ y) × (take k (log ++ x ∷ []) ≡ log)
        → MayComeNext (after_log h (take k (log ++ x ∷ []))) y.1
    by k y (inl p) = subst (λ (w : Log). MayComeNext (after_log h w) y.1) (sym p.1) (legal.each k y p.0)
    by k y (inr p) = subst (λ (w : Log × (ℕ × LogEntry)). MayComeNext (after_log h w.0) w.1.1) (λ i. (sym p.1 i, p.0 i)) may

-- an opening, and the empty log
pub book_opened : (h book : History) (log : Log) → book ≡ h → log ≡ [] → IsBookOf h log book
book_opened h book log is none = subst (λ (w : Log). IsBookOf h w book) (sym none) (record { is = is; legal = record { each = λ k x at. absurd cc } })

-- a book that is as it was
pub book_same : (h : History) (log log' : Log) (book book' : History) → IsBookOf h log book → log' ≡ log → book' ≡ book → IsBookOf h log' book'
book_same h log log' book book' was same still = subst (λ (w : Log × History). IsBookOf h w.0 w.1) (λ i. (sym same i, sym still i)) was

-- a book after one more entry
pub book_more : (h : History) (log log' : Log) (x : ℕ × LogEntry) (book book' : History) → IsBookOf h log book → MayComeNext book x.1 → book' ≡ with_entry book x.1 → log' ≡ log ++ x ∷ [] → IsBookOf h log' book'
book_more h log log' x book book' was may to is =
    subst (λ (w : Log). IsBookOf h w book') (sym is) (record {
      is = to ∙ (ap (λ w. with_entry w x.1) was.is ∙ sym (after_more h log x));
      legal = legal_more h log x was.legal (subst (λ w. MayComeNext w x.1) was.is may);
    })

-- a book after a pruning
pub book_pruned : (h : History) (log log' : Log) (number before : ℕ) (book book' : History) → IsBookOf h log book → prune_answer book before ≡ None → book' ≡ pruned before book
    → log' ≡ log ++ (number, log_entry.Pruned before) ∷ [] → IsBookOf h log' book'
book_pruned h log log' number before book book' was may to is = book_more h log log' (number, log_entry.Pruned before) book book' was may to is

-- a book after a call
pub book_called : (h : History) (log log' : Log) (number : ℕ) (e : Event) (book book' : History) (r : Result (Reply e) (Refusal e)) → IsBookOf h log book → Does e book book' r → log' ≡ log ++ own_entry number e r → IsBookOf h log' book'
book_called h log log' number e book book' (Ok reply) was does is =
    book_more h log log' (number, log_entry.Booked (entry_of e reply)) book book' was (does-follow e book book' reply does) does.booked is
book_called h log log' number e book book' (Err refusal) was does is = book_same h log log' book book' was (is ∙ append-nil log) does.unchanged

-- a call, as its seat sees it
pub called : (h : History) (e : Event) (old new : SeatView) (log log' : Log) (book book' : History) (r : Result (Reply e) (Refusal e))
    → IsBookOf h log book → Agrees old.number old.seen log → Does e book book' r → MemoryIsLast e book r
    → log' ≡ log ++ own_entry old.number e r → new ≡ record { number = old.number; seen = log' } → Calls h e old new r
called h e old new log log' book book' r was agreed does memory is seat =
    let now : IsBookOf h log' book' = book_called h log log' old.number e book book' r was does is in
    let seen : new.seen ≡ log' = ap (λ (s : SeatView). s.seen) seat in
    let moment : book ≡ book_at h old agreed.begins.0 = was.is ∙ ap (after_log h) (sym agreed.begins.1) in record {
      number = ap (λ (s : SeatView). s.number) seat;
      others = agreed.begins.0;
      none_own = rest_none old.number old.seen log agreed.begins (ap length (sym agreed.own));
      seen = seen ∙ (is ∙ ap (λ w. w ++ own_entry old.number e r) (sym agreed.begins.1));
      legal = subst (IsLegalLog h) (sym seen) now.legal;
      does = subst (λ (w : History × History). Does e w.0 w.1 r) (λ i. (moment i, (now.is ∙ ap (after_log h) (sym seen)) i)) does;
      memory = subst (λ w. MemoryIsLast e w r) moment memory;
    }

-- an arrival, as the seat of its desk sees it
pub called_arrival : (h : History) (conn : ℕ) (judged : Judged) (old new : SeatView) (log log' : Log) (book book' : History) (r : Result Receipt NotBooked)
    → IsBookOf h log book → Agrees old.number old.seen log → Does (arrive conn judged.channel judged.raw) book book' (arrival_reply r) → MemoryIsLast (arrive conn judged.channel judged.raw) book (arrival_reply r)
    → IfOk r (IsReceipt (next_place book) conn judged.channel judged.raw) → IsErrOf r not_booked.PlanChanged ↔ judged.plan ≢ plan_in_force book → (IsErrOf r not_booked.Full → judged.plan ≡ plan_in_force book)
    → log' ≡ log ++ own_entry old.number (arrive conn judged.channel judged.raw) (arrival_reply r) → new ≡ record { number = old.number; seen = log' } → Arrives h conn judged old new r
unfolding called
called_arrival h conn judged old new log log' book book' r was agreed does memory receipt plan same_plan is seat =
    let moment : book ≡ book_at h old agreed.begins.0 = was.is ∙ ap (after_log h) (sym agreed.begins.1) in record {
      call = called h (arrive conn judged.channel judged.raw) old new log log' book book' (arrival_reply r) was agreed does memory is seat;
      receipt = subst (λ w. IfOk r (IsReceipt (next_place w) conn judged.channel judged.raw)) moment receipt;
      plan = subst (λ w. IsErrOf r not_booked.PlanChanged ↔ judged.plan ≢ plan_in_force w) moment plan;
      same_plan = subst (λ w. IsErrOf r not_booked.Full → judged.plan ≡ plan_in_force w) moment same_plan;
    }

-- an arrival, as the seat of its desk sees it, at the moment of its book
pub here_arrival : (h : History) (conn : ℕ) (judged : Judged) (old new : SeatView) (log log' : Log) (book book' : History) (r : Result Receipt NotBooked)
    → IsBookOf h log book → Agrees old.number old.seen log → Does (arrive conn judged.channel judged.raw) book book' (arrival_reply r) → MemoryIsLast (arrive conn judged.channel judged.raw) book (arrival_reply r)
    → IfOk r (IsReceipt (next_place book) conn judged.channel judged.raw) → IsErrOf r not_booked.PlanChanged ↔ judged.plan ≢ plan_in_force book → (IsErrOf r not_booked.Full → judged.plan ≡ plan_in_force book)
    → log' ≡ log ++ own_entry old.number (arrive conn judged.channel judged.raw) (arrival_reply r) → new ≡ record { number = old.number; seen = log' } → ArrivesHere h conn judged book old new r
unfolding called_arrival called
here_arrival h conn judged old new log log' book book' r was agreed does memory receipt plan same_plan is seat = record {
  arrives = called_arrival h conn judged old new log log' book book' r was agreed does memory receipt plan same_plan is seat;
  moment = ap (after_log h) agreed.begins.1 ∙ sym was.is;
}

-- a take, as the seat of its station sees it
pub called_take : (h : History) (d now : ℕ) (old new : SeatView) (log log' : Log) (book book' : History) (r : Result Job TakeRefusal)
    → IsBookOf h log book → Agrees old.number old.seen log → Does (event.take d now) book book' (result_map (λ job. job.ticket) r) → MemoryIsLast (event.take d now) book (result_map (λ job. job.ticket) r)
    → IfOk r (IsJob book d)
    → log' ≡ log ++ own_entry old.number (event.take d now) (result_map (λ job. job.ticket) r) → new ≡ record { number = old.number; seen = log' } → Takes h d now old new r
unfolding called
called_take h d now old new log log' book book' r was agreed does memory job is seat =
    let moment : book ≡ book_at h old agreed.begins.0 = was.is ∙ ap (after_log h) (sym agreed.begins.1) in record {
      call = called h (event.take d now) old new log log' book book' (result_map (λ job. job.ticket) r) was agreed does memory is seat;
      job = subst (λ w. IfOk r (IsJob w d)) moment job;
    }

-- what a seat sees that is shown the log and then adds entries
pub pushed : (old s1 s2 s3 : SeatView) (log log1 log3 : Log) (own : List LogEntry) → s1 ≡ record { number = old.number; seen = log } → s2 ≡ s1 → log1 ≡ log
    → log3 ≡ log1 ++ entries_by s2.number own → s3 ≡ record { number = s2.number; seen = log3 }
    → (log3 ≡ log ++ entries_by old.number own) × (s3 ≡ record { number = old.number; seen = log3 })
pushed old s1 s2 s3 log log1 log3 own shown same still added then =
    let number : s2.number ≡ old.number = ap (λ (s : SeatView). s.number) same ∙ ap (λ (s : SeatView). s.number) shown in (
      added ∙ (λ i. still i ++ entries_by (number i) own),
      then ∙ (λ i. record { number = number i; seen = log3 }),
    )

-- one more new seat
pub seats_more : {X : Type 0} (f : X → SeatView) (xs : List X) (x : X) (from n : ℕ) → map f xs ≡ new_seats from n → f x ≡ record { number = from + n; seen = [] }
    → map f (xs ++ x ∷ []) ≡ new_seats from (n + 1)
seats_more f xs x from n were is =
    map-append f xs (x ∷ []) ∙ ((λ i. were i ++ is i ∷ []) ∙ sym (map-range_with_len_more (λ k. record { number = k; seen = [] }) from n (from + n) (omega arith)))

-- the seats of desks and stations have each seen a prefix of the log
pub agreed_all : (log : Log) (ds : List DeskView) (ss : List StationView) → All (λ (d : DeskView). Agrees d.seat.number d.seat.seen log) ds → All (λ (s : StationView). Agrees s.seat.number s.seat.seen log) ss
    → All (λ (s : SeatView). Agrees s.number s.seen log) (seats_of ds ss)
agreed_all log ds ss d s =
    let P : SeatView → Type 0 = λ w. Agrees w.number w.seen log in
    All-append P (map (λ (w : DeskView). w.seat) ds) (map (λ (w : StationView). w.seat) ss) (All-map P (λ (w : DeskView). w.seat) ds d) (All-map P (λ (w : StationView). w.seat) ss s)

-- a call that the lock makes with its own seat
pub called_own : (h : History) (e : Event) (seat s1 s2 : ℕ × Log) (log log1 log3 : Log) (book book' : History) (r : Result (Reply e) (Refusal e))
    → IsBookOf h log book → Agrees seat.0 seat.1 log → Does e book book' r → MemoryIsLast e book r
    → s1 ≡ (seat.0, log) → log1 ≡ log → log3 ≡ log1 ++ own_entry s1.0 e r → s2 ≡ (s1.0, log3) → IsCalled h e r
called_own h e seat s1 s2 log log1 log3 book book' r was agreed does memory shown still added then =
    let number : s1.0 ≡ seat.0 = ap (λ (s : ℕ × Log). s.0) shown in record {
      old = record { number = seat.0; seen = seat.1 };
      new = record { number = s2.0; seen = s2.1 };
      call = called h e (record { number = seat.0; seen = seat.1 }) (record { number = s2.0; seen = s2.1 }) log log3 book book' r was agreed does memory
          (added ∙ (λ i. still i ++ own_entry (number i) e r))
          (λ i. record { number = (ap (λ (s : ℕ × Log). s.0) then ∙ number) i; seen = (then i).1 });
    }

-- a pruning that the lock makes, or that is refused
pub pruned_own : (h : History) (log : Log) (book : History) (before : ℕ) (r : Result (Unit {0}) PruneRefusal) → IsBookOf h log book
    → OnOk r (prune_answer book before ≡ None) → IfErr r (λ e. (prune_answer book before ≡ Some e) ⊎ (prune_answer book before ≡ None) × (e ≡ prune_refusal.NoMemory))
    → IsPruned h before r
pruned_own h log book before r was allowed refused = record {
  entries = log;
  legal = was.legal;
  allowed = subst (λ w. OnOk r (prune_answer w before ≡ None)) was.is allowed;
  refused = subst (λ w. IfErr r (λ e. (prune_answer w before ≡ Some e) ⊎ (prune_answer w before ≡ None) × (e ≡ prune_refusal.NoMemory))) was.is refused;
}

-- a call that is refused adds nothing
pub own_none : (number : ℕ) (e : Event) (r : Result (Reply e) (Refusal e)) (log : Log) → IsErr r → log ≡ log ++ own_entry number e r
own_none number e (Ok reply) log bad = absurd cc
own_none number e (Err refusal) log bad = sym (append-nil log)

pub take_none : (number d now : ℕ) (r : Result Job TakeRefusal) (log : Log) → IsErr r → log ≡ log ++ own_entry number (event.take d now) (result_map (λ job. job.ticket) r)
take_none number d now (Ok job) log bad = absurd cc
take_none number d now (Err refusal) log bad = sym (append-nil log)

pub arrival_none : (number conn channel : ℕ) (raw : List ℕ) (r : Result Receipt NotBooked) (log : Log) → IsErr r → log ≡ log ++ own_entry number (arrive conn channel raw) (arrival_reply r)
arrival_none number conn channel raw (Ok receipt) log bad = absurd cc
arrival_none number conn channel raw (Err refusal) log bad = sym (append-nil log)

pub if_ok_none : {T E : Type 0} (P : T → Type 0) (r : Result T E) → IsErr r → IfOk r P
if_ok_none P (Ok x) bad = absurd cc
if_ok_none P (Err e) bad = tt

-- a settlement needs no memory
pub no_memory : (ticket : Ticket) (outcome : Outcome) (now : ℕ) (h : History) (r : Result SlotState SettleRefusal) → MemoryIsLast (event.settle ticket outcome now) h r
no_memory ticket outcome now h (Ok state) = tt
no_memory ticket outcome now h (Err refusal) = λ never. absurd never

-- a seat that is issued after others
pub one_issued : (old before after : Log × ℕ) (n : ℕ) → before ≡ (old.0, old.1 + n) → after ≡ (before.0, before.1 + 1) → after ≡ (old.0, old.1 + (n + 1))
one_issued old before after n was is =
    let number : before.1 ≡ old.1 + n = ap (λ (l : Log × ℕ). l.1) was in
    let more : before.1 + 1 ≡ old.1 + (n + 1) = omega (arith, number) in
    is ∙ (λ i. ((was i).0, more i))

abbrev pub the_seat : ℕ × Log → SeatView
the_seat s = record { number = s.0; seen = s.1 }

pub new_seat_is : (seat : ℕ × Log) (before old : Log × ℕ) (n : ℕ) → seat ≡ (before.1, []) → before ≡ (old.0, old.1 + n) → the_seat seat ≡ record { number = old.1 + n; seen = [] }
new_seat_is seat before old n is was = λ i. record { number = (ap (λ (s : ℕ × Log). s.0) is ∙ ap (λ (l : Log × ℕ). l.1) was) i; seen = (is i).1 }
