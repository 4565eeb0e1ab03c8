-- What proofs use beside the page Arriving.
use Rattle.std.proofs.Common.{◌≡◌, ℕ, ◌+◌, ◌≤◌, Some, List, [], ◌∷◌, ◌++◌, map, length, Result, Ok, Err, IfOk, OnOk, OnErr, refl, ap, sym, ◌∙◌, subst, arith, length-append, append_assoc}
use Rattle.std.proofs.lemmas.List.{append-nil, map-append}
use mathlib.Core.List.{IsPrefix}
use Rattle.judge_core.specs.Judging.{Judgement}
use Rattle.event_log.specs.History.{History, next_place}
use Rattle.event_log.specs.Event.{Event, Refusal, Reply, arrive, entry_of}
use Rattle.event_log.specs.declared.entry.Entry.TheVariants as entry
use Rattle.book_core.specs.Receiving.{IsReceipt, repeat_of}
use Rattle.book_core.specs.Refusing.{arrive_refusal}
use Rattle.book_core.specs.declared.receipt.NotBooked.{NotBooked}
use Rattle.book_core.specs.declared.receipt.NotBooked.TheVariants.{Full, NoMemory, PlanChanged}
use Rattle.book_core.specs.declared.receipt.Receipt.{Receipt}
use Rattle.ghost_log.specs.Seats.{entries_of}
use Rattle.ghost_log.proofs.Seats.{entries-append, entries_more}
use Rattle.book_lock.specs.declared.log_entry.LogEntry.{LogEntry}
use Rattle.book_lock.specs.declared.log_entry.LogEntry.TheVariants as log_entry
use Rattle.book_lock.specs.declared.tidying.Tidied.{Tidied}
use Rattle.book_lock.specs.Durable.{IsAllDurable}
use Rattle.book_lock.specs.Log.{Arrives, Calls, Log, Looks, SeatView, after_log, book_at, own_entry}
use Rattle.book_lock.specs.inner.Tidies.{ArrivesAtTidied, unbooked_repeat}
use Rattle.book_lock.proofs.Durability.{grows}
use Rattle.book_lock.proofs.Planning.{after_both}
use Rattle.book_lock.specs.Shares.{DeskView}
use Rattle.conn_worker.specs.Arriving.{ArrivesInTurn, BooksInLog, IsDurablyKnown, IsKnownIn, arrival_entry, no_arrival, booked_first, refused_first, looked_first}

in_turn_after : (h : History) (x y z : SeatView) (rs ss : List Receipt) → ArrivesInTurn h x y rs → ArrivesInTurn h y z ss → ArrivesInTurn h x z (rs ++ ss)
in_turn_after h x y z rs ss (no_arrival seat) k = k
in_turn_after h x y z rs ss (booked_first old between new conn judged receipt receipts call more) k =
    booked_first old between z conn judged receipt (receipts ++ ss) call (in_turn_after h between y z receipts ss more k)
in_turn_after h x y z rs ss (refused_first old between new conn judged refusal receipts call more) k =
    refused_first old between z conn judged refusal (receipts ++ ss) call (in_turn_after h between y z receipts ss more k)
in_turn_after h x y z rs ss (looked_first old between new receipts look more) k =
    looked_first old between z (receipts ++ ss) look (in_turn_after h between y z receipts ss more k)

prefix_after : (xs ys zs : Log) → IsPrefix xs ys → IsPrefix ys zs → IsPrefix xs zs
prefix_after xs ys zs p q = (p.0 ++ q.0, sym (append_assoc xs p.0 q.0) ∙ ap (λ (w : Log). w ++ q.0) p.1 ∙ q.1)

-- nothing was booked
books_nothing : (h : History) (seat : SeatView) → BooksInLog h seat seat []
books_nothing h seat = record {
  number = refl;
  own = sym (append-nil (entries_of seat.number seat.seen));
  seen = ([], append-nil seat.seen);
  legal = λ legal. legal;
  in_turn = no_arrival seat;
}

-- some were booked after others
books_after : (h : History) (x y z : SeatView) (rs ss : List Receipt) → BooksInLog h x y rs → BooksInLog h y z ss → BooksInLog h x z (rs ++ ss)
books_after h x y z rs ss a b = record {
  number = b.number ∙ a.number;
  own =
      let then : entries_of x.number z.seen ≡ entries_of x.number y.seen ++ map arrival_entry ss = subst (λ (n : ℕ). entries_of n z.seen ≡ entries_of n y.seen ++ map arrival_entry ss) a.number b.own in
      then ∙ ap (λ w. w ++ map arrival_entry ss) a.own
      ∙ append_assoc (entries_of x.number x.seen) (map arrival_entry rs) (map arrival_entry ss)
      ∙ ap (λ w. entries_of x.number x.seen ++ w) (sym (map-append arrival_entry rs ss));
  seen = prefix_after x.seen y.seen z.seen a.seen b.seen;
  legal = λ legal. b.legal (a.legal legal);
  in_turn = in_turn_after h x y z rs ss a.in_turn b.in_turn;
}

-- what a call adds to what its seat has seen
call_seen : (h : History) (e : Event) (old new : SeatView) (r : Result (Reply e) (Refusal e)) → Calls h e old new r → IsPrefix old.seen new.seen
call_seen h e old new r call =
    (call.others ++ own_entry old.number e r, sym (append_assoc old.seen call.others (own_entry old.number e r)) ∙ sym call.seen)

call_others : (h : History) (e : Event) (old new : SeatView) (r : Result (Reply e) (Refusal e)) (call : Calls h e old new r)
    → entries_of old.number (old.seen ++ call.others) ≡ entries_of old.number old.seen
call_others h e old new r call =
    entries-append old.number old.seen call.others ∙ ap (λ w. entries_of old.number old.seen ++ w) call.none_own ∙ append-nil (entries_of old.number old.seen)

-- the entry of an arrival that was booked is the one of its receipt
same_entry : (place conn channel : ℕ) (raw : List ℕ) (receipt : Receipt) → IsReceipt place conn channel raw receipt
    → log_entry.Booked (entry_of (arrive conn channel raw) receipt.told) ≡ arrival_entry receipt
same_entry place conn channel raw receipt is =
    λ i. log_entry.Booked (entry.Arrival (sym is.conn i) (sym is.channel i) (sym is.raw i) receipt.told)

-- an arrival was booked
one_booked : (h : History) (conn : ℕ) (judged : Judgement) (old new : SeatView) (receipt : Receipt) → Arrives h conn judged old new (Ok receipt) → BooksInLog h old new (receipt ∷ [])
one_booked h conn judged old new receipt arrives =
    let e : Event = arrive conn judged.channel judged.raw in
    let call : Calls h e old new (Ok receipt.told) = arrives.call in
    let added : LogEntry = log_entry.Booked (entry_of e receipt.told) in
    let others : entries_of old.number (old.seen ++ call.others) ≡ entries_of old.number old.seen = call_others h e old new (Ok receipt.told) call in record {
      number = call.number;
      own =
          ap (entries_of old.number) call.seen
          ∙ entries_more old.number (old.seen ++ call.others) added
          ∙ ap (λ w. w ++ added ∷ []) others
          ∙ ap (λ x. entries_of old.number old.seen ++ x ∷ []) (same_entry (next_place (book_at h old call.others)) conn judged.channel judged.raw receipt arrives.receipt);
      seen = call_seen h e old new (Ok receipt.told) call;
      legal = λ _. call.legal;
      in_turn = booked_first old new new conn judged receipt [] arrives (no_arrival new);
    }

-- an arrival was refused
one_refused : (h : History) (conn : ℕ) (judged : Judgement) (old new : SeatView) (refusal : NotBooked) → Arrives h conn judged old new (Err refusal) → BooksInLog h old new []
one_refused h conn judged old new refusal arrives =
    let e : Event = arrive conn judged.channel judged.raw in
    let r : Result (Reply e) (Refusal e) = Err (arrive_refusal refusal) in
    let call : Calls h e old new r = arrives.call in record {
      number = call.number;
      own =
          ap (entries_of old.number) (call.seen ∙ append-nil (old.seen ++ call.others))
          ∙ call_others h e old new r call
          ∙ sym (append-nil (entries_of old.number old.seen));
      seen = call_seen h e old new r call;
      legal = λ _. call.legal;
      in_turn = refused_first old new new conn judged refusal [] arrives (no_arrival new);
    }

-- the seat looked at the book
looked : (h : History) (old new : SeatView) → Looks h old new → BooksInLog h old new []
looked h old new look = record {
  number = look.number;
  own =
      ap (entries_of old.number) look.seen
      ∙ entries-append old.number old.seen look.others
      ∙ ap (λ w. entries_of old.number old.seen ++ w) look.none_own;
  seen = (look.others, sym look.seen);
  legal = λ _. look.legal;
  in_turn = looked_first old new new [] look (no_arrival new);
}

-- What was booked at a desk since an earlier view of it, and counted there. The name is of the very desk.
pub record BooksAtDesk (opening : History) (old new : DeskView) (receipts : List Receipt) (name name' : ℕ) : Type 0 where
  pub log : BooksInLog opening old.seat new.seat receipts
  pub made : new.made ≡ old.made + length receipts
  pub same : name' ≡ name

pub desk_nothing : (h : History) (desk : DeskView) (name : ℕ) → BooksAtDesk h desk desk [] name name
desk_nothing h desk name = record { log = books_nothing h desk.seat; made = omega arith; same = refl }

pub desk_after : (h : History) (x y z : DeskView) (rs ss : List Receipt) (a b c : ℕ) → BooksAtDesk h x y rs a b → BooksAtDesk h y z ss b c → BooksAtDesk h x z (rs ++ ss) a c
desk_after h x y z rs ss a b c first then = record {
  log = books_after h x.seat y.seat z.seat rs ss first.log then.log;
  made = omega (arith, first.made, then.made, length-append rs ss);
  same = then.same ∙ first.same;
}

pub desk_booked : (h : History) (conn : ℕ) (judged : Judgement) (old new : DeskView) (name name' : ℕ) (result : Result Receipt NotBooked)
    → Arrives h conn judged old.seat new.seat result → OnOk result (new.made ≡ old.made + 1) → name' ≡ name
    → IfOk result (λ receipt. BooksAtDesk h old new (receipt ∷ []) name name')
desk_booked h conn judged old new name name' (Ok receipt) arrives made same = record { log = one_booked h conn judged old.seat new.seat receipt arrives; made = made; same = same }
desk_booked h conn judged old new name name' (Err refusal) arrives made same = tt

pub desk_refused : (h : History) (conn : ℕ) (judged : Judgement) (old new : DeskView) (name name' : ℕ) (result : Result Receipt NotBooked)
    → Arrives h conn judged old.seat new.seat result → OnErr result (new.made ≡ old.made) → name' ≡ name
    → OnErr result (BooksAtDesk h old new [] name name')
desk_refused h conn judged old new name name' (Ok receipt) arrives made same = tt
desk_refused h conn judged old new name name' (Err refusal) arrives made same = record { log = one_refused h conn judged old.seat new.seat refusal arrives; made = made ∙ omega arith; same = same }

pub desk_looked : (h : History) (old new : DeskView) (name name' : ℕ) → Looks h old.seat new.seat → new.made ≡ old.made → name' ≡ name → BooksAtDesk h old new [] name name'
desk_looked h old new name name' looks made same = record { log = looked h old.seat new.seat looks; made = made ∙ omega arith; same = same }

-- ---- repeats that are not booked

-- what a seat knows, it knows later
abbrev pub known_later : (h : History) (seen seen' : Log) (channel : ℕ) (raw : List ℕ) → IsPrefix seen seen' → IsKnownIn h seen channel raw → IsKnownIn h seen' channel raw
known_later h seen seen' channel raw more known = record {
  before = known.before;
  since = known.since ++ more.0;
  is_seen = sym more.1 ∙ (ap (λ (l : Log). l ++ more.0) known.is_seen ∙ append_assoc known.before known.since more.0);
  first = known.first;
  repeats = known.repeats;
}

pub desk_still_knows : (h : History) (old new : DeskView) (rs : List Receipt) (name name' channel : ℕ) (raw : List ℕ)
    → BooksAtDesk h old new rs name name' → IsKnownIn h old.seat.seen channel raw → IsKnownIn h new.seat.seen channel raw
desk_still_knows h old new rs name name' channel raw books known = known_later h old.seat.seen new.seat.seen channel raw books.log.seen known

-- and what it knew before all was durable that it had seen, is durable
pub known_durably : (h : History) (old new : SeatView) (channel : ℕ) (raw : List ℕ) → Looks h old new → IsAllDurable h old.seen new.seen
    → IsKnownIn h old.seen channel raw → IsDurablyKnown h new.seen channel raw
known_durably h old new channel raw looks all known =
    let more : next_place (after_log h old.seen) ≡ next_place (after_log (after_log h known.before) known.since) =
    ap (λ (l : Log). next_place (after_log h l)) known.is_seen ∙ ap next_place (after_both h known.before known.since) in
    let behind : next_place (after_log h known.before) ≤ all.below =
    omega (arith, more, grows (after_log h known.before) known.since, all.behind) in
    record {
      known = known_later h old.seen new.seen channel raw (looks.others, sym looks.seen) known;
      below = all.below;
      behind = behind;
      durable = all.durable;
    }

-- an arrival that was refused since the book is full, and repeats one that the book has
pub refused_known : (h : History) (conn : ℕ) (judged : Judgement) (old new : DeskView) (tidied : Tidied) (first : ℕ)
    → ArrivesAtTidied h conn judged old new tidied → tidied.repeats ≡ Some first → IsKnownIn h new.seat.seen judged.channel judged.raw
refused_known h conn judged old new tidied first arrives repeats = record {
  before = new.seat.seen;
  since = [];
  is_seen = sym (append-nil new.seat.seen);
  first = first;
  repeats = is_repeat (after_log h new.seat.seen) tidied.receipt (sym arrives.in_seen ∙ repeats);
}
  where
    is_repeat : (book : History) (r : Result Receipt NotBooked) → unbooked_repeat book judged r ≡ Some first → repeat_of book judged.channel judged.raw ≡ Some first
    is_repeat book (Ok receipt) is = absurd cc
    is_repeat book (Err NoMemory) is = absurd cc
    is_repeat book (Err PlanChanged) is = absurd cc
    is_repeat book (Err Full) is = is
