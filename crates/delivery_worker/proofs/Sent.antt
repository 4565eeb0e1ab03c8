-- What a station settled as delivered was sent in one of its turns.
use Rattle.std.proofs.Common.{◌≡◌, ℕ, Bool, true, false, cond, List, [], ◌∷◌, ◌++◌, length, map, Some, slice_get, Result, Ok, Err, refl, sym, ap, ◌∙◌, subst, inl, inr, arith}
use Rattle.std.specs.List.{Contains, flat_map}
use Rattle.std.proofs.lemmas.List.Elements.{All-contains, Contains-append_cases, Contains-append_left, Contains-append_right}
use mathlib.Core.List.{IsPrefix}
use Rattle.mllp_frame.specs.Framing.{block_bytes}
use Rattle.dest_queue.specs.declared.Outcome.{Outcome}
use Rattle.dest_queue.specs.declared.Outcome.TheVariants.{Delivered, Again}
use Rattle.dest_queue.specs.declared.SettleRefusal.{SettleRefusal}
use Rattle.dest_queue.specs.declared.SlotState.{SlotState}
use Rattle.event_log.specs.declared.entry.Entry.TheVariants as entry
use Rattle.event_log.specs.declared.entry.Ticket.{Ticket}
use Rattle.event_log.specs.History.{History, payload}
use Rattle.event_log.proofs.Events.{ticket-destination}
use Rattle.ghost_log.specs.Seats.{Agrees, entries_of}
use Rattle.book_lock.specs.declared.log_entry.LogEntry.{LogEntry}
use Rattle.book_lock.specs.declared.log_entry.LogEntry.TheVariants as log
use Rattle.book_lock.specs.Log.{Log, SeatView, after_log}
use Rattle.book_lock.specs.Callers.{HasNumber, IsClosedBy}
use Rattle.book_lock.specs.Outcomes.{IsAccountedFor, SettledAs}
use Rattle.book_lock.specs.Shares.{DeskView, StationView, seats_of}
use Rattle.conn_worker.specs.Arriving.{arrival_entry}
use Rattle.delivery_worker.specs.Answers.{answer_in, outcome_of}
use Rattle.delivery_worker.specs.Delivering.{Sending, attempt_outcome, sending_outcome}
use Rattle.delivery_worker.specs.Turns.{IsTurnWithin, StationTurn, booked_as, entries_in, settlement}
use Rattle.delivery_worker.specs.Sent.{DeskWork, EveryArrivalHasReceipt, EveryDeliveredWasSent, EveryReceiptHasArrival, HasSent, IsAccepted, IsSendingFrom, IsSent, IsTraced, IsTracedTo, IsUnused, SentByOne, SettledIsSent, StationWork, WasSent}
use Rattle.delivery_worker.proofs.InLog.{call_onward, onward_then}
use Rattle.delivery_worker.proofs.Listed.{contains_any, contains_flat, contains_map, contains_mapped, contains_one, contains_own, contains_within, prefix_last}

-- ---- one sending

delivered_by : (sent ack : Bool) (o : Outcome) → cond sent (cond ack o Delivered) Again ≡ Delivered → (sent ≡ true) × (ack ≡ true → o ≡ Delivered)
delivered_by true true o is = (refl, λ _. is)
delivered_by true false o is = (refl, λ no. absurd cc)
delivered_by false ack o is = absurd cc

-- a sending that came to Delivered
accepted : (s : Sending) → sending_outcome s ≡ Delivered → IsAccepted s
accepted s is =
    let d = delivered_by s.sent s.ack (outcome_of s.control_id (map answer_in s.read)) is in record {
      block = ap (λ b. cond b (block_bytes s.payload) []) d.0;
      answered = d.1;
    }

-- ---- one turn

-- the settlement among a turn's entries
settles_own : (t : StationTurn) (o : Outcome) (ticket : Ticket) (now : ℕ) (state : SlotState)
    → Contains (entries_in t) (log.Booked (entry.Settle o ticket now state)) → (t.job.ticket ≡ ticket) × (attempt_outcome t.attempt ≡ o)
settles_own t o ticket now state h =
    elim (Contains-append_cases (log.Booked (entry.Take t.job.ticket t.taken_at) ∷ []) (booked_as (settlement t) t.reply) (log.Booked (entry.Settle o ticket now state)) h) [
      | inl first ↦ let same = contains_one (log.Booked (entry.Take t.job.ticket t.taken_at)) (log.Booked (entry.Settle o ticket now state)) first in absurd cc
      | inr second ↦ by t.reply second
    ]
  where
    by : (r : Result SlotState SettleRefusal) → Contains (booked_as (settlement t) r) (log.Booked (entry.Settle o ticket now state)) → (t.job.ticket ≡ ticket) × (attempt_outcome t.attempt ≡ o)
    by (Ok reply) is =
        let same : log.Booked (entry.Settle (attempt_outcome t.attempt) t.job.ticket t.settled_at reply) ≡ log.Booked (entry.Settle o ticket now state) =
        contains_one (log.Booked (entry.Settle (attempt_outcome t.attempt) t.job.ticket t.settled_at reply)) (log.Booked (entry.Settle o ticket now state)) is in
        (cc, cc)
    by (Err refusal) is = let inside = is.1 in absurd (omega arith)

-- a turn within a log, that came to Delivered
was_sent : (opening : History) (entries : Log) (d : ℕ) (old new : SeatView) (t : StationTurn) → IsPrefix new.seen entries → IsTurnWithin opening d old new t
    → attempt_outcome t.attempt ≡ Delivered → (t.job.ticket.destination ≡ d) × WasSent opening entries old.number t.job.ticket.number d t
was_sent opening entries d old new t prefix w is =
    let turn = w.turn in
    let takes = turn.takes in
    let job = t.job in
    let before : Log = w.begin.seen ++ takes.call.others in
    let book : History = after_log opening before in
    let whole : IsPrefix turn.between.seen entries = onward_then turn.between.seen w.end.seen entries
    (call_onward opening (settlement t) turn.between w.end t.reply turn.settles) (onward_then w.end.seen new.seen entries w.before prefix) in
    let last = prefix_last before turn.between.seen entries (w.begin.number, log.Booked (entry.Take job.ticket t.taken_at)) takes.call.seen whole in
    let there : job.ticket.destination ≡ d = ticket-destination book d t.taken_at job.ticket takes.call.does.replied in
    let n = job.ticket.number in
    let text : t.attempt.last.payload ≡ payload book n d = turn.sends.1 ∙ takes.job.payload in (
      there,
      record {
        index = length before;
        taken = last.0 ∙ ap (λ (k : ℕ). Some (k, log.Booked (entry.Take job.ticket t.taken_at))) w.number;
        message = refl;
        destination = there;
        sending = subst (λ (l : Log). IsSendingFrom (after_log opening l) n d t.attempt.last) (sym last.1)
            (turn.sends.0 ∙ takes.job.control_id, text, turn.sends.2 ∙ takes.job.ack);
        accepted = accepted t.attempt.last is;
      },
    )

-- ---- one station

-- a seat that has made no call has no entry
no_entries : {E : Type 0} (xs : List E) → length xs ≡ 0 → xs ≡ []
no_entries [] none = refl
no_entries (x ∷ xs) none = absurd (omega arith)

unused_none : (seat : SeatView) → IsUnused seat → entries_of seat.number seat.seen ≡ []
unused_none seat none = no_entries (entries_of seat.number seat.seen) none

-- all entries of a station's seat are those of its turns
own_entries : (opening : History) (entries : Log) (work : StationWork opening) → Agrees work.last.number work.last.seen entries
    → entries_of work.last.number entries ≡ flat_map entries_in work.delivers.turns
own_entries opening entries work agrees =
    agrees.own ∙ ap (λ (k : ℕ). entries_of k work.last.seen) work.delivers.number ∙ work.delivers.own
    ∙ ap (λ (w : List LogEntry). w ++ flat_map entries_in work.delivers.turns) (unused_none work.first work.unused)

-- the seat of a closed book agrees with its log
seat_agrees : (opening book : History) (seats : ℕ) (seen : List SeatView) (closed : IsAccountedFor opening seats seen book) (v : SeatView) → Contains seen v
    → Agrees v.number v.seen closed.one_history.entries
seat_agrees opening book seats seen closed v among =
    All-contains (λ (w : SeatView). Agrees w.number w.seen closed.one_history.entries) seen v closed.one_history.agreed among

pub settled_sent : (opening book : History) (seats : ℕ) (seen : List SeatView) (closed : IsAccountedFor opening seats seen book) (work : StationWork opening) → Contains seen work.last
    → SettledIsSent closed.one_history.entries work
settled_sent opening book seats seen closed work is_closed index ticket settles own =
    let entries = closed.one_history.entries in
    let number = work.last.number in
    let entry_is : LogEntry = log.Booked (entry.Settle Delivered ticket settles.now settles.state) in
    let agrees : Agrees number work.last.seen entries = seat_agrees opening book seats seen closed work.last is_closed in
    let at : slice_get entries index ≡ Some (number, entry_is) = settles.is ∙ ap (λ (k : ℕ). Some (k, entry_is)) own in
    let among = subst (λ (w : List LogEntry). Contains w entry_is) (own_entries opening entries work agrees) (contains_own number entries index entry_is at) in
    let part = contains_flat entries_in work.delivers.turns entry_is among in
    let turn = part.part in
    let same = settles_own turn Delivered ticket settles.now settles.state part.holds in
    let within = All-contains (IsTurnWithin opening work.destination work.first work.last) work.delivers.turns turn work.delivers.each part.is_one in
    let sent = was_sent opening entries work.destination work.first work.last turn agrees.begins within same.1 in (
      ap (λ (t : Ticket). t.destination) (sym same.0) ∙ sent.0,
      record {
        turn = turn;
        is_own = part.is_one;
        was_sent = subst (λ (p : ℕ × ℕ). WasSent opening entries p.0 p.1 work.destination turn) (λ i. (sym work.delivers.number i, (same.0 i).number)) sent.1;
      },
    )

-- ---- all stations and all desks

-- the work at the seat with a number, among works whose last views are these seats
record IsAt {W : Type 0} (last : W → SeatView) (works : List W) (seats : List SeatView) (number : ℕ) : Type 0 where
  work : W
  is_one : Contains works work
  is_number : (last work).number ≡ number
  is_seat : Contains seats (last work)

work_at : {W : Type 0} (last : W → SeatView) (works : List W) (seats : List SeatView) (number : ℕ) → map last works ≡ seats → HasNumber seats number → IsAt last works seats number
work_at last works seats number are has =
    let seat = contains_map (λ (v : SeatView). v.number) seats number has in
    let work = contains_map last works seat.of (subst (λ (w : List SeatView). Contains w seat.of) (sym are) seat.is_one) in record {
      work = work.of;
      is_one = work.is_one;
      is_number = ap (λ (v : SeatView). v.number) work.is ∙ seat.is;
      is_seat = subst (λ (v : SeatView). Contains seats v) (sym work.is) seat.is_one;
    }

pub delivered_sent : (opening book : History) (seats : ℕ) (desks : List DeskView) (stations : List StationView) (closed : IsClosedBy opening seats desks stations book)
    (works : List (StationWork opening)) → map (λ w. w.last) works ≡ map (λ s. s.seat) stations → EveryDeliveredWasSent closed.accounted.one_history.entries works book
delivered_sent opening book seats desks stations closed works are n d there = elim (closed.accounted.delivered n d there) [
  | inl was ↦ inl was
  | inr s ↦ inr (by s (work_at (λ w. w.last) works (map (λ s. s.seat) stations) s.settles.seat are (closed.callers.settlements s.index s.ticket Delivered s.settles)))
]
  where
    entries : Log
    entries = closed.accounted.one_history.entries

    by : (s : SettledAs entries n d Delivered) → IsAt (λ w. w.last) works (map (λ s. s.seat) stations) s.settles.seat → SentByOne entries works n d
    by s at =
        let among = Contains-append_right (map (λ d. d.seat) desks) (map (λ s. s.seat) stations) at.work.last at.is_seat in
        let sent = settled_sent opening book seats (seats_of desks stations) closed.accounted at.work among s.index s.ticket s.settles (sym at.is_number) in record {
          work = at.work;
          is_one = at.is_one;
          destination = sym sent.0 ∙ s.destination;
          sent = subst (λ (k : ℕ). HasSent entries k at.work) s.message sent.1;
        }

-- ---- arrivals

-- all entries of a desk's seat are those of its receipts
booked_entries : (opening : History) (entries : Log) (work : DeskWork opening) → Agrees work.last.number work.last.seen entries
    → entries_of work.last.number entries ≡ map arrival_entry work.receipts
booked_entries opening entries work agrees =
    agrees.own ∙ ap (λ (k : ℕ). entries_of k work.last.seen) work.books.number ∙ work.books.own
    ∙ ap (λ (w : List LogEntry). w ++ map arrival_entry work.receipts) (unused_none work.first work.unused)

pub arrivals_received : (opening book : History) (seats : ℕ) (desks : List DeskView) (stations : List StationView) (closed : IsClosedBy opening seats desks stations book)
    (works : List (DeskWork opening)) → map (λ w. w.last) works ≡ map (λ d. d.seat) desks
    → EveryArrivalHasReceipt closed.accounted.one_history.entries (flat_map (λ w. w.receipts) works)
arrivals_received opening book seats desks stations closed works are index seat conn channel raw told is =
    let entries = closed.accounted.one_history.entries in
    let e : LogEntry = log.Booked (entry.Arrival conn channel raw told) in
    let at = work_at (λ (w : DeskWork opening). w.last) works (map (λ d. d.seat) desks) seat are (closed.callers.arrivals index seat conn channel raw told is) in
    let work = at.work in
    let agrees = seat_agrees opening book seats (seats_of desks stations) closed.accounted work.last (Contains-append_left (map (λ d. d.seat) desks) (map (λ s. s.seat) stations) work.last at.is_seat) in
    let own : slice_get entries index ≡ Some (work.last.number, e) = is ∙ ap (λ (k : ℕ). Some (k, e)) (sym at.is_number) in
    let among = subst (λ (w : List LogEntry). Contains w e) (booked_entries opening entries work agrees) (contains_own work.last.number entries index e own) in
    let receipt = contains_map arrival_entry work.receipts e among in
    subst (λ (x : LogEntry). Contains (map arrival_entry (flat_map (λ w. w.receipts) works)) x) receipt.is
    (contains_mapped arrival_entry (flat_map (λ w. w.receipts) works) receipt.of (contains_within (λ (w : DeskWork opening). w.receipts) works work receipt.of at.is_one receipt.is_one))

pub receipts_arrived : (opening book : History) (seats : ℕ) (desks : List DeskView) (stations : List StationView) (closed : IsClosedBy opening seats desks stations book)
    (works : List (DeskWork opening)) → map (λ w. w.last) works ≡ map (λ d. d.seat) desks
    → EveryReceiptHasArrival closed.accounted.one_history.entries (flat_map (λ w. w.receipts) works)
receipts_arrived opening book seats desks stations closed works are receipt among =
    let entries = closed.accounted.one_history.entries in
    let part = contains_flat (λ (w : DeskWork opening). w.receipts) works receipt among in
    let work = part.part in
    let seat : Contains (map (λ d. d.seat) desks) work.last = subst (λ (w : List SeatView). Contains w work.last) are (contains_mapped (λ (w : DeskWork opening). w.last) works work part.is_one) in
    let agrees = seat_agrees opening book seats (seats_of desks stations) closed.accounted work.last (Contains-append_left (map (λ d. d.seat) desks) (map (λ s. s.seat) stations) work.last seat) in
    let own = subst (λ (w : List LogEntry). Contains w (arrival_entry receipt)) (sym (booked_entries opening entries work agrees)) (contains_mapped arrival_entry work.receipts receipt part.holds) in
    contains_any work.last.number entries (arrival_entry receipt) own

-- ---- a closed book

abbrev sent_by_one : (opening book : History) (seats : ℕ) (desks : List DeskView) (stations : List StationView) (works : List (StationWork opening))
    → IsClosedBy opening seats desks stations book → map (λ w. w.last) works ≡ map (λ s. s.seat) stations → IsSent opening works book
sent_by_one opening book seats desks stations works closed are = record {
  entries = closed.accounted.one_history.entries;
  is_book = closed.accounted.one_history.is_book;
  delivered = delivered_sent opening book seats desks stations closed works are;
}

pub traced_to : (opening book : History) (seats : ℕ) (desks : List DeskView) (stations : List StationView) (works : List (StationWork opening))
    → IsClosedBy opening seats desks stations book → map (λ w. w.last) works ≡ map (λ s. s.seat) stations → IsTracedTo opening desks stations works book
traced_to opening book seats desks stations works closed are = record {
  sent = sent_by_one opening book seats desks stations works closed are;
  callers = closed.callers;
  works_are = are;
}

pub traced : (opening book : History) (seats : ℕ) (desks : List DeskView) (stations : List StationView) (booked : List (DeskWork opening)) (delivered : List (StationWork opening))
    → IsClosedBy opening seats desks stations book → map (λ w. w.last) booked ≡ map (λ d. d.seat) desks → map (λ w. w.last) delivered ≡ map (λ s. s.seat) stations
    → IsTraced opening (flat_map (λ w. w.receipts) booked) delivered book
traced opening book seats desks stations booked delivered closed at_desks at_stations = record {
  sent = sent_by_one opening book seats desks stations delivered closed at_stations;
  arrivals = arrivals_received opening book seats desks stations closed booked at_desks;
  receipts_are = receipts_arrived opening book seats desks stations closed booked at_desks;
}
