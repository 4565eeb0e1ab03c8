-- What was done at all desks and stations, from what is known of each.
use Rattle.std.proofs.Common.{◌≡◌, ℕ, List, [], ◌∷◌, ◌++◌, Option, None, Some, Result, Ok, Err, map, refl, sym, ◌∙◌, subst}
use Rattle.std.specs.Prelude.{IfOk, IfSome}
use Rattle.std.specs.Result.{result_ok}
use Rattle.std.proofs.Math.Logic.{∥∥₁_map₂}
use Rattle.std.proofs.lemmas.List.{append-nil}
use Rattle.std.specs.Global.{Vec}
use Rattle.std.specs.List.{cons_option, filter_map, flat_map}
use Rattle.event_log.specs.History.{History}
use Rattle.book_core.specs.declared.receipt.Receipt.{Receipt}
use Rattle.ghost_log.specs.Seats.{entries_of}
use Rattle.book_lock.specs.Callers.{IsClosedBy}
use Rattle.book_lock.specs.Log.{SeatView}
use Rattle.book_lock.specs.Shares.{DeskView, StationView}
use Rattle.conn_worker.specs.Arriving.{BooksInLog, no_arrival}
use Rattle.conn_worker.specs.declared.report.ServeReport.{ServeReport}
use Rattle.delivery_worker.specs.Sent.{DeskWork, IsTraced, StationWork}
use Rattle.delivery_worker.specs.declared.report.DeliverReport.{DeliverReport}
use Rattle.delivery_worker.proofs.Sent.{traced}
use Rattle.delivery_worker.proofs.Works.{station_works}
use Rattle.delivery_worker.specs.inner.Works.{HasDelivered}
use Rattle.engine_workers.specs.inner.Works.{HasServed}

abbrev Served : Type 0
Served = ServeReport (Vec Receipt)

-- ---- desks

-- the receipts of a report, if there is one
abbrev receipts_of : Option Served → List Receipt
receipts_of None = []
receipts_of (Some r) = r.receipts.items

receipts_cons : (o : Option Served) (rest : List Served) → flat_map (λ r. r.receipts.items) (cons_option o rest) ≡ receipts_of o ++ flat_map (λ r. r.receipts.items) rest
receipts_cons None rest = refl
receipts_cons (Some r) rest = refl

-- nothing was booked
no_books : (opening : History) (seat : SeatView) → BooksInLog opening seat seat []
no_books opening seat = record {
  number = refl;
  own = sym (append-nil (entries_of seat.number seat.seen));
  seen = ([], append-nil seat.seen);
  legal = λ was. was;
  in_turn = no_arrival seat;
}

desk_work : (opening : History) (seat : SeatView) (report : Option Served) → HasServed opening seat report
    → (work : DeskWork opening) × (work.last ≡ seat) × (work.receipts ≡ receipts_of report)
desk_work opening seat None unused = (record { first = seat; last = seat; receipts = []; unused = unused; books = no_books opening seat }, refl, refl)
desk_work opening seat (Some r) served = served

desk_works : {X : Type 0} (opening : History) (desk : X → DeskView) (report : X → Option Served) → ((x : X) → ∥ HasServed opening (desk x).seat (report x) ∥₁) → (xs : List X)
    → ∥ ((works : List (DeskWork opening)) × (map (λ w. w.last) works ≡ map (λ d. d.seat) (map desk xs))
    × (flat_map (λ w. w.receipts) works ≡ flat_map (λ r. r.receipts.items) (filter_map report xs))) ∥₁
desk_works opening desk report each [] = ∣ ([], refl, refl) ∣₁
desk_works opening desk report each (x ∷ xs) = ∥∥₁_map₂ (each x) (desk_works opening desk report each xs) (λ served rest.
    let one = desk_work opening (desk x).seat (report x) served in (
      one.0 ∷ rest.0,
      (λ i. one.1 i ∷ rest.1 i),
      (λ i. one.2 i ++ rest.2 i) ∙ sym (receipts_cons (report x) (filter_map report xs)),
    ))

-- ---- a closed book

pub traced_by : {X Y : Type 0} (opening book : History) (seats : ℕ) (desk : X → DeskView) (served : X → Option Served) (station : Y → StationView) (d : Y → ℕ)
    (delivered : Y → Option DeliverReport) → ((x : X) → ∥ HasServed opening (desk x).seat (served x) ∥₁)
    → ((y : Y) → ∥ HasDelivered opening (d y) (station y).seat (delivered y) ∥₁) → (xs : List X) (ys : List Y)
    → IsClosedBy opening seats (map desk xs) (map station ys) book
    → ∥ ((works : List (StationWork opening)) × IsTraced opening (flat_map (λ r. r.receipts.items) (filter_map served xs)) works book) ∥₁
traced_by opening book seats desk served station d delivered desks stations xs ys closed =
    ∥∥₁_map₂ (desk_works opening desk served desks xs) (station_works opening station d delivered stations ys) (λ b s. (
      s.0,
      subst (λ (receipts : List Receipt). IsTraced opening receipts s.0 book) b.2 (traced opening book seats (map desk xs) (map station ys) b.0 s.0 closed b.1 s.1),
    ))

-- so it is where a book could be closed
pub traced_end : {X Y C E : Type 0} (opening : History) (seats : ℕ) (xs : List X) (ys : List Y) (desk : X → DeskView) (served : X → Option Served) (station : Y → StationView) (d : Y → ℕ)
    (delivered : Y → Option DeliverReport) → ((x : X) → ∥ HasServed opening (desk x).seat (served x) ∥₁)
    → ((y : Y) → ∥ HasDelivered opening (d y) (station y).seat (delivered y) ∥₁)
    → (book : C → History) (r : Result C E) (desks : List DeskView) (stations : List StationView) → IfOk r (λ c. IsClosedBy opening seats desks stations (book c))
    → desks ≡ map desk xs → stations ≡ map station ys → (reports : List Served) → reports ≡ filter_map served xs → (o : Option C) → o ≡ result_ok r
    → IfSome o (λ c. ∥ ((works : List (StationWork opening)) × IsTraced opening (flat_map (λ r. r.receipts.items) reports) works (book c)) ∥₁)
traced_end {X} {Y} {C} opening seats xs ys desk served station d delivered at_desks at_stations book (Ok c) desks stations closed are_desks are_stations reports are o is =
    subst (λ (o : Option C). IfSome o (λ c. ∥ ((works : List (StationWork opening)) × IsTraced opening (flat_map (λ r. r.receipts.items) reports) works (book c)) ∥₁)) (sym is)
    (subst (λ (l : List Served). ∥ ((works : List (StationWork opening)) × IsTraced opening (flat_map (λ r. r.receipts.items) l) works (book c)) ∥₁) (sym are)
    (traced_by opening (book c) seats desk served station d delivered at_desks at_stations xs ys
    (subst (λ (l : List DeskView). IsClosedBy opening seats l (map station ys) (book c)) are_desks
    (subst (λ (l : List StationView). IsClosedBy opening seats desks l (book c)) are_stations closed))))
traced_end {X} {Y} {C} opening seats xs ys desk served station d delivered at_desks at_stations book (Err e) desks stations closed are_desks are_stations reports are o is =
    subst (λ (o : Option C). IfSome o (λ c. ∥ ((works : List (StationWork opening)) × IsTraced opening (flat_map (λ r. r.receipts.items) reports) works (book c)) ∥₁)) (sym is) tt
