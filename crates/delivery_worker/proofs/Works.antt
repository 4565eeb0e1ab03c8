-- What was done at a station, once there is a report, and at all stations of a closed book.
use Rattle.std.proofs.Common.{◌≡◌, ℕ, false, List, [], ◌∷◌, Option, None, Some, Result, Ok, Err, map, refl, sym, subst}
use Rattle.std.specs.Prelude.{IfOk, IfSome, is_some}
use Rattle.std.specs.Result.{result_ok}
use Rattle.std.proofs.Math.Logic.{∥∥₁_map, ∥∥₁_map₂}
use Rattle.event_log.specs.History.{History}
use Rattle.book_lock.specs.Callers.{IsClosedBy}
use Rattle.book_lock.specs.Log.{SeatView}
use Rattle.book_lock.specs.Shares.{DeskView, StationView}
use Rattle.delivery_worker.specs.Delivering.{Attempt, ReportsAttempts}
use Rattle.delivery_worker.specs.Turns.{DeliversInLog}
use Rattle.delivery_worker.specs.Sent.{IsTracedTo, StationWork}
use Rattle.delivery_worker.specs.declared.report.DeliverReport.{DeliverReport}
use Rattle.delivery_worker.specs.inner.Works.{HasDelivered}
use Rattle.delivery_worker.proofs.InLog.{no_turn}
use Rattle.delivery_worker.proofs.Sent.{traced_to}

-- delivered once
pub delivered_once : (opening : History) (d : ℕ) (old new : SeatView) (before : Option DeliverReport) (r : DeliverReport) (attempts : List Attempt) → is_some before ≡ false
    → ∥ HasDelivered opening d old before ∥₁ → ReportsAttempts attempts r → DeliversInLog opening d old new attempts → ∥ HasDelivered opening d new (Some r) ∥₁
delivered_once opening d old new None r attempts none unused tells made =
    ∥∥₁_map unused (λ u. (record { destination = d; first = old; last = new; attempts = attempts; unused = u; delivers = made }, refl, refl, tells))
delivered_once opening d old new (Some b) r attempts none unused tells made = absurd cc

-- the work of a station
station_work : (opening : History) (d : ℕ) (seat : SeatView) (report : Option DeliverReport) → HasDelivered opening d seat report
    → (work : StationWork opening) × (work.last ≡ seat)
station_work opening d seat None unused =
    (record { destination = d; first = seat; last = seat; attempts = []; unused = unused; delivers = no_turn opening d seat seat refl }, refl)
station_work opening d seat (Some r) delivered = (delivered.0, delivered.2)

-- and of all
pub station_works : {Y : Type 0} (opening : History) (station : Y → StationView) (d : Y → ℕ) (report : Y → Option DeliverReport)
    → ((y : Y) → ∥ HasDelivered opening (d y) (station y).seat (report y) ∥₁) → (ys : List Y)
    → ∥ ((works : List (StationWork opening)) × (map (λ w. w.last) works ≡ map (λ s. s.seat) (map station ys))) ∥₁
station_works opening station d report each [] = ∣ ([], refl) ∣₁
station_works opening station d report each (y ∷ ys) = ∥∥₁_map₂ (each y) (station_works opening station d report each ys) (λ delivered rest.
    let one = station_work opening (d y) (station y).seat (report y) delivered in (one.0 ∷ rest.0, (λ i. one.1 i ∷ rest.1 i)))

-- a book that could be closed is traced to its desks and stations
pub traced_close : {Y C E : Type 0} (opening : History) (seats : ℕ) (desks : List DeskView) (ys : List Y) (station : Y → StationView) (d : Y → ℕ) (report : Y → Option DeliverReport)
    → ((y : Y) → ∥ HasDelivered opening (d y) (station y).seat (report y) ∥₁)
    → (book : C → History) (r : Result C E) (stations : List StationView) → IfOk r (λ c. IsClosedBy opening seats desks stations (book c))
    → stations ≡ map station ys → (o : Option C) → o ≡ result_ok r
    → IfSome o (λ c. ∥ ((works : List (StationWork opening)) × IsTracedTo opening desks (map station ys) works (book c)) ∥₁)
traced_close {Y} {C} opening seats desks ys station d report each book (Ok c) stations closed are o is =
    subst (λ (o : Option C). IfSome o (λ c. ∥ ((works : List (StationWork opening)) × IsTracedTo opening desks (map station ys) works (book c)) ∥₁)) (sym is)
    (∥∥₁_map (station_works opening station d report each ys) (λ w. (
      w.0,
      traced_to opening (book c) seats desks (map station ys) w.0 (subst (λ (l : List StationView). IsClosedBy opening seats desks l (book c)) are closed) w.1,
    )))
traced_close {Y} {C} opening seats desks ys station d report each book (Err e) stations closed are o is =
    subst (λ (o : Option C). IfSome o (λ c. ∥ ((works : List (StationWork opening)) × IsTracedTo opening desks (map station ys) works (book c)) ∥₁)) (sym is) tt
