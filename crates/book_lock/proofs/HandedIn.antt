-- Lemmas on what is counted of a log, and on who made its calls.
use Rattle.std.proofs.Common.{◌≡◌, ◌≢◌, ℕ, ◌+◌, ◌-◌, ◌<◌, ◌≤◌, ◌^◌, List, [], ◌∷◌, ◌++◌, map, cond, None, Some, refl, ap, sym, ◌∙◌, subst, arith, All, Bool, take, length, append_assoc}
use Rattle.std.specs.Prelude.{AllPairs, false, slice_get, sum_by, true}
use Rattle.std.specs.List.{Contains}
use Rattle.std.proofs.lemmas.List.{append-nil, length-map, map-append}
use Rattle.std.proofs.lemmas.List.Elements.{All-append, All-cons, All-nil, All-weaker}
use Rattle.std.proofs.lemmas.Simd.{map-map}
use Rattle.stat_count.specs.Sums.{arrivals, settlements, takes}
use Rattle.event_log.specs.History.{History, followed_by, plan_in_force}
use Rattle.event_log.specs.Counting.{counted}
use Rattle.event_log.specs.Folding.{prune_answer, pruned}
use Rattle.event_log.specs.inner.Legal.{IsSound}
use Rattle.event_log.specs.declared.entry.Entry.{Entry}
use Rattle.stat_count.specs.Statistics.{Statistics}
use Rattle.book_core.specs.inner.Counting.{SumsRise}
use Rattle.event_log.specs.declared.entry.Entry.TheVariants.{Arrival, Take, Settle}
use Rattle.ghost_log.specs.Seats.{Agrees}
use Rattle.ghost_log.proofs.Counting.{all_added, all_back, all_counted, all_front, all_in_map, all_of_map, each_owned, own_added, own_few, own_shown, pairs_back, pairs_front, pairs_in_map, pairs_of_map}
use Rattle.ghost_log.proofs.Numbers.{all_numbers}
use Rattle.book_lock.specs.declared.log_entry.LogEntry.{LogEntry}
use Rattle.book_lock.specs.declared.log_entry.LogEntry.TheVariants.{Booked, Pruned, Durable}
use Rattle.book_lock.specs.Callers.{AreCallers, HasNumber, IsClosedBy}
use Rattle.book_lock.specs.Log.{IsBookOf, Linearizes, Log, SeatView}
use Rattle.book_lock.specs.Rises.{AddsUp, SharedBook, arrived, settled, taken}
use Rattle.book_lock.specs.Shares.{DeskView, StationView, seats_of}
use Rattle.book_lock.specs.inner.Counts.{IsManned, count_in, count_of, is_arrival, is_settlement, is_take}
use Rattle.book_lock.specs.inner.Log.{AreInLog, desk_seat, station_seat}
use Rattle.book_lock.specs.inner.Rises.{IsCounted, IsCountedIn, IsOpened, with_book}
use Rattle.book_lock.specs.inner.Sound.{IsSoundBook}
use Rattle.book_lock.proofs.Following.{folded, next}
use Rattle.book_lock.proofs.Logging.{agreed_all}
use Rattle.book_lock.proofs.Outcomes.{accounted, accounted_by}

-- ---- counts

one_more : (m m' n n' c : ℕ) → m ≡ n → m' ≡ m + c → n' ≡ n + c → m' ≡ n'
one_more m m' n n' c was more is = omega (arith, was, more, is)

-- what is counted of the log follows an entry
pub counted_next : (h : SharedBook) (e : Entry) (new : History) (counts : Statistics) (first channels number : ℕ) (log log' : Log) → new ≡ followed_by h.book e
    → length (plan_in_force (followed_by h.book e)).channels ≡ length (plan_in_force h.book).channels
    → IsOpened h counts first channels → IsCounted h (count_in is_arrival log) (count_in is_take log) (count_in is_settlement log)
    → SumsRise (cond (is_arrival (Booked e)) 1 0) (cond (is_take (Booked e)) 1 0) (cond (is_settlement (Booked e)) 1 0) (counted h.book) (counted (followed_by h.book e))
    → log' ≡ log ++ (number, Booked e) ∷ []
    → IsOpened (with_book h new) counts first channels × IsCounted (with_book h new) (count_in is_arrival log') (count_in is_take log') (count_in is_settlement log')
counted_next h e new counts first channels number log log' booked same opened known rise is =
    next h e new counts first channels (count_in is_arrival log) (count_in is_take log) (count_in is_settlement log)
    (cond (is_arrival (Booked e)) 1 0) (cond (is_take (Booked e)) 1 0) (cond (is_settlement (Booked e)) 1 0)
    (count_in is_arrival log') (count_in is_take log') (count_in is_settlement log') booked same opened known rise
    (all_added is_arrival log log' (number, Booked e) is) (all_added is_take log log' (number, Booked e) is) (all_added is_settlement log log' (number, Booked e) is)

same_count : (kind : LogEntry → Bool) (log log' : Log) (x : ℕ × LogEntry) → log' ≡ log ++ x ∷ [] → kind x.1 ≡ false → count_in kind log' ≡ count_in kind log
same_count kind log log' x is none =
    let more : count_in kind log' ≡ count_in kind log + cond (kind x.1) 1 0 = all_added kind log log' x is in
    let zero : ◌≡◌ {A = ℕ} (cond (kind x.1) 1 0) 0 = ap (λ b. cond b 1 0) none in
    omega (arith, more, zero)

-- and a pruning
pub folded_in : (h : SharedBook) (bound : ℕ) (new : History) (counts : Statistics) (first channels number : ℕ) (log log' : Log) → log' ≡ log ++ (number, Pruned bound) ∷ []
    → new ≡ pruned bound h.book → IsSound h.book → prune_answer h.book bound ≡ None
    → IsOpened h counts first channels → IsCounted h (count_in is_arrival log) (count_in is_take log) (count_in is_settlement log)
    → IsOpened (with_book h new) counts first channels × IsCounted (with_book h new) (count_in is_arrival log') (count_in is_take log') (count_in is_settlement log')
folded_in h bound new counts first channels number log log' is to sound may opened known =
    let n = folded h bound new counts first channels (count_in is_arrival log) (count_in is_take log) (count_in is_settlement log) to sound may opened known in
    let a = same_count is_arrival log log' (number, Pruned bound) is refl in
    let t = same_count is_take log log' (number, Pruned bound) is refl in
    let s = same_count is_settlement log log' (number, Pruned bound) is refl in
    (n.0, subst (λ (w : ℕ × ℕ × ℕ). IsCounted (with_book h new) w.0 w.1 w.2) (λ i. (sym a i, sym t i, sym s i)) n.1)

-- what is durable changes no count
pub durable_in : (h : SharedBook) (number below : ℕ) (log log' : Log) → log' ≡ log ++ (number, Durable below) ∷ []
    → IsCounted h (count_in is_arrival log) (count_in is_take log) (count_in is_settlement log)
    → IsCounted h (count_in is_arrival log') (count_in is_take log') (count_in is_settlement log')
durable_in h number below log log' is known =
    let a = same_count is_arrival log log' (number, Durable below) is refl in
    let t = same_count is_take log log' (number, Durable below) is refl in
    let s = same_count is_settlement log log' (number, Durable below) is refl in
    subst (λ (w : ℕ × ℕ × ℕ). IsCounted h w.0 w.1 w.2) (λ i. (sym a i, sym t i, sym s i)) known

-- ---- who adds what

pub manned_at_first : (d s : ℕ) (log : Log) → log ≡ [] → IsManned d s log
manned_at_first d s log none = subst (IsManned d s) (sym none) (record {
  arrivals = All-nil (λ (x : ℕ × LogEntry). is_arrival x.1 ≡ true → x.0 < d);
  takes = All-nil (λ (x : ℕ × LogEntry). is_take x.1 ≡ true → (d ≤ x.0) × (x.0 < d + s));
  settlements = All-nil (λ (x : ℕ × LogEntry). is_settlement x.1 ≡ true → (d ≤ x.0) × (x.0 < d + s));
})

one_more_of : (P : ℕ × LogEntry → Type 0) (log : Log) (x : ℕ × LogEntry) → All P log → P x → All P (log ++ x ∷ [])
one_more_of P log x rest here = All-append P log (x ∷ []) rest (All-cons P x [] here (All-nil P))

pub manned_more : (d s : ℕ) (log log' : Log) (x : ℕ × LogEntry) → IsManned d s log → log' ≡ log ++ x ∷ []
    → (is_arrival x.1 ≡ true → x.0 < d) → (is_take x.1 ≡ true → (d ≤ x.0) × (x.0 < d + s)) → (is_settlement x.1 ≡ true → (d ≤ x.0) × (x.0 < d + s))
    → IsManned d s log'
manned_more d s log log' x was is a t e = subst (IsManned d s) (sym is) (record {
  arrivals = one_more_of (λ x. is_arrival x.1 ≡ true → x.0 < d) log x was.arrivals a;
  takes = one_more_of (λ x. is_take x.1 ≡ true → (d ≤ x.0) × (x.0 < d + s)) log x was.takes t;
  settlements = one_more_of (λ x. is_settlement x.1 ≡ true → (d ≤ x.0) × (x.0 < d + s)) log x was.settlements e;
})

off : (b : Bool) → b ≡ false → b ≡ true → ⊥
off true p q = absurd cc
off false p q = absurd cc

-- an entry of another kind may have any number
pub manned_none : (d s : ℕ) (log log' : Log) (x : ℕ × LogEntry) → IsManned d s log → log' ≡ log ++ x ∷ []
    → (is_arrival x.1 ≡ false) × (is_take x.1 ≡ false) × (is_settlement x.1 ≡ false) → IsManned d s log'
manned_none d s log log' x was is none =
    manned_more d s log log' x was is (λ e. absurd (off (is_arrival x.1) none.0 e)) (λ e. absurd (off (is_take x.1) none.1 e)) (λ e. absurd (off (is_settlement x.1) none.2 e))

-- ---- counts of a seat

-- what a seat counts of its own, once it has seen the log, or added an entry to it
pub counts_shown : (kind : LogEntry → Bool) (made made' number : ℕ) (seen log : Log) → made ≡ count_of kind number seen → Agrees number seen log → made' ≡ made → made' ≡ count_of kind number log
counts_shown kind made made' number seen log was agreed same = same ∙ (was ∙ sym (own_shown kind number seen log agreed))

pub counts_added : (kind : LogEntry → Bool) (made made' number : ℕ) (seen log log' : Log) (e : LogEntry) → made ≡ count_of kind number seen → Agrees number seen log → log' ≡ log ++ (number, e) ∷ []
    → made' ≡ made + cond (kind e) 1 0 → made' ≡ count_of kind number log'
counts_added kind made made' number seen log log' e was agreed is more =
    one_more made made' (count_of kind number seen) (count_of kind number log') (cond (kind e) 1 0) was more (own_added kind number seen log log' e agreed is)

-- a seat counts no more of its own than the log has
pub counts_few : (kind : LogEntry → Bool) (made number : ℕ) (seen log : Log) → made ≡ count_of kind number seen → Agrees number seen log → made ≤ count_in kind log
counts_few kind made number seen log own agreed = omega (arith, own, own_few kind number seen log agreed)

pub count_fits : (kind : LogEntry → Bool) (made number : ℕ) (seen log : Log) → made ≡ count_of kind number seen → Agrees number seen log → count_in kind log + 1 < 2 ^ 64 → made + 1 < 2 ^ 64
count_fits kind made number seen log own agreed fits = omega (arith, counts_few kind made number seen log own agreed, fits)

-- ---- seats

abbrev AreApart : List (ℕ × Log) → Type 0
AreApart held = AllPairs (λ s t. s.0 ≢ t.0) held

-- seats that agree with the log, of which no two have the same number
pub record AreSeats {X : Type 0} (seat : X → ℕ × Log) (xs : List X) (log : Log) : Type 0 where
  pub agreed : All (λ x. Agrees (seat x).0 (seat x).1 log) xs
  pub apart : AllPairs (λ x y. (seat x).0 ≢ (seat y).0) xs

pub desk_seats : (ds : List DeskView) (ss : List StationView) (log : Log) (held : List (ℕ × Log)) → held ≡ map desk_seat ds ++ (map station_seat ss ++ [])
    → All (λ s. Agrees s.0 s.1 log) held → AreApart held → AreSeats desk_seat ds log
desk_seats ds ss log held is agreed apart = record {
  agreed = all_of_map desk_seat (λ s. Agrees s.0 s.1 log) ds (all_front (λ s. Agrees s.0 s.1 log) (map desk_seat ds) (map station_seat ss ++ []) (subst (λ l. All (λ s. Agrees s.0 s.1 log) l) is agreed));
  apart = pairs_of_map desk_seat (λ s t. s.0 ≢ t.0) ds (pairs_front (λ s t. s.0 ≢ t.0) (map desk_seat ds) (map station_seat ss ++ []) (subst AreApart is apart));
}

pub station_seats : (ds : List DeskView) (ss : List StationView) (log : Log) (held : List (ℕ × Log)) → held ≡ map desk_seat ds ++ (map station_seat ss ++ [])
    → All (λ s. Agrees s.0 s.1 log) held → AreApart held → AreSeats station_seat ss log
station_seats ds ss log held is agreed apart =
    let all : held ≡ map desk_seat ds ++ map station_seat ss = is ∙ ap (λ l. map desk_seat ds ++ l) (append-nil (map station_seat ss)) in record {
      agreed = all_of_map station_seat (λ s. Agrees s.0 s.1 log) ss (all_back (λ s. Agrees s.0 s.1 log) (map desk_seat ds) (map station_seat ss) (subst (λ l. All (λ s. Agrees s.0 s.1 log) l) all agreed));
      apart = pairs_of_map station_seat (λ s t. s.0 ≢ t.0) ss (pairs_back (λ s t. s.0 ≢ t.0) (map desk_seat ds) (map station_seat ss) (subst AreApart all apart));
    }

-- what the log and the seats that it holds agree on
pub record AreHandedIn (log : Log) (n : ℕ) (ds : List DeskView) (ss : List StationView) : Type 0 where
  pub desks : AreSeats desk_seat ds log
  pub stations : AreSeats station_seat ss log
  pub within : All (λ (x : ℕ × LogEntry). x.0 < n) log

-- the log, how many seats were issued, and the seats that it holds
abbrev pub RollView : Type 0
RollView = Log × ℕ × List (ℕ × Log)

pub handed_in : (log : Log) (n : ℕ) (ds : List DeskView) (ss : List StationView) (none stations desks : RollView) → none ≡ (log, n, []) → stations ≡ (none.0, none.1, map station_seat ss ++ none.2)
    → desks ≡ (stations.0, stations.1, map desk_seat ds ++ stations.2) → All (λ s. Agrees s.0 s.1 desks.0) desks.2 → AreApart desks.2 → All (λ (x : ℕ × LogEntry). x.0 < desks.1) desks.0
    → AreHandedIn log n ds ss
handed_in log n ds ss none stations desks first second third agreed apart within =
    let held : List (ℕ × Log) = map desk_seat ds ++ (map station_seat ss ++ []) in
    let all : desks ≡ (log, n, held) = third ∙ ap (λ (r : RollView). (r.0, r.1, map desk_seat ds ++ r.2)) (second ∙ ap (λ (r : RollView). (r.0, r.1, map station_seat ss ++ r.2)) first) in
    let agree : All (λ s. Agrees s.0 s.1 log) held = subst (λ (r : RollView). All (λ s. Agrees s.0 s.1 r.0) r.2) all agreed in
    let differ : AreApart held = subst (λ (r : RollView). AreApart r.2) all apart in record {
      desks = desk_seats ds ss log held refl agree differ;
      stations = station_seats ds ss log held refl agree differ;
      within = subst (λ (r : RollView). All (λ (x : ℕ × LogEntry). x.0 < r.1) r.0) all within;
    }

-- one history of all that they and others did
abbrev pub one_history : (opening book : History) (log : Log) (n seats : ℕ) (ds : List DeskView) (ss : List StationView) → IsBookOf opening log book → n ≡ seats → AreHandedIn log n ds ss
    → Linearizes opening seats (seats_of ds ss) book
one_history opening book log n seats ds ss was count known = record {
  entries = log;
  is_book = was;
  agreed = agreed_all log ds ss known.desks.agreed known.stations.agreed;
  within = subst (λ m. All (λ (x : ℕ × LogEntry). x.0 < m) log) count known.within;
}

-- one more seat is handed in
pub held_more : {X : Type 0} (seat : X → ℕ × Log) (all xs ys : List X) (x : X) (before held held' : List (ℕ × Log)) → map seat all ++ before ≡ map seat ys ++ held → ys ≡ xs ++ x ∷ [] → held' ≡ seat x ∷ held
    → map seat all ++ before ≡ map seat xs ++ held'
held_more seat all xs ys x before held held' was is then =
    was ∙ (ap (λ l. map seat l ++ held) is ∙ (ap (λ l. l ++ held) (map-append seat xs (x ∷ [])) ∙ (append_assoc (map seat xs) (seat x ∷ []) held ∙ ap (λ l. map seat xs ++ l) (sym then))))

-- what holds of one more holds of all, if it does of the rest
pub all_more : {X : Type 0} (P : X → Type 0) (all xs ys : List X) (x : X) → (All P ys → All P all) → ys ≡ xs ++ x ∷ [] → P x → All P xs → All P all
all_more P all xs ys x was is here rest = was (subst (All P) (sym is) (All-append P xs (x ∷ []) rest (All-cons P x [] here (All-nil P))))

-- all are handed in, where none is left
pub none_left : {X : Type 0} (xs ys : List X) (n : ℕ) → ys ≡ xs ++ [] → xs ≡ take (n - 1) ys → (0 < n → ⊥) → ys ≡ []
none_left xs ys n is rest none =
    let zero : n - 1 ≡ 0 = omega (arith, none) in
    is ∙ (append-nil xs ∙ (rest ∙ ap (λ m. take m ys) zero))

pub held_all : {X : Type 0} (seat : X → ℕ × Log) (all ys : List X) (before held : List (ℕ × Log)) → map seat all ++ before ≡ map seat ys ++ held → ys ≡ [] → held ≡ map seat all ++ before
held_all seat all ys before held was none = sym (was ∙ ap (λ l. map seat l ++ held) none)

pub all_there : {X : Type 0} (P : X → Type 0) (all ys : List X) → (All P ys → All P all) → ys ≡ [] → All P all
all_there P all ys was none = was (subst (All P) (sym none) (All-nil P))

-- ---- callers

whole_is : (sum now opening total : ℕ) → sum ≡ now - opening → now ≡ opening + total → sum ≡ total
whole_is sum now opening total up is = omega (arith, up, is)

sum_is : (sum now opening total : ℕ) → sum ≡ total → now ≡ opening + total → sum ≡ now - opening
sum_is sum now opening total up is = omega (arith, up, is)

-- what each desk and each station counted is what its seat added to the log
pub record AreCounts (ds : List DeskView) (ss : List StationView) : Type 0 where
  pub made : All (λ (d : DeskView). d.made ≡ count_of is_arrival d.seat.number d.seat.seen) ds
  pub took : All (λ (s : StationView). s.counts.takes ≡ count_of is_take s.seat.number s.seat.seen) ss
  pub done : All (λ (s : StationView). s.counts.settlements ≡ count_of is_settlement s.seat.number s.seat.seen) ss

module _ (h : SharedBook) (log : Log) (ds : List DeskView) (ss : List StationView) (known : IsCountedIn h log) (up : AddsUp h ds ss)
    (desks : AreSeats desk_seat ds log) (stations : AreSeats station_seat ss log) where
  module _ (made : All (λ (d : DeskView). d.made ≡ count_of is_arrival d.seat.number d.seat.seen) ds)
      (took : All (λ (s : StationView). s.counts.takes ≡ count_of is_take s.seat.number s.seat.seen) ss)
      (done : All (λ (s : StationView). s.counts.settlements ≡ count_of is_settlement s.seat.number s.seat.seen) ss) where
    desk_named : (k number : ℕ) (e : LogEntry) → slice_get log k ≡ Some (number, e) → is_arrival e ≡ true → HasNumber (map (λ (d : DeskView). d.seat) ds) number
    desk_named k number e at passes =
        subst (λ l. Contains l number) (sym (map-map (λ (s : SeatView). s.number) (λ (d : DeskView). d.seat) ds))
        (each_owned is_arrival (λ (d : DeskView). d.made) desk_seat ds log made desks.agreed desks.apart
        (whole_is (sum_by (λ (d : DeskView). d.made) ds) (arrived h.book) (arrivals h.opening) (count_in is_arrival log) up.desks_made known.arrivals_are) k number e at passes)

    taker_named : (k number : ℕ) (e : LogEntry) → slice_get log k ≡ Some (number, e) → is_take e ≡ true → HasNumber (map (λ (s : StationView). s.seat) ss) number
    taker_named k number e at passes =
        subst (λ l. Contains l number) (sym (map-map (λ (s : SeatView). s.number) (λ (s : StationView). s.seat) ss))
        (each_owned is_take (λ (s : StationView). s.counts.takes) station_seat ss log took stations.agreed stations.apart
        (whole_is (sum_by (λ (s : StationView). s.counts.takes) ss) (taken h.book) (takes h.opening) (count_in is_take log) up.stations_took known.takes_are) k number e at passes)

    settler_named : (k number : ℕ) (e : LogEntry) → slice_get log k ≡ Some (number, e) → is_settlement e ≡ true → HasNumber (map (λ (s : StationView). s.seat) ss) number
    settler_named k number e at passes =
        subst (λ l. Contains l number) (sym (map-map (λ (s : SeatView). s.number) (λ (s : StationView). s.seat) ss))
        (each_owned is_settlement (λ (s : StationView). s.counts.settlements) station_seat ss log done stations.agreed stations.apart
        (whole_is (sum_by (λ (s : StationView). s.counts.settlements) ss) (settled h.book) (settlements h.opening) (count_in is_settlement log) up.stations_settled known.settlements_are) k number e at passes)

    -- desks and stations whose shares add up made all calls
    pub are_callers : AreCallers log ds ss
    are_callers = record {
      arrivals = λ index seat conn channel raw told at. desk_named index seat (Booked (Arrival conn channel raw told)) at refl;
      takes = λ index seat now ticket at. taker_named index seat (Booked (Take ticket now)) at refl;
      settlements = λ index ticket outcome made. settler_named index made.seat (Booked (Settle outcome ticket made.now made.state)) made.is refl;
    }

-- a book that was closed with those who made its calls
pub closed_by : (opening book : History) (n : ℕ) (ds : List DeskView) (ss : List StationView) → IsSoundBook opening → (one : Linearizes opening n (seats_of ds ss) book) → AreCallers one.entries ds ss → IsClosedBy opening n ds ss book
closed_by opening book n ds ss sound one callers = record {
  accounted = accounted opening book n (seats_of ds ss) sound one;
  callers = subst (λ (l : Linearizes opening n (seats_of ds ss) book). AreCallers l.entries ds ss) (sym (accounted_by opening book n (seats_of ds ss) sound one)) callers;
}

-- ---- all that the book was shared among

seats_in : {X : Type 0} (seat : X → ℕ × Log) (xs : List X) (log : Log) (held : List (ℕ × Log)) → held ≡ map seat xs ++ [] → AreInLog log held → AreSeats seat xs log
seats_in seat xs log held is known =
    let all : held ≡ map seat xs = is ∙ append-nil (map seat xs) in record {
      agreed = all_of_map seat (λ s. Agrees s.0 s.1 log) xs (subst (λ l. All (λ s. Agrees s.0 s.1 log) l) all known.agreed);
      apart = pairs_of_map seat (λ s t. s.0 ≢ t.0) xs (subst AreApart all known.apart);
    }

-- the seats that a log holds, as a roll shows them
pub in_log : (log log' : Log) (held held' : List (ℕ × Log)) → log' ≡ log → held' ≡ held → All (λ s. Agrees s.0 s.1 log') held' → AreApart held' → AreInLog log held
in_log log log' held held' same still agreed apart =
    subst (λ (w : Log × List (ℕ × Log)). AreInLog w.0 w.1) (λ i. (same i, still i)) (record { agreed = agreed; apart = apart })

-- one more seat that a log holds for a moment
pub in_log_more : {X : Type 0} (seat : X → ℕ × Log) (xs ys : List X) (x : X) (before now : RollView) → ys ≡ xs ++ x ∷ [] → now ≡ (before.0, before.1, seat x ∷ before.2)
    → AreInLog now.0 (map seat xs ++ now.2) → AreInLog before.0 (map seat ys ++ before.2)
in_log_more seat xs ys x before now is then known =
    let all : map seat ys ++ before.2 ≡ map seat xs ++ now.2 = held_more seat ys xs ys x before.2 before.2 now.2 refl is (ap (λ (r : RollView). r.2) then) in
    subst (AreInLog before.0) (sym all) (subst (λ l. AreInLog l (map seat xs ++ now.2)) (ap (λ (r : RollView). r.0) then) known)

-- and none more, where none is left
pub in_log_none : {X : Type 0} (seat : X → ℕ × Log) (xs ys : List X) (n : ℕ) (log : Log) (held : List (ℕ × Log)) → ys ≡ xs ++ [] → xs ≡ take (n - 1) ys → (0 < n → ⊥)
    → All (λ s. Agrees s.0 s.1 log) held → AreApart held → AreInLog log (map seat ys ++ held)
in_log_none seat xs ys n log held is rest none agreed apart =
    subst (λ l. AreInLog log (map seat l ++ held)) (sym (none_left xs ys n is rest none)) (record { agreed = agreed; apart = apart })

-- seats of n different numbers from one on, of which each entry of a kind has one, added all of that kind
module _ {X : Type 0} (kind : LogEntry → Bool) (made : X → ℕ) (seat : X → ℕ × Log) (a n : ℕ) (xs : List X) (log : Log) where
  all_of_kind : All (λ x. made x ≡ count_of kind (seat x).0 (seat x).1) xs → AreSeats seat xs log → All (λ x. (a ≤ (seat x).0) × ((seat x).0 < a + n)) xs → length xs ≡ n
      → All (λ (x : ℕ × LogEntry). kind x.1 ≡ true → (a ≤ x.0) × (x.0 < a + n)) log → sum_by made xs ≡ count_in kind log
  all_of_kind own seats numbers count by =
      let ks : List ℕ = map (λ x. (seat x).0) xs in
      let apart = pairs_in_map (λ x. (seat x).0) (λ i j. i ≢ j) xs seats.apart in
      let within : All (λ k. (a ≤ k) × (k < a + n)) ks = all_in_map (λ x. (seat x).0) (λ k. (a ≤ k) × (k < a + n)) xs numbers in
      let long : length ks ≡ n = length-map xs (λ x. (seat x).0) ∙ count in
      all_counted kind made seat xs log own seats.agreed seats.apart
      (All-weaker (λ (x : ℕ × LogEntry). kind x.1 ≡ true → (a ≤ x.0) × (x.0 < a + n)) (λ x. kind x.1 ≡ true → Contains ks x.0)
      (λ x one passes. all_numbers a n ks apart within long x.0 (one passes).0 (one passes).1) log by)

-- so what as many desks and stations counted as the book was shared among adds up
pub adds_up : (h : SharedBook) (log : Log) (d s : ℕ) (ds : List DeskView) (ss : List StationView) → IsCountedIn h log → IsManned d s log
    → AreInLog log (map desk_seat ds ++ []) → AreInLog log (map station_seat ss ++ []) → AreCounts ds ss
    → All (λ (x : DeskView). x.seat.number < d) ds → All (λ (x : StationView). (d ≤ x.seat.number) × (x.seat.number < d + s)) ss
    → length ds ≡ d → length ss ≡ s → AddsUp h ds ss
adds_up h log d s ds ss known manned desks stations counts low high few many = record {
  desks_made = sum_is (sum_by (λ (x : DeskView). x.made) ds) (arrived h.book) (arrivals h.opening) (count_in is_arrival log)
      (all_of_kind is_arrival (λ (x : DeskView). x.made) desk_seat 0 d ds log counts.made at_desks
      (All-weaker (λ (x : DeskView). x.seat.number < d) (λ x. (0 ≤ x.seat.number) × (x.seat.number < 0 + d)) (λ x lt. (omega arith, omega (arith, lt))) ds low) few
      (All-weaker (λ (x : ℕ × LogEntry). is_arrival x.1 ≡ true → x.0 < d) (λ x. is_arrival x.1 ≡ true → (0 ≤ x.0) × (x.0 < 0 + d)) (λ x lt passes. (omega arith, (let l = lt passes in omega (arith, l)))) log manned.arrivals))
      known.arrivals_are;
  stations_took = sum_is (sum_by (λ (x : StationView). x.counts.takes) ss) (taken h.book) (takes h.opening) (count_in is_take log)
      (all_of_kind is_take (λ (x : StationView). x.counts.takes) station_seat d s ss log counts.took at_stations high many manned.takes)
      known.takes_are;
  stations_settled = sum_is (sum_by (λ (x : StationView). x.counts.settlements) ss) (settled h.book) (settlements h.opening) (count_in is_settlement log)
      (all_of_kind is_settlement (λ (x : StationView). x.counts.settlements) station_seat d s ss log counts.done at_stations high many manned.settlements)
      known.settlements_are;
}
  where
    at_desks : AreSeats desk_seat ds log
    at_desks = seats_in desk_seat ds log (map desk_seat ds ++ []) refl desks

    at_stations : AreSeats station_seat ss log
    at_stations = seats_in station_seat ss log (map station_seat ss ++ []) refl stations
