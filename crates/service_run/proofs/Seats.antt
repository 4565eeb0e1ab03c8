-- Desks of a book that was just shared.
use Rattle.std.proofs.Common.{◌≡◌, ℕ, List, [], ◌∷◌, All, map, refl, sym, subst}
use Rattle.std.specs.List.{range_with_len}
use Rattle.std.proofs.lemmas.List.Elements.{All-cons, All-head, All-map, All-nil, All-tail}
use Rattle.book_lock.specs.Log.{SeatView}
use Rattle.book_lock.specs.Shares.{DeskView}
use Rattle.book_lock.specs.inner.Log.{new_seats}

-- elements whose images have it
all_of_map : {X Y : Type 0} (P : Y → Type 0) (f : X → Y) (xs : List X) → All P (map f xs) → All (λ x. P (f x)) xs
all_of_map P f [] all = All-nil (λ x. P (f x))
all_of_map P f (x ∷ xs) all = All-cons (λ x. P (f x)) x xs (All-head P (f x) (map f xs) all) (all_of_map P f xs (All-tail P (f x) (map f xs) all))

-- new desks have seen nothing of the log
pub unseen_desks : (desks : List DeskView) (from count : ℕ) → map (λ d. d.seat) desks ≡ new_seats from count → All (λ (d : DeskView). d.seat.seen ≡ []) desks
unseen_desks desks from count are =
    all_of_map (λ (s : SeatView). s.seen ≡ []) (λ (d : DeskView). d.seat) desks
    (subst (λ (w : List SeatView). All (λ (s : SeatView). s.seen ≡ []) w) (sym are) (All-map (λ (s : SeatView). s.seen ≡ []) (λ k. record { number = k; seen = [] }) (range_with_len from count) (λ k d lt. refl)))
