-- Desks and stations of a book that was just shared.
use Rattle.std.proofs.Common.{◌≡◌, ℕ, List, [], ◌∷◌, ◌++◌, All, Option, Some, map, refl, sym, ap, ◌∙◌, subst}
use Rattle.std.specs.Option.{option_to_list}
use Rattle.std.specs.List.{range_with_len}
use Rattle.std.proofs.lemmas.List.Elements.{All-cons, All-head, All-map, All-nil, All-tail}
use Rattle.book_lock.specs.Log.{SeatView}
use Rattle.book_lock.specs.Shares.{DeskView, StationView}
use Rattle.book_lock.specs.inner.Log.{new_seats}
use Rattle.delivery_worker.specs.Sent.{IsUnused}

-- elements whose images have it
all_of_map : {X Y : Type 0} (P : Y → Type 0) (f : X → Y) (xs : List X) → All P (map f xs) → All (λ x. P (f x)) xs
all_of_map P f [] all = All-nil (λ x. P (f x))
all_of_map P f (x ∷ xs) all = All-cons (λ x. P (f x)) x xs (All-head P (f x) (map f xs) all) (all_of_map P f xs (All-tail P (f x) (map f xs) all))

-- new seats are unused
pub unused_seats : {X : Type 0} (seat : X → SeatView) (xs : List X) (from count : ℕ) → map seat xs ≡ new_seats from count → All (λ x. IsUnused (seat x)) xs
unused_seats seat xs from count are =
    all_of_map IsUnused seat xs (subst (λ (w : List SeatView). All IsUnused w) (sym are) (All-map IsUnused (λ k. record { number = k; seen = [] }) (range_with_len from count) (λ k d lt. refl)))

-- the first of those that are left, and the others
all_first : {X : Type 0} (P : X → Type 0) (old new : List X) (r : Option X) (x : X) → old ≡ option_to_list r ++ new → r ≡ Some x → All P old → P x × All P new
all_first {X} P old new r x are is all =
    let left : All P (x ∷ new) = subst (λ (w : List X). All P w) (are ∙ ap (λ (o : Option X). option_to_list o ++ new) is) all in
    (All-head P x new left, All-tail P x new left)

pub unused_desk : (old new : List DeskView) (r : Option DeskView) (x : DeskView) → old ≡ option_to_list r ++ new → r ≡ Some x → All (λ d. IsUnused d.seat) old → IsUnused x.seat
unused_desk old new r x are is all = (all_first (λ d. IsUnused d.seat) old new r x are is all).0

pub unused_desks : (old new : List DeskView) (r : Option DeskView) (x : DeskView) → old ≡ option_to_list r ++ new → r ≡ Some x → All (λ d. IsUnused d.seat) old
    → All (λ d. IsUnused d.seat) new
unused_desks old new r x are is all = (all_first (λ d. IsUnused d.seat) old new r x are is all).1

pub unused_station : (old new : List StationView) (r : Option StationView) (x : StationView) → old ≡ option_to_list r ++ new → r ≡ Some x → All (λ s. IsUnused s.seat) old
    → IsUnused x.seat
unused_station old new r x are is all = (all_first (λ s. IsUnused s.seat) old new r x are is all).0

pub unused_stations : (old new : List StationView) (r : Option StationView) (x : StationView) → old ≡ option_to_list r ++ new → r ≡ Some x → All (λ s. IsUnused s.seat) old
    → All (λ s. IsUnused s.seat) new
unused_stations old new r x are is all = (all_first (λ s. IsUnused s.seat) old new r x are is all).1
