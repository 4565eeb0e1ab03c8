-- What one more record adds to the highest connection and the last moment.
use Rattle.std.proofs.Common.{◌≡◌, ℕ, List, [], ◌∷◌, ◌++◌, max, Option, None, Some, refl, ap, ◌∙◌}
use Rattle.std.specs.List.{cons_option, filter_map, fold, reduce}
use Rattle.std.specs.Option.{option_map_or}
use Rattle.std.proofs.lemmas.List.{append-nil}
use Rattle.std.proofs.lemmas.List.Elements.{filter_map-append}
use Rattle.std.proofs.lemmas.List.Sums.{fold-append}
use Rattle.event_records.specs.declared.record.Record.{Record}
use Rattle.book_recovery.specs.Seen.{connection_of, last_connection, last_moment, moment_of}
use Rattle.book_recovery.specs.inner.Redone.{more_connection, more_moment}

highest_more : (xs : List ℕ) (o : Option ℕ) → reduce max (xs ++ cons_option o []) ≡ more_connection (reduce max xs) o
highest_more xs None = ap (reduce max) (append-nil xs)
highest_more [] (Some n) = refl
highest_more (x ∷ xs) (Some n) = ap (λ (m : ℕ). Some m) (fold-append max x xs (n ∷ []))

last_more : (xs : List ℕ) (o : Option ℕ) → fold max 0 (xs ++ cons_option o []) ≡ more_moment (fold max 0 xs) o
last_more xs None = ap (fold max 0) (append-nil xs)
last_more xs (Some n) = fold-append max 0 xs (n ∷ [])

pub connection_more : (rs : List Record) (r : Record) → last_connection (rs ++ r ∷ []) ≡ more_connection (last_connection rs) (connection_of r)
connection_more rs r = ap (reduce max) (filter_map-append connection_of rs (r ∷ [])) ∙ highest_more (filter_map connection_of rs) (connection_of r)

pub moment_more : (rs : List Record) (r : Record) → last_moment (rs ++ r ∷ []) ≡ more_moment (last_moment rs) (moment_of r)
moment_more rs r = ap (fold max 0) (filter_map-append moment_of rs (r ∷ [])) ∙ last_more (filter_map moment_of rs) (moment_of r)
