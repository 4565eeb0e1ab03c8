-- The keys of the arrivals of an opening are those that are known in the history that begins with it.
use Rattle.std.proofs.Common.{◌≡◌, ℕ, true, false, cond, List, [], ◌∷◌, map, Option, None, Some, refl, ◌∙◌}
use Rattle.std.specs.Prelude.{find}
use Rattle.std.specs.Option.{option_map, option_map_or}
use Rattle.dup_index.specs.inner.Known.{is_key, place_of}
use Rattle.event_log.specs.Answers.{has_key, known_before}
use Rattle.event_log.specs.History.{Remembered, Snapshot, begun}
use Rattle.book_core.specs.inner.Parts.{KeysAgree}
use Rattle.book_resume.specs.inner.Keys.{known_as}

-- a key among those of arrivals, as it is found among the arrivals
pub place-of : (key : List ℕ) (rs : List Remembered) → place_of key (map known_as rs) ≡ option_map (λ r. r.place) (find (has_key key) rs)
place-of key [] = refl
place-of key (r ∷ rs) = elim (has_key key r) as
    (λ b. option_map (λ e. e.place) (cond b (Some (known_as r)) (find (is_key key) (map known_as rs)))
    ≡ option_map (λ (r : Remembered). r.place) (cond b (Some r) (find (has_key key) rs)))
    [ true ↦ refl | false ↦ place-of key rs ]

-- the index of all keys
pub keys-begun : (o : Snapshot) → KeysAgree (begun o) (map known_as o.remembered)
keys-begun o key = place-of key o.remembered ∙ only (known_before o key)
  where
    only : (q : Option ℕ) → q ≡ option_map_or (λ place. Some place) q None
    only None = refl
    only (Some place) = refl
