-- What is known after a key is added, and after some are forgotten.
use Rattle.std.proofs.Common.{◌≡◌, ℕ, Bool, true, false, ◌||◌, cond, List, [], ◌∷◌, ◌++◌, None, Some, refl, ◌∙◌, rules, option_and_then}
use Rattle.std.specs.Prelude.{find, nat_le}
use Rattle.std.specs.List.{list_any}
use Rattle.std.specs.Option.{option_map}
use Rattle.std.specs.Str.{bytes_eq}
use Rattle.std.proofs.lemmas.Slice.Eq.{bytes_eq-Decides}
use Rattle.dup_index.specs.inner.Known.{Known, is_key, place_of, from_place, EachOnce}

-- a key without a place is not among those that are known
pub absent : (key : List ℕ) (known : List Known) → place_of key known ≡ None → list_any (is_key key) known ≡ false
absent key [] none = refl
absent key (entry ∷ known) none =
    elim (bytes_eq key entry.key) as (λ b. bytes_eq key entry.key ≡ b → option_map (λ (e : Known). e.place) (cond b (Some entry) (find (is_key key) known)) ≡ None → (b || list_any (is_key key) known) ≡ false) [
      | true ↦ λ hit found. absurd cc
      | false ↦ λ miss later. absent key known later
    ] refl none

not_true : (b : Bool) → (b ≡ true → ⊥) → b ≡ false
not_true true never = absurd (never refl)
not_true false never = refl

-- equal bytes are the same key
same_bytes : (a b : List ℕ) → bytes_eq a b ≡ true → a ≡ b
same_bytes a b same = search (rules, bytes_eq-Decides)

equal_bytes : (a : List ℕ) → bytes_eq a a ≡ true
equal_bytes a = search (rules, bytes_eq-Decides)

-- a key that is added is found at its place, and every other as before
pub place_of-added : (known : List Known) (added key : List ℕ) (place : ℕ) → place_of added known ≡ None
    → place_of key (known ++ record { key = added; place = place } ∷ []) ≡ cond (bytes_eq key added) (Some place) (place_of key known)
place_of-added [] added key place unknown = elim (bytes_eq key added) as (λ b. option_map (λ (entry : Known). entry.place) (cond b (Some (record { key = added; place = place })) None) ≡ cond b (Some place) None) [ true ↦ refl | false ↦ refl ]
place_of-added (entry ∷ known) added key place unknown =
    elim (bytes_eq added entry.key) as (λ b. bytes_eq added entry.key ≡ b → option_map (λ (e : Known). e.place) (cond b (Some entry) (find (is_key added) known)) ≡ None → place_of key ((entry ∷ known) ++ record { key = added; place = place } ∷ []) ≡ cond (bytes_eq key added) (Some place) (place_of key (entry ∷ known))) [
      | true ↦ λ hit found. absurd cc
      | false ↦ λ miss later.
          elim (bytes_eq key entry.key) as (λ b. bytes_eq key entry.key ≡ b → option_map (λ (e : Known). e.place) (cond b (Some entry) (find (is_key key) (known ++ record { key = added; place = place } ∷ []))) ≡ cond (bytes_eq key added) (Some place) (option_map (λ (e : Known). e.place) (cond b (Some entry) (find (is_key key) known)))) [
            | true ↦ λ here.
                let other : bytes_eq key added ≡ false = not_true (bytes_eq key added) (λ same. let e = same_bytes key added same in let t : bytes_eq added entry.key ≡ true = rw e at here in cc) in
                rw other refl
            | false ↦ λ there. place_of-added known added key place later
          ] refl
    ] refl unknown

-- one more key that was not known
pub EachOnce-added : (known : List Known) (added : List ℕ) (place : ℕ) → EachOnce known → place_of added known ≡ None → EachOnce (known ++ record { key = added; place = place } ∷ [])
EachOnce-added [] added place once unknown = (refl, tt)
EachOnce-added (entry ∷ known) added place once unknown =
    elim (bytes_eq added entry.key) as (λ b. bytes_eq added entry.key ≡ b → option_map (λ (e : Known). e.place) (cond b (Some entry) (find (is_key added) known)) ≡ None → EachOnce ((entry ∷ known) ++ record { key = added; place = place } ∷ [])) [
      | true ↦ λ hit found. absurd cc
      | false ↦ λ miss later.
          let apart : bytes_eq entry.key added ≡ false = not_true (bytes_eq entry.key added) (λ same. let e = same_bytes entry.key added same in let t : bytes_eq added entry.key ≡ true = rw e (equal_bytes added) in cc) in
          (place_of-added known added entry.key place later ∙ rw apart once.0, EachOnce-added known added place once.1 later)
    ] refl unknown

-- a key that was not known is not known among fewer
place_of-fewer : (key : List ℕ) (place : ℕ) (known : List Known) → place_of key known ≡ None → place_of key (from_place place known) ≡ None
place_of-fewer key place [] none = refl
place_of-fewer key place (entry ∷ known) none =
    elim (bytes_eq key entry.key) as (λ b. bytes_eq key entry.key ≡ b → option_map (λ (e : Known). e.place) (cond b (Some entry) (find (is_key key) known)) ≡ None → place_of key (from_place place (entry ∷ known)) ≡ None) [
      | true ↦ λ hit found. absurd cc
      | false ↦ λ miss later. elim (nat_le place entry.place) as (λ b. place_of key (cond b (entry ∷ from_place place known) (from_place place known)) ≡ None)
          [ true ↦ rw miss (place_of-fewer key place known later) | false ↦ place_of-fewer key place known later ]
    ] refl none

pub EachOnce-from_place : (place : ℕ) (known : List Known) → EachOnce known → EachOnce (from_place place known)
EachOnce-from_place place [] once = tt
EachOnce-from_place place (entry ∷ known) once = elim (nat_le place entry.place) as (λ b. EachOnce (cond b (entry ∷ from_place place known) (from_place place known)))
    [ true ↦ (place_of-fewer entry.key place known once.0, EachOnce-from_place place known once.1) | false ↦ EachOnce-from_place place known once.1 ]

-- where each key is known once, a key is found among those from a place on where its place is not before that
pub place_of-from_place : (key : List ℕ) (place : ℕ) (known : List Known) → EachOnce known
    → place_of key (from_place place known) ≡ option_and_then (λ added. cond (nat_le place added) (Some added) None) (place_of key known)
place_of-from_place key place [] once = refl
place_of-from_place key place (entry ∷ known) once =
    elim (bytes_eq key entry.key) as (λ b. bytes_eq key entry.key ≡ b → place_of key (from_place place (entry ∷ known)) ≡ option_and_then (λ added. cond (nat_le place added) (Some added) None) (option_map (λ (e : Known). e.place) (cond b (Some entry) (find (is_key key) known)))) [
      | true ↦ λ hit.
          let none : place_of key known ≡ None = rw (same_bytes key entry.key hit) once.0 in
          elim (nat_le place entry.place) as (λ b. place_of key (cond b (entry ∷ from_place place known) (from_place place known)) ≡ cond b (Some entry.place) None)
          [ true ↦ rw hit refl | false ↦ place_of-fewer key place known none ]
      | false ↦ λ miss.
          elim (nat_le place entry.place) as (λ b. place_of key (cond b (entry ∷ from_place place known) (from_place place known)) ≡ option_and_then (λ added. cond (nat_le place added) (Some added) None) (place_of key known))
          [ true ↦ rw miss (place_of-from_place key place known once.1) | false ↦ place_of-from_place key place known once.1 ]
    ] refl
