-- The names of a list that a table has, one after the other.
use Rattle.std.proofs.Common.{◌≡◌, ℕ, ◌+◌, ◌<◌, List, ◌∷◌, ◌++◌, length, drop, get_or, map, filter, Bool, true, false, Option, Some, None, Err, is_some, option_map, Bor, refl, sym, ap}
use Rattle.std.proofs.lemmas.List.{drop_more}
use Rattle.std.specs.Option.{option_to_list}
use Rattle.plan_text.specs.declared.fault.PlanFaultKind.TheVariants as name
use Rattle.plan_text.specs.declared.fault.PlanFault.{PlanFault}
use Rattle.plan_text.specs.declared.fault.Stop.{Stop}
use Rattle.plan_text.specs.declared.fault.Stop.TheVariants as stop
use Rattle.plan_text.specs.Fault.{fault_at}
use Rattle.plan_text.specs.inner.Fault.{Fails, IsStop}
use Rattle.plan_text.specs.Keys.{only_one}

abbrev pub text_of : Bor (List ℕ) → List ℕ
text_of k = k.now

module _ (p : List ℕ → Bool) where
  pub taken : (names : List (Bor (List ℕ))) (i : ℕ) (d : Bor (List ℕ)) → i < length names → p (get_or names i d).now ≡ true
      → filter p (map text_of (drop i names)) ≡ (get_or names i d).now ∷ filter p (map text_of (drop (i + 1) names))
  taken names i d lt test = rw (drop_more names i d lt, test) refl

  pub left_out : (names : List (Bor (List ℕ))) (i : ℕ) (d : Bor (List ℕ)) → i < length names → p (get_or names i d).now ≡ false
      → filter p (map text_of (drop i names)) ≡ filter p (map text_of (drop (i + 1) names))
  left_out names i d lt test = rw (drop_more names i d lt, test) refl

-- the first name that is found
pub first : (chosen rest : List (List ℕ)) (old new : Option (Bor (List ℕ))) (k : Bor (List ℕ)) → is_some old ≡ false → new ≡ Some k
    → chosen ≡ option_to_list (option_map text_of old) ++ k.now ∷ rest → chosen ≡ option_to_list (option_map text_of new) ++ rest
first chosen rest None new k none is h = rw is h
first chosen rest (Some f) new k none is h = cc

-- a second name is one too many
pub second : (e : Stop) (at : List ℕ) (chosen : List (List ℕ)) (found : Option (Bor (List ℕ))) (k : List ℕ) (rest : List (List ℕ)) → is_some found ≡ true
    → chosen ≡ option_to_list (option_map text_of found) ++ k ∷ rest → IsStop e (fault_at name.BadRange at) → Fails e (only_one at chosen)
second e at chosen None k rest h is stops = cc
second stop.NoMemory at chosen (Some f) k rest h is stops = tt
second (stop.Fault x) at chosen (Some f) k rest h is stops = rw is (ap (λ (g : PlanFault). Err g) (sym stops))
