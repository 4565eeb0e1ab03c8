-- Lists of two.
use Rattle.std.proofs.Common.{◌≡◌, List, [], ◌∷◌, length, Some, None, refl}
use Rattle.toml.specs.Data.{Data, Items, string, integer, float, boolean, datetime, array, table, as_array}
use Rattle.toml.specs.View.{items_view}
use Rattle.toml.specs.declared.value.Value.{Value}
use Rattle.plan_text.specs.Conditions.{pair_of}

pub array_is : (d : Data) (ds : Items) → Some ds ≡ as_array d → d ≡ array ds
array_is (string s) ds h = cc
array_is (integer z) ds h = cc
array_is (float x) ds h = cc
array_is (boolean b) ds h = cc
array_is (datetime t) ds h = cc
array_is (array es) ds h = cc
array_is (table ms) ds h = cc

-- a list of another length is no pair
pub no_pair : (vs : List Value) → (length vs ≡ 2 → ⊥) → pair_of (array (items_view vs)) ≡ None
no_pair [] other = refl
no_pair (a ∷ []) other = refl
no_pair (a ∷ b ∷ []) other = absurd (other refl)
no_pair (a ∷ b ∷ c ∷ vs) other = refl
