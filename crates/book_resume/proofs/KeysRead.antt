-- The key of a message by its header.
use Rattle.std.proofs.Common.{◌≡◌, ℕ, false, List, [], Option, None, Some, refl, sym, ap}
use Rattle.std.specs.Prelude.{is_some}
use Rattle.std.specs.Option.{option_map_or}
use Rattle.hl7_head.specs.Header.{Msh, header_of}
use Rattle.judge_core.specs.Judging.{key_by, key_of}

pub key-found : (channel : ℕ) (raw : List ℕ) (h : Msh) → header_of raw ≡ Some h → key_by channel h ≡ key_of channel raw
unfolding key_of
key-found channel raw h found = sym (ap (λ o. option_map_or (key_by channel) o []) found)

pub none-of : {A : Type 0} (o : Option A) → is_some o ≡ false → o ≡ None
none-of None is = refl
none-of (Some x) is = absurd cc
