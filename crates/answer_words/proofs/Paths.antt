-- The path that a text is read as.
use Rattle.std.proofs.Common.{◌≡◌, Option, None, Some, Result, Ok, Err, refl}
use Rattle.std.specs.Option.{ok_or}

pub parsed : {T E : Type 0} (found : Option T) (fault : E) (place : T) → Ok place ≡ ok_or found fault → found ≡ Some place
parsed (Some other) fault place same = cc
parsed None fault place same = absurd cc

pub unparsed : {T E : Type 0} (found : Option T) (fault error : E) → Err error ≡ ok_or found fault → found ≡ None
unparsed None fault error same = refl
unparsed (Some place) fault error same = absurd cc
