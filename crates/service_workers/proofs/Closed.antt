-- What holds of a closed book holds of it where it is handed out as an option.
use Rattle.std.proofs.Common.{◌≡◌, Option, Result, Ok, Err, subst, sym}
use Rattle.std.specs.Prelude.{IfOk, IfSome}
use Rattle.std.specs.Result.{result_ok}

pub where_some : {C E : Type 0} (P : C → Type 0) (r : Result C E) (o : Option C) → o ≡ result_ok r → IfOk r P → IfSome o P
where_some P (Ok c) o is h = subst (λ o. IfSome o P) (sym is) h
where_some P (Err e) o is h = subst (λ o. IfSome o P) (sym is) tt
