-- What a request is refused for, after a parse.
use Rattle.std.proofs.Common.{◌≡◌, ◌∙◌, Bool, [], ◌∷◌, Option, Result, Ok, Err, inl, inr, refl}
use Rattle.std.specs.Result.{IsErrAnd}
use Rattle.clap.specs.Kinds.{HasKind, IsAmong, Kinds, or_else}
use Rattle.clap.specs.Words.{FailsBy, Text}
use Rattle.clap.specs.declared.error.Error.{Error}
use Rattle.clap.specs.declared.error.kind.ErrorKind.{ErrorKind}
use Rattle.service_words.specs.declared.command_line.Keeping.{Keeping}
use Rattle.service_words.specs.inner.Words.{IsRefusedBy, KeepsIn, place_fault}

-- what is among the first kinds is among the first that there are
pub still-among : (k : ErrorKind) (first next : Kinds) → IsAmong k first → IsAmong k (or_else first next)
still-among k [] next among = elim among [ ]
still-among k (x ∷ xs) next among = among

-- what has one of the first kinds has one of the first that there are
pub still-has : (first next : Kinds) (e : Error) → HasKind first e → HasKind (or_else first next) e
still-has first next e has = elim has [
  | inl h ↦ inl h
  | inr h ↦ inr (still-among _ first next h)
]

-- the same words, the same fault
pub same-fault : (folder told : Option Text) (memory known : Bool) → folder ≡ told → memory ≡ known → place_fault folder memory ≡ place_fault told known
same-fault folder told memory known folders memories = rw (folders, memories) refl

-- the same words, the same place
pub keeps-by : (k : Keeping) (folder told : Option Text) (memory known : Bool) → folder ≡ told → memory ≡ known → KeepsIn k folder memory → KeepsIn k told known
keeps-by k folder told memory known folders memories keeps = rw (← folders, ← memories) keeps

-- a refusal that is passed on
pub passed-on : {T : Type 0} (kinds : Kinds) (k : ErrorKind) (r : Result T ErrorKind) → kinds ≡ k ∷ [] → IsErrAnd r (λ e. e ≡ k) → IsRefusedBy kinds r
passed-on kinds k (Ok x) is same = elim same [ ]
passed-on kinds k (Err e) is same = is ∙ rw same refl

-- an error that is passed on
pub fails-still : {T : Type 0} (first next : Kinds) (e : Error) (r : Result T Error) → HasKind first e → IsErrAnd r (λ x. x ≡ e) → FailsBy (or_else first next) r
fails-still first next e (Ok x) has same = elim same [ ]
fails-still first next e (Err x) has same = still-has first next x (rw same has)
