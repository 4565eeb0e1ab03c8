-- The bytes of a line that is being read.
use Rattle.std.proofs.Common.{ℕ, List}
use Rattle.std.specs.Prelude.{Option}
use Rattle.std.specs.Io.KnownBytes.{Consumes}
use Rattle.service_commands.specs.declared.input.Held.{Held}
use Rattle.service_commands.specs.inner.Reading.{Holds, IsText}

-- the bytes of a line so far, and how they are held
pub record IsHeld (old new : Option (List ℕ)) (buffer : List ℕ) (held : Held) : Type 0 where
  pub bytes : List ℕ
  pub is_text : IsText bytes
  pub consumed : Consumes old new bytes
  pub holds : Holds held buffer bytes
