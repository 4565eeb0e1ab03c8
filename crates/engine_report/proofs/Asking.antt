-- What a parse of the command line tells.
use Rattle.std.proofs.Common.{◌≡◌, ◌≤◌, ℕ, List, [], ◌∷◌, Option, None, Some, true, length, map, refl, sym, subst, ap, ◌∙◌, arith}
use Rattle.std.specs.Prelude.{option_map, unwrap_or, Result, Box}
use Rattle.std.specs.Borrow.{Bor}
use Rattle.std.specs.Box.{box_value}
use Rattle.std.specs.Str.Parse.{ParsesUnsigned, ExplainsUnsignedError, HasUnsignedDigitsIfOk}
use Rattle.std.specs.declared.num.ParseIntError.{ParseIntError}
use Rattle.clap.specs.Words.{App, FailsBy, HasMatchesOf, ReadsOne, Row, Text, fault_of, found_of, is_simple, is_simple_and_free, rows_of, subcommand_of, subcommand_rows, subcommand_rows_of}
use Rattle.clap.specs.declared.error.Error.{Error}
use Rattle.clap.specs.declared.parser.matches.ArgMatches.{ArgMatches}
use Rattle.clap.specs.declared.parser.matches.SubCommand.{SubCommand}
use Rattle.clap.specs.declared.parser.matches.ArgMatches.TheViews.{out-SubCommand}
use Rattle.clap.proofs.OnLiterals.{clap_on_literals}
use Rattle.engine_report.specs.Words.{IsNumberOf, program}

-- what reading a number gives
abbrev pub ReadOf : ℕ → List ℕ → Result ℕ ParseIntError → Type 0
ReadOf bits bs r = ParsesUnsigned bits 10 bs r × ExplainsUnsignedError 10 bs r × HasUnsignedDigitsIfOk bs r

-- the number that a text says, as it is read
number-read : (bits : ℕ) (text : Text) (number : Option ℕ) → ReadsOne (ReadOf bits) text number → IsNumberOf bits (Some text) number
number-read bits text None reads = reads.1.0
number-read bits text (Some n) reads = reads.0

-- the number that is given, if one is
pub number-given : (bits : ℕ) (found told : Option Text) (number : Option ℕ) → found ≡ told → (found ≡ None → number ≡ None)
    → ((text : List ℕ) → found ≡ Some text → ReadsOne (ReadOf bits) text number) → IsNumberOf bits told number
number-given bits found None number same none some = none same
number-given bits found (Some text) number same none some = number-read bits text number (some text same)

-- a subcommand that was met, by its name and its rows
pub met : {Z : Type 0} (s : Option (Box SubCommand Z)) (name : Text) (rows : List Row) (o : Option (Text × List Row))
    → Some name ≡ option_map (λ b. (out-SubCommand (box_value b)).name.now) s → Some rows ≡ option_map (λ p. p.1) (subcommand_rows s)
    → subcommand_rows s ≡ o → o ≡ Some (name, rows)
met None name rows o named listed is = absurd cc
met (Some b) name rows o named listed is =
    let name_is : name ≡ (out-SubCommand (box_value b)).name.now = cc in
    let rows_are : rows ≡ rows_of (found_of (out-SubCommand (box_value b)).matches) = cc in
    sym is ∙ rw (name_is, rows_are) refl

-- no subcommand was met
pub none-met : {Z : Type 0} (s : Option (Box SubCommand Z)) (o : Option (Text × List Row))
    → None ≡ option_map (λ b. (out-SubCommand (box_value b)).name.now) s → subcommand_rows s ≡ o → o ≡ None
none-met None o named is = sym is
none-met (Some b) o named is = absurd cc

-- no word but the program's name: no subcommand
pub no-words : (words : List Text) → length words ≤ 1 → None ≡ subcommand_of program words
no-words [] few = refl
no-words (word ∷ []) few = refl
no-words (word ∷ (next ∷ words)) few = absurd (omega arith)

is-simple-program : is_simple program ≡ true
is-simple-program = refl

-- a parse of the program's words meets the subcommand that they name
pub program-met : (a : App) (words : List Text) (m : ArgMatches) → a ≡ program → HasMatchesOf a words m → subcommand_rows_of m ≡ subcommand_of program words
program-met a words m is matches = (matches (ap is_simple is ∙ is-simple-program)).1 ∙ ap (λ b. subcommand_of b words) is

-- the text of a word, or nothing
pub word-or-nothing : (o : Option (Bor (List ℕ))) (nothing : Bor (List ℕ)) (told : Option Text) → option_map (λ s. s.now) o ≡ told → nothing.now ≡ []
    → (unwrap_or o nothing).now ≡ unwrap_or told []
word-or-nothing None nothing None same empty = empty
word-or-nothing (Some s) nothing None same empty = absurd cc
word-or-nothing None nothing (Some text) same empty = absurd cc
word-or-nothing (Some s) nothing (Some text) same empty = cc

-- no word but the program's name: no fault
pub no-fault : {X : Type 0} (text : X → Text) (words : List X) → length words ≤ 1 → fault_of program (map text words) ≡ []
unfolding clap_on_literals
no-fault text [] few = refl
no-fault text (word ∷ []) few = refl
no-fault text (word ∷ (next ∷ words)) few = absurd (omega arith)

is-free-program : is_simple_and_free program ≡ true
is-free-program = refl

-- a parse of the program's words is refused by their faults
pub program-refuses : {X : Type 0} (a : App) (words : List Text) (r : Result X Error) → a ≡ program → (is_simple_and_free a ≡ true → FailsBy (fault_of a words) r)
    → FailsBy (fault_of program words) r
program-refuses a words r is refuses = subst (λ (b : App). FailsBy (fault_of b words) r) is (refuses (ap is_simple_and_free is ∙ is-free-program))
