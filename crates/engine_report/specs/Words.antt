-- The words of the command line: the program's commands, and what they request.
use Rattle.std.specs.Prelude.{◌≡◌, ◌≤◌, ◌<◌, ◌^◌, ℕ, List, Option, None, Some, option_map, min, codes, pos, true, unwrap_or, []}
use Rattle.std.specs.Option.{SomeIff}
use Rattle.std.specs.Str.Parse.{IsNumeral, digits_value, without_leading_plus}
use Rattle.clap.specs.declared.builder.value_parser.ValueParser.TheVariants as parser
use Rattle.clap.specs.Words.{App, Row, Rule, Text, first_of, new_app, new_rule, one_of, subcommand_of, with_rule, with_subcommand}
use Rattle.engine_report.specs.declared.command_line.Request.{Request}
use Rattle.engine_report.specs.declared.command_line.Request.TheVariants.{Answer, Check, Run}
use Rattle.engine_report.specs.Request.{without_words}

-- a word with a value of its own: the plan's file
abbrev pub plan_rule : Rule
plan_rule = new_rule (codes "PLAN")

-- an option and its number
abbrev pub now_rule : Rule
now_rule = record (new_rule (codes "now")) { long = Some (codes "now"); value_names = 1; parser = Some (parser.Unsigned 0 253_370_764_799) }

abbrev pub events_rule : Rule
events_rule =
    record (new_rule (codes "events")) { long = Some (codes "events"); value_names = 1; parser = Some (parser.Signed (pos 1) (pos 1_000_000)) }

abbrev pub accept_rule : Rule
accept_rule =
    record (new_rule (codes "accept")) {
      long = Some (codes "accept");
      value_names = 1;
      required = true;
      parser = Some (parser.Signed (pos 1) (pos 9_999));
    }

-- answer [PLAN] [--now SECS] [--events N]
abbrev pub answer_app : App
answer_app = with_rule (with_rule (with_rule (new_app (codes "answer")) plan_rule) now_rule) events_rule

-- check PLAN
abbrev pub check_app : App
check_app = with_rule (new_app (codes "check")) (record plan_rule { required = true })

-- run PLAN --accept N [--events N]
abbrev pub run_app : App
run_app = with_rule (with_rule (with_rule (new_app (codes "run")) (record plan_rule { required = true })) accept_rule) events_rule

-- the program, which prints its version
abbrev pub top : App
top = let app : App = new_app (codes "hl7_engine") in record app { top = record app.top { has_version = true } }

-- the program's three commands
abbrev pub program : App
program = with_subcommand (with_subcommand (with_subcommand top answer_app.top) check_app.top) run_app.top

-- the number that a text writes in decimal digits; none where it writes none below 2^bits
abbrev pub IsNumberOf : ℕ → Option Text → Option ℕ → Type 0
IsNumberOf bits None number = number ≡ None
IsNumberOf bits (Some text) number =
    let digits : Text = without_leading_plus text in
    SomeIff number (IsNumeral 10 digits × (digits_value 10 digits < 2 ^ bits)) (digits_value 10 digits)

-- the most entries, as given; a million where nothing is given
pub record IsBound (given : Option ℕ) (events : ℕ) : Type 0 where
  pub default : given ≡ None → events ≡ 1_000_000
  pub as_given : (n : ℕ) → given ≡ Some n → 1 ≤ n → n ≤ 1_000_000 → events ≡ n

-- what the words of `answer` request: the plan, the moment and the most entries as they are written
pub record AsWritten (plan : Option Text) (now : Option ℕ) (events : ℕ) (rows : List Row) : Type 0 where
  pub plan_is : plan ≡ first_of (codes "PLAN") rows
  pub seconds : Option ℕ
  pub seconds_are : IsNumberOf 64 (one_of (codes "now") rows) seconds
  pub now_is : now ≡ option_map (λ s. min s 253_370_764_799) seconds
  pub entries : Option ℕ
  pub entries_are : IsNumberOf 32 (one_of (codes "events") rows) entries
  pub events_are : IsBound entries events

-- the connections of each channel, as given
abbrev pub IsAccept : Option ℕ → ℕ → Type 0
IsAccept given accept = (n : ℕ) → given ≡ Some n → 1 ≤ n → n ≤ 9_999 → accept ≡ n

-- what the words of `run` request: the plan, the connections and the most entries as they are written
pub record AsToRun (plan : Text) (accept events : ℕ) (rows : List Row) : Type 0 where
  pub plan_is : plan ≡ unwrap_or (first_of (codes "PLAN") rows) []
  pub connections : Option ℕ
  pub connections_are : IsNumberOf 32 (one_of (codes "accept") rows) connections
  pub accept_is : IsAccept connections accept
  pub entries : Option ℕ
  pub entries_are : IsNumberOf 32 (one_of (codes "events") rows) entries
  pub events_are : IsBound entries events

abbrev pub AsksRun : Request → List Row → Type 0
AsksRun (Run plan accept events) rows = AsToRun plan.now accept events rows
AsksRun _ rows = ⊥

abbrev pub AsksAnswer : Request → List Row → Type 0
AsksAnswer (Answer plan now events) rows = AsWritten (option_map (λ p. p.now) plan) now events rows
AsksAnswer _ rows = ⊥

-- what the words of a command request, by the command's name
abbrev pub AsksBy : Request → Option (Text × List Row) → Type 0
AsksBy request None = request ≡ without_words
AsksBy (Answer plan now events) (Some (name, rows)) =
    (name ≡ codes "check" → ⊥) × (name ≡ codes "run" → ⊥) × AsksAnswer (Answer plan now events) rows
AsksBy (Check plan) (Some (name, rows)) = (name ≡ codes "check") × (plan.now ≡ unwrap_or (first_of (codes "PLAN") rows) [])
AsksBy (Run plan accept events) (Some (name, rows)) = (name ≡ codes "run") × AsksRun (Run plan accept events) rows

-- what the words request
abbrev pub Asks : Request → List Text → Type 0
Asks request words = AsksBy request (subcommand_of program words)
