-- The words of the command line: the program's commands, and what they ask.
use Rattle.std.specs.Prelude.{◌≡◌, ◌≤◌, ◌<◌, ◌^◌, ◌/◌, ◌||◌, ◌⊎◌, ℕ, Bool, List, MatchResult, Option, Result, None, Some, if◌then◌else◌, option_map, min, codes, false, pos, true, unwrap_or, [], ◌∷◌, ⊤}
use Rattle.std.specs.Option.{SomeIff, option_map_or}
use Rattle.std.specs.Str.{bytes_eq}
use Rattle.std.specs.Str.Parse.{IsNumeral, digits_value, without_leading_plus}
use Rattle.clap.specs.declared.builder.action.ArgAction.TheVariants.{SetTrue}
use Rattle.clap.specs.declared.builder.value_parser.ValueParser.TheVariants as parser
use Rattle.std.specs.Net.Grammar.{IsSocketText}
use Rattle.std.specs.declared.net.socket_addr.SocketAddr.{SocketAddr}
use Rattle.clap.specs.Kinds.{or_else}
use Rattle.clap.specs.declared.error.Error.{Error}
use Rattle.clap.specs.Words.{App, Kinds, kind_of, Row, Rule, Text, fault_of, first_of, new_app, new_rule, one_of, subcommand_of, with_rule, with_subcommand}
use Rattle.clap.specs.declared.error.kind.ErrorKind.{ErrorKind}
use Rattle.clap.specs.declared.error.kind.ErrorKind.TheVariants.{ArgumentConflict, MissingRequiredArgument, OutOfMemory, ValueValidation}
use Rattle.message_notes.specs.declared.answer_text.AnswerText.{AnswerText}
use Rattle.message_notes.specs.declared.answer_text.AnswerText.TheVariants.{Nowhere, Commands, Log}
use Rattle.service_words.specs.declared.command_line.Keeping.{Keeping}
use Rattle.service_words.specs.declared.command_line.Keeping.TheVariants.{Memory, Store}
use Rattle.service_words.specs.declared.command_line.Request.{Request}
use Rattle.service_words.specs.declared.command_line.Request.TheVariants.{Ask, Check, Run, Try}

-- a word that has to be given and has a value of its own: the plan's file
abbrev pub plan_rule : Rule
plan_rule = record (new_rule (codes "PLAN")) { required = true }

-- an option and the folder of the store
abbrev pub store_rule : Rule
store_rule = record (new_rule (codes "store")) { long = Some (codes "store"); value_names = 1 }

-- an option that takes nothing, in place of a store
abbrev pub memory_rule : Rule
memory_rule = record (new_rule (codes "memory")) { long = Some (codes "memory"); action = Some SetTrue }

-- an option and its number, from the least to the most
abbrev pub number_rule : Text → ℕ → ℕ → Rule
number_rule name least most =
    record (new_rule name) { long = Some name; value_names = 1; parser = Some (parser.Signed (pos least) (pos most)) }

abbrev pub connections_rule : Rule
connections_rule = number_rule (codes "connections") 1 1_000

abbrev pub events_rule : Rule
events_rule = number_rule (codes "events") 1 1_000_000

abbrev pub keep_rule : Rule
keep_rule = number_rule (codes "keep") 0 1_000_000

abbrev pub idle_rule : Rule
idle_rule = number_rule (codes "idle") 0 86_400

abbrev pub grace_rule : Rule
grace_rule = number_rule (codes "grace") 0 3_600

-- an option and a word for yes or no
abbrev pub show_rule : Rule
show_rule = record (new_rule (codes "show")) { long = Some (codes "show"); value_names = 1; parser = Some parser.Boolish }

-- an option and a word
abbrev pub answer_text_rule : Rule
answer_text_rule = record (new_rule (codes "answer-text")) { long = Some (codes "answer-text"); value_names = 1 }

-- an option and an address
abbrev pub http_rule : Rule
http_rule = record (new_rule (codes "http")) { long = Some (codes "http"); value_names = 1 }

-- an option and the names of hosts
abbrev pub http_name_rule : Rule
http_name_rule = record (new_rule (codes "http-name")) { long = Some (codes "http-name"); value_names = 1 }

-- an option and a name
abbrev pub channel_rule : Rule
channel_rule = record (new_rule (codes "channel")) { long = Some (codes "channel"); value_names = 1 }

-- an option that takes nothing
abbrev pub verbose_rule : Rule
verbose_rule = record (new_rule (codes "verbose")) { long = Some (codes "verbose"); action = Some SetTrue }

-- run PLAN [--store FOLDER] [--memory]
abbrev pub kept_run : App
kept_run = with_rule (with_rule (with_rule (new_app (codes "run")) plan_rule) store_rule) memory_rule

-- [--connections N] [--events N] [--keep N] besides
abbrev pub bounded_run : App
bounded_run = with_rule (with_rule (with_rule kept_run connections_rule) events_rule) keep_rule

-- [--idle SECONDS] [--grace SECONDS] [--show ON|OFF] [--answer-text WHERE] besides
abbrev pub shown_run : App
shown_run = with_rule (with_rule (with_rule (with_rule bounded_run idle_rule) grace_rule) show_rule) answer_text_rule

-- [--http ADDRESS] [--http-name NAMES] besides: all the words of `run`
abbrev pub run_app : App
run_app = with_rule (with_rule shown_run http_rule) http_name_rule

-- try PLAN [--channel NAME]
abbrev pub try_app : App
try_app = with_rule (with_rule (new_app (codes "try")) plan_rule) channel_rule

-- check PLAN [--verbose]
abbrev pub check_app : App
check_app = with_rule (with_rule (new_app (codes "check")) plan_rule) verbose_rule

-- the folder of a store, which has to be given
abbrev pub folder_rule : Rule
folder_rule = record (new_rule (codes "FOLDER")) { required = true }

-- store FOLDER
abbrev pub store_app : App
store_app = with_rule (new_app (codes "store")) folder_rule

-- the program, which prints its version, and takes a command
abbrev pub top : App
top = let app : App = new_app (codes "hl7_service") in record app { top = record app.top { has_version = true; subcommand_required = true } }

-- the program and its first three commands
abbrev pub checked : App
checked = with_subcommand (with_subcommand (with_subcommand top run_app.top) try_app.top) check_app.top

-- the program's four commands
abbrev pub program : App
program = with_subcommand checked store_app.top

-- the number below 2^32 that a text writes in decimal digits; none where it writes none
abbrev pub IsNumberOf : Option Text → Option ℕ → Type 0
IsNumberOf None number = number ≡ None
IsNumberOf (Some text) number =
    let digits : Text = without_leading_plus text in
    SomeIff number (IsNumeral 10 digits × (digits_value 10 digits < 2 ^ 32)) (digits_value 10 digits)

-- a number as given, where it is within its bounds; the usual one where nothing is given
pub record IsWithin (least most usual : ℕ) (given : Option ℕ) (number : ℕ) : Type 0 where
  pub default : given ≡ None → number ≡ usual
  pub as_given : (n : ℕ) → given ≡ Some n → least ≤ n → n ≤ most → number ≡ n

-- how many messages a pruning keeps: as given; else the lesser of 100,000 and a quarter of the entries
pub record IsKept (events : ℕ) (given : Option ℕ) (keep : ℕ) : Type 0 where
  pub default : given ≡ None → keep ≡ min (events / 4) 100_000
  pub as_given : (n : ℕ) → given ≡ Some n → n ≤ 1_000_000 → keep ≡ n

-- the number of an option, as it is written
pub record IsWritten (name : Text) (rows : List Row) (Is : Option ℕ → ℕ → Type 0) (number : ℕ) : Type 0 where
  pub given : Option ℕ
  pub given_is : IsNumberOf (one_of name rows) given
  pub number_is : Is given number

-- whether an option with a word for yes or no says yes, as it does where it is left out: the parser reads the word as "true" or "false"
pub record IsYes (written : Option Text) (yes : Bool) : Type 0 where
  pub left_out : written ≡ None → yes ≡ true
  pub on : written ≡ Some (codes "true") → yes ≡ true
  pub off : written ≡ Some (codes "false") → yes ≡ false

-- whether --memory is given: the parser writes "true" for it where it is
abbrev pub has_memory : List Row → Bool
has_memory rows = option_map_or (λ text. bytes_eq text (codes "true")) (first_of (codes "memory") rows) false

-- where the history is kept, by the folder of --store and whether --memory is given
abbrev pub KeepsIn : Keeping → Option Text → Bool → Type 0
KeepsIn Memory folder memory = (folder ≡ None) × (memory ≡ true)
KeepsIn (Store path) folder memory = (folder ≡ Some path.now) × (memory ≡ false)

-- exactly one of --store and --memory has to be given
abbrev pub place_fault : Option Text → Bool → Kinds
place_fault None false = MissingRequiredArgument ∷ []
place_fault (Some folder) true = ArgumentConflict ∷ []
place_fault _ _ = []

-- what is wrong with the words of `run` that the parser takes
abbrev pub run_fault : List Row → Kinds
run_fault rows = place_fault (first_of (codes "store") rows) (has_memory rows)

-- what is wrong with the words of a command that the parser takes, by the command's name
abbrev pub keeping_fault : Option (Text × List Row) → Kinds
keeping_fault None = []
keeping_fault (Some (name, rows)) =
    if bytes_eq name (codes "check") || bytes_eq name (codes "try") || bytes_eq name (codes "store") then [] else run_fault rows

-- the address and the port that a text writes, or an error where it writes none
abbrev pub ReadsAddress : Text → Result SocketAddr Error → Type 0
ReadsAddress text result =
    MatchResult result (IsSocketText text)
    (λ error. (kind_of error ≡ OutOfMemory) ⊎ ((kind_of error ≡ ValueValidation) × ((a : SocketAddr) → ¬ (IsSocketText text a))))

-- where the words of answers are shown, by the word of the option
abbrev pub answer_text_of : Text → Option AnswerText
answer_text_of word =
    if bytes_eq word (codes "none") then Some Nowhere
    else (if bytes_eq word (codes "commands") then Some Commands
    else (if bytes_eq word (codes "log") then Some Log else None))

-- that, or an error where it is none of these words
abbrev pub ReadsAnswerText : Text → Result AnswerText Error → Type 0
ReadsAnswerText word result =
    MatchResult result (λ shown. answer_text_of word ≡ Some shown)
    (λ error. (kind_of error ≡ OutOfMemory) ⊎ ((kind_of error ≡ ValueValidation) × (answer_text_of word ≡ None)))

-- an error exactly where there is a fault, and of its kind
abbrev pub IsRefusedBy : {T : Type 0} → Kinds → Result T ErrorKind → Type 0
IsRefusedBy kinds result = MatchResult result (λ _. kinds ≡ []) (λ kind. kinds ≡ kind ∷ [])

-- what is wrong with the words: what the parser doesn't take, or no single place for the history
abbrev pub faults_of : List Text → Kinds
faults_of words = or_else (fault_of program words) (keeping_fault (subcommand_of program words))

-- what the words of `run` ask: the plan, where the history is kept, and each option as they are written
pub record AsToRun (plan : Text) (keeping : Keeping) (connections events keep idle grace : ℕ) (show : Bool) (answer_text http http_names : Option Text) (rows : List Row) : Type 0 where
  pub plan_is : plan ≡ unwrap_or (first_of (codes "PLAN") rows) []
  pub keeping_is : KeepsIn keeping (first_of (codes "store") rows) (has_memory rows)
  pub connections_are : IsWritten (codes "connections") rows (IsWithin 1 1_000 64) connections
  pub events_are : IsWritten (codes "events") rows (IsWithin 1 1_000_000 1_000_000) events
  pub keep_is : IsWritten (codes "keep") rows (IsKept events) keep
  pub idle_is : IsWritten (codes "idle") rows (IsWithin 0 86_400 0) idle
  pub grace_is : IsWritten (codes "grace") rows (IsWithin 0 3_600 5) grace
  pub show_is : IsYes (one_of (codes "show") rows) show
  pub answer_text_is : answer_text ≡ first_of (codes "answer-text") rows
  pub http_is : http ≡ first_of (codes "http") rows
  pub http_names_are : http_names ≡ first_of (codes "http-name") rows

abbrev pub AsksRun : Request → List Row → Type 0
AsksRun (Run plan keeping connections events keep idle grace show answer_text http http_names) rows =
    AsToRun plan.now keeping connections events keep idle grace show (option_map (λ w. w.now) answer_text) (option_map (λ a. a.now) http) (option_map (λ n. n.now) http_names) rows
AsksRun _ rows = ⊥

-- what the words of `try` ask: the plan and the channel as they are written
abbrev pub AsksTry : Request → List Row → Type 0
AsksTry (Try plan channel) rows =
    (plan.now ≡ unwrap_or (first_of (codes "PLAN") rows) []) × (option_map (λ c. c.now) channel ≡ first_of (codes "channel") rows)
AsksTry _ rows = ⊥

-- whether an option is given that takes nothing: the parser writes "true" for it where it is given, and "false" where it isn't
pub record IsFlag (written : Option Text) (flag : Bool) : Type 0 where
  pub none : written ≡ None → flag ≡ false
  pub given : written ≡ Some (codes "true") → flag ≡ true
  pub left_out : written ≡ Some (codes "false") → flag ≡ false

-- what the words of `check` ask: the plan as it is written, and whether --verbose is given
abbrev pub AsksCheck : Request → List Row → Type 0
AsksCheck (Check plan verbose) rows =
    (plan.now ≡ unwrap_or (first_of (codes "PLAN") rows) []) × IsFlag (one_of (codes "verbose") rows) verbose
AsksCheck _ rows = ⊥

-- what the words of `store` ask: the folder as it is written
abbrev pub AsksStore : Request → List Row → Type 0
AsksStore (Ask folder) rows = folder.now ≡ unwrap_or (first_of (codes "FOLDER") rows) []
AsksStore _ rows = ⊥

-- what the words of a command ask, by the command's name. Words without a command have a fault.
abbrev pub AsksBy : Request → Option (Text × List Row) → Type 0
AsksBy request None = ⊤
AsksBy (Run plan keeping connections events keep idle grace show answer_text http http_names) (Some (name, rows)) =
    (name ≡ codes "check" → ⊥) × (name ≡ codes "try" → ⊥) × (name ≡ codes "store" → ⊥)
    × AsksRun (Run plan keeping connections events keep idle grace show answer_text http http_names) rows
AsksBy (Try plan channel) (Some (name, rows)) = (name ≡ codes "try") × AsksTry (Try plan channel) rows
AsksBy (Check plan verbose) (Some (name, rows)) = (name ≡ codes "check") × AsksCheck (Check plan verbose) rows
AsksBy (Ask folder) (Some (name, rows)) = (name ≡ codes "store") × AsksStore (Ask folder) rows

-- what the words ask
abbrev pub Asks : Request → List Text → Type 0
Asks request words = AsksBy request (subcommand_of program words)
