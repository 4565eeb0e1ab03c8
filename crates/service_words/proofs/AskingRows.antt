-- Worked command lines.
use Rattle.std.specs.Prelude.{◌≡◌, Bool, List, [], ◌∷◌, Option, None, Some, codes, false, option_map, refl, true}
use Rattle.clap.proofs.OnLiterals.{clap_on_literals}
use Rattle.clap.specs.declared.error.kind.ErrorKind.TheVariants.{ArgumentConflict, MissingRequiredArgument, MissingSubcommand, UnknownArgument, ValueValidation}
use Rattle.clap.specs.Words.{Text, fault_of, first_of, one_of, subcommand_of}
use Rattle.service_words.specs.inner.Words.{faults_of, has_memory, program}

-- the command that words name, with its plan, its connections and what it keeps as they are written
abbrev read-run : List Text → Option (Text × Option Text × Option Text × Option Text)
read-run words = option_map (λ p. (p.0, first_of (codes "PLAN") p.1, one_of (codes "connections") p.1, one_of (codes "keep") p.1)) (subcommand_of program words)

-- the command that words name, with the folder of its store and whether it keeps the history in memory
abbrev read-place : List Text → Option (Text × Option Text × Bool)
read-place words = option_map (λ p. (p.0, first_of (codes "store") p.1, has_memory p.1)) (subcommand_of program words)

-- what the words write for --show
abbrev read-show : List Text → Option (Option Text)
read-show words = option_map (λ p. one_of (codes "show") p.1) (subcommand_of program words)

show-off : read-show (codes "hl7_service" ∷ codes "run" ∷ codes "a.toml" ∷ codes "--show" ∷ codes "off" ∷ []) ≡ Some (Some (codes "false"))
unfolding clap_on_literals
show-off = refl

show-on : read-show (codes "hl7_service" ∷ codes "run" ∷ codes "--show=on" ∷ codes "a.toml" ∷ []) ≡ Some (Some (codes "true"))
unfolding clap_on_literals
show-on = refl

shown-without-a-word : read-show (codes "hl7_service" ∷ codes "run" ∷ codes "a.toml" ∷ []) ≡ Some None
unfolding clap_on_literals
shown-without-a-word = refl

in-a-store : read-place (codes "hl7_service" ∷ codes "run" ∷ codes "a.toml" ∷ codes "--store" ∷ codes "kept" ∷ []) ≡ Some (codes "run", Some (codes "kept"), false)
unfolding clap_on_literals
in-a-store = refl

in-memory : read-place (codes "hl7_service" ∷ codes "run" ∷ codes "--memory" ∷ codes "a.toml" ∷ []) ≡ Some (codes "run", None, true)
unfolding clap_on_literals
in-memory = refl

no-place : faults_of (codes "hl7_service" ∷ codes "run" ∷ codes "a.toml" ∷ []) ≡ MissingRequiredArgument ∷ []
unfolding clap_on_literals
no-place = refl

two-places : faults_of (codes "hl7_service" ∷ codes "run" ∷ codes "a.toml" ∷ codes "--store=kept" ∷ codes "--memory" ∷ []) ≡ ArgumentConflict ∷ []
unfolding clap_on_literals
two-places = refl

one-place : faults_of (codes "hl7_service" ∷ codes "run" ∷ codes "a.toml" ∷ codes "--store=kept" ∷ []) ≡ []
unfolding clap_on_literals
one-place = refl

no-place-to-check : faults_of (codes "hl7_service" ∷ codes "check" ∷ codes "a.toml" ∷ []) ≡ []
unfolding clap_on_literals
no-place-to-check = refl

-- the command that words name, with its plan and its channel
abbrev read-try : List Text → Option (Text × Option Text × Option Text)
read-try words = option_map (λ p. (p.0, first_of (codes "PLAN") p.1, first_of (codes "channel") p.1)) (subcommand_of program words)

all-given : read-run (codes "hl7_service" ∷ codes "run" ∷ codes "a.toml" ∷ codes "--connections" ∷ codes "3" ∷ codes "--keep=7" ∷ []) ≡ Some (codes "run", Some (codes "a.toml"), Some (codes "3"), Some (codes "7"))
unfolding clap_on_literals
all-given = refl

none-given : read-run (codes "hl7_service" ∷ codes "run" ∷ codes "a.toml" ∷ []) ≡ Some (codes "run", Some (codes "a.toml"), None, None)
unfolding clap_on_literals
none-given = refl

tried : read-try (codes "hl7_service" ∷ codes "try" ∷ codes "--channel" ∷ codes "ADT" ∷ codes "a.toml" ∷ []) ≡ Some (codes "try", Some (codes "a.toml"), Some (codes "ADT"))
unfolding clap_on_literals
tried = refl

tried-at-first : read-try (codes "hl7_service" ∷ codes "try" ∷ codes "a.toml" ∷ []) ≡ Some (codes "try", Some (codes "a.toml"), None)
unfolding clap_on_literals
tried-at-first = refl

nothing-wrong : fault_of program (codes "hl7_service" ∷ codes "run" ∷ codes "a.toml" ∷ codes "--idle=86400" ∷ codes "--grace" ∷ codes "0" ∷ []) ≡ []
unfolding clap_on_literals
nothing-wrong = refl

no-command : fault_of program (codes "hl7_service" ∷ []) ≡ MissingSubcommand ∷ []
unfolding clap_on_literals
no-command = refl

no-plan : fault_of program (codes "hl7_service" ∷ codes "run" ∷ []) ≡ MissingRequiredArgument ∷ []
unfolding clap_on_literals
no-plan = refl

too-many-connections : fault_of program (codes "hl7_service" ∷ codes "run" ∷ codes "a.toml" ∷ codes "--connections=1001" ∷ []) ≡ ValueValidation ∷ []
unfolding clap_on_literals
too-many-connections = refl

no-connection : fault_of program (codes "hl7_service" ∷ codes "run" ∷ codes "a.toml" ∷ codes "--connections=0" ∷ []) ≡ ValueValidation ∷ []
unfolding clap_on_literals
no-connection = refl

too-long-a-grace : fault_of program (codes "hl7_service" ∷ codes "run" ∷ codes "a.toml" ∷ codes "--grace" ∷ codes "3601" ∷ []) ≡ ValueValidation ∷ []
unfolding clap_on_literals
too-long-a-grace = refl

another-option : fault_of program (codes "hl7_service" ∷ codes "run" ∷ codes "a.toml" ∷ codes "--accept" ∷ codes "1" ∷ []) ≡ UnknownArgument ∷ []
unfolding clap_on_literals
another-option = refl

-- the command that words name, with its plan and what is written for --verbose
abbrev read-check : List Text → Option (Text × Option Text × Option Text)
read-check words = option_map (λ p. (p.0, first_of (codes "PLAN") p.1, one_of (codes "verbose") p.1)) (subcommand_of program words)

checked : read-check (codes "hl7_service" ∷ codes "check" ∷ codes "a.toml" ∷ []) ≡ Some (codes "check", Some (codes "a.toml"), Some (codes "false"))
unfolding clap_on_literals
checked = refl

checked-with-table : read-check (codes "hl7_service" ∷ codes "check" ∷ codes "--verbose" ∷ codes "a.toml" ∷ []) ≡ Some (codes "check", Some (codes "a.toml"), Some (codes "true"))
unfolding clap_on_literals
checked-with-table = refl

-- the command that words name, with its folder
abbrev read-store : List Text → Option (Text × Option Text)
read-store words = option_map (λ p. (p.0, first_of (codes "FOLDER") p.1)) (subcommand_of program words)

asked : read-store (codes "hl7_service" ∷ codes "store" ∷ codes "kept" ∷ []) ≡ Some (codes "store", Some (codes "kept"))
unfolding clap_on_literals
asked = refl

no-folder : fault_of program (codes "hl7_service" ∷ codes "store" ∷ []) ≡ MissingRequiredArgument ∷ []
unfolding clap_on_literals
no-folder = refl

no-place-to-ask : faults_of (codes "hl7_service" ∷ codes "store" ∷ codes "kept" ∷ []) ≡ []
unfolding clap_on_literals
no-place-to-ask = refl
