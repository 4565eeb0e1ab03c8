-- Worked command lines.
use Rattle.std.specs.Prelude.{◌≡◌, List, [], ◌∷◌, Option, None, Some, codes, option_map, refl}
use Rattle.clap.proofs.OnLiterals.{clap_on_literals}
use Rattle.clap.specs.declared.error.kind.ErrorKind.TheVariants.{MissingRequiredArgument, UnknownArgument, ValueValidation}
use Rattle.clap.specs.Words.{Text, fault_of, first_of, one_of, subcommand_of}
use Rattle.engine_report.specs.Words.{program}

-- the command that words name, with its plan, its moment and its most entries as they are written
abbrev read : List Text → Option (Text × Option Text × Option Text × Option Text)
read words = option_map (λ p. (p.0, first_of (codes "PLAN") p.1, one_of (codes "now") p.1, one_of (codes "events") p.1)) (subcommand_of program words)

-- the command that words name, with its plan, its connections and its most entries as they are written
abbrev read-run : List Text → Option (Text × Option Text × Option Text × Option Text)
read-run words = option_map (λ p. (p.0, first_of (codes "PLAN") p.1, one_of (codes "accept") p.1, one_of (codes "events") p.1)) (subcommand_of program words)

all-given : read (codes "hl7_engine" ∷ codes "answer" ∷ codes "a.toml" ∷ codes "--now" ∷ codes "5" ∷ codes "--events=7" ∷ [])
    ≡ Some (codes "answer", Some (codes "a.toml"), Some (codes "5"), Some (codes "7"))
unfolding clap_on_literals
all-given = refl

plan-last : read (codes "hl7_engine" ∷ codes "answer" ∷ codes "--events" ∷ codes "20" ∷ codes "a.toml" ∷ []) ≡ Some (codes "answer", Some (codes "a.toml"), None, Some (codes "20"))
unfolding clap_on_literals
plan-last = refl

none-given : read (codes "hl7_engine" ∷ codes "answer" ∷ []) ≡ Some (codes "answer", None, None, None)
unfolding clap_on_literals
none-given = refl

checked : read (codes "hl7_engine" ∷ codes "check" ∷ codes "a.toml" ∷ []) ≡ Some (codes "check", Some (codes "a.toml"), None, None)
unfolding clap_on_literals
checked = refl

run-with-all : read-run (codes "hl7_engine" ∷ codes "run" ∷ codes "a.toml" ∷ codes "--accept" ∷ codes "3" ∷ codes "--events=7" ∷ []) ≡ Some (codes "run", Some (codes "a.toml"), Some (codes "3"), Some (codes "7"))
unfolding clap_on_literals
run-with-all = refl

nothing-wrong : fault_of program (codes "hl7_engine" ∷ codes "answer" ∷ codes "a.toml" ∷ codes "--now" ∷ codes "5" ∷ codes "--events=7" ∷ []) ≡ []
unfolding clap_on_literals
nothing-wrong = refl

empty-book : fault_of program (codes "hl7_engine" ∷ codes "answer" ∷ codes "--events" ∷ codes "0" ∷ []) ≡ ValueValidation ∷ []
unfolding clap_on_literals
empty-book = refl

no-number : fault_of program (codes "hl7_engine" ∷ codes "answer" ∷ codes "--now" ∷ codes "x" ∷ []) ≡ ValueValidation ∷ []
unfolding clap_on_literals
no-number = refl

no-plan : fault_of program (codes "hl7_engine" ∷ codes "check" ∷ []) ≡ MissingRequiredArgument ∷ []
unfolding clap_on_literals
no-plan = refl

another-option : fault_of program (codes "hl7_engine" ∷ codes "answer" ∷ codes "--speed" ∷ []) ≡ UnknownArgument ∷ []
unfolding clap_on_literals
another-option = refl

nothing-wrong-with-run : fault_of program (codes "hl7_engine" ∷ codes "run" ∷ codes "--accept=9999" ∷ codes "a.toml" ∷ []) ≡ []
unfolding clap_on_literals
nothing-wrong-with-run = refl

no-accept : fault_of program (codes "hl7_engine" ∷ codes "run" ∷ codes "a.toml" ∷ []) ≡ MissingRequiredArgument ∷ []
unfolding clap_on_literals
no-accept = refl

no-connection : fault_of program (codes "hl7_engine" ∷ codes "run" ∷ codes "a.toml" ∷ codes "--accept=0" ∷ []) ≡ ValueValidation ∷ []
unfolding clap_on_literals
no-connection = refl

too-many-connections : fault_of program (codes "hl7_engine" ∷ codes "run" ∷ codes "a.toml" ∷ codes "--accept" ∷ codes "10000" ∷ []) ≡ ValueValidation ∷ []
unfolding clap_on_literals
too-many-connections = refl
