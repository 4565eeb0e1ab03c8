-- Commands as they are put together.
use Rattle.std.proofs.Common.{◌≡◌, ◌||◌, Bool, false, ap, ◌∙◌}
use Rattle.clap.specs.declared.builder.arg.Arg.{Arg}
use Rattle.clap.specs.declared.builder.command.Command.{Command}
use Rattle.clap.specs.declared.builder.command.Command.TheViews.{out-Command as fields_of}
use Rattle.clap.specs.Words.{AddsArg, AddsSubcommand, App, app_of, rule_of, with_rule, with_subcommand}

-- a command that a word of its own was added to
pub with_word : (old new : Command) (a : Arg) (o : App) → AddsArg old a new → app_of old ≡ o → a.global ≡ false → app_of new ≡ with_rule o (rule_of a)
with_word old new a o adds is local = adds.shape local ∙ ap (λ p. with_rule p (rule_of a)) is

-- it has no word that its subcommands take too
pub stays_local : (old new : Command) (a : Arg) → AddsArg old a new → (fields_of old).has_globals ≡ false → a.global ≡ false → (fields_of new).has_globals ≡ false
stays_local old new a adds is local = adds.globals ∙ ap (λ (b : Bool). b || a.global) is ∙ local

-- a command that one more was added to
pub added : (old sub new : Command) (o s : App) → AddsSubcommand old sub new → app_of old ≡ o → app_of sub ≡ s → (fields_of sub).has_globals ≡ false → app_of new ≡ with_subcommand o s.top
added old sub new o s adds is sub_is local =
    adds.shape local ∙ (ap (λ a. with_subcommand a (app_of sub).top) is ∙ ap (λ a. with_subcommand o a.top) sub_is)
