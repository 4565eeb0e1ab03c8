use Rattle.std.proofs.Common.{ap, refl, ◌∙◌}
use Rattle.clap.specs.Words.{found_of}
use Rattle.clap.proofs.WalkLemmas.{first_value-rows}
use Rattle.service_words.proofs.Asking.{word-or-nothing}
use Rattle.service_words.proofs.command_line.store_request.Goals as goal

pub returns-clause-written : goal.returns-clause-written
returns-clause-written c =
    let found = found_of c.args.matches.now in
    ap (λ s. s.now) c.unwrap_or.ensures ∙ word-or-nothing c.get_str.result _ _ (c.get_str.ensures ∙ first_value-rows found _) refl
