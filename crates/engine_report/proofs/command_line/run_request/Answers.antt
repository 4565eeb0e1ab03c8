use Rattle.std.proofs.Common.{ap, refl, ◌∙◌}
use Rattle.clap.specs.Words.{found_of}
use Rattle.clap.proofs.WalkLemmas.{first_value-rows, one_text-rows}
use Rattle.engine_report.proofs.Asking.{number-given, word-or-nothing}
use Rattle.engine_report.proofs.command_line.run_request.Goals as goal

pub returns-clause-written : goal.returns-clause-written
returns-clause-written c =
    record {
      plan_is = ap (λ s. s.now) c.unwrap_or.ensures ∙ word-or-nothing c.get_str.result _ _ (c.get_str.ensures ∙ first_value-rows (found_of c.args.matches.now) _) refl;
      connections = c.get_one.result;
      connections_are = number-given 32 _ _ c.get_one.result (one_text-rows (found_of c.args.matches.now) _) c.get_one.ensures.none c.get_one.ensures.value;
      accept_is = c.accept_of.ensures.written;
      entries = c.get_one-2.result;
      entries_are = number-given 32 _ _ c.get_one-2.result (one_text-rows (found_of c.args.matches.now) _) c.get_one-2.ensures.none c.get_one-2.ensures.value;
      events_are = c.events_of.ensures.written;
    }
