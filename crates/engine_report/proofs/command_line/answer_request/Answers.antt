use Rattle.std.proofs.Common.{◌∙◌}
use Rattle.clap.specs.Words.{found_of}
use Rattle.clap.proofs.WalkLemmas.{first_value-rows, one_text-rows}
use Rattle.engine_report.proofs.Asking.{number-given}
use Rattle.engine_report.proofs.command_line.answer_request.Goals as goal

pub returns-clause-written : goal.returns-clause-written
returns-clause-written c =
    record {
      plan_is = c.get_str.ensures ∙ first_value-rows (found_of c.args.matches.now) _;
      seconds = c.get_one.result;
      seconds_are = number-given 64 _ _ c.get_one.result (one_text-rows (found_of c.args.matches.now) _) c.get_one.ensures.none c.get_one.ensures.value;
      now_is = c.moment_of_seconds.ensures;
      entries = c.get_one-2.result;
      entries_are = number-given 32 _ _ c.get_one-2.result (one_text-rows (found_of c.args.matches.now) _) c.get_one-2.ensures.none c.get_one-2.ensures.value;
      events_are = c.events_of.ensures.written;
    }
