use Rattle.std.proofs.Common.{◌∙◌, sym}
use Rattle.std.specs.Arc.{arc_value}
use Rattle.judge_core.proofs.Judgements.{says-nothing}
use Rattle.judge_core.proofs.judged.unreadable.Goals as goal

pub invariant_of-result : goal.invariant_of-result
invariant_of-result c =
    let nothing = says-nothing (arc_value c.args.plan) c.args.channel c.args.raw (sym c.requires.none) in
    record {
      known = c.requires.known;
      fits = c.requires.fits;
      header_is = nothing.header_is;
      key_is = c.new.ensures ∙ nothing.key_is;
      verdict_is = nothing.verdict_is;
    }
