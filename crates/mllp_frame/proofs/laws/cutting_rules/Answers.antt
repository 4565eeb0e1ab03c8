use Rattle.mllp_frame.proofs.Rules.{rule_none, rule_data, rule_end, rule_start, rule_whole, rule_bad, ended_block-whole, ended_block-long}
use Rattle.std.proofs.Common.{[]}
use Rattle.mllp_frame.proofs.laws.cutting_rules.Goals as goal

pub returns : goal.returns
returns c = record {
  none = rule_none;
  begun = λ skipped bytes quiet plain. rule_data skipped bytes [] quiet plain;
  ending = λ skipped bytes quiet plain. rule_end skipped bytes [] quiet plain;
  start = rule_start;
  end = rule_whole;
  bad = λ skipped bytes rest b quiet plain other. rule_bad skipped bytes rest quiet plain b other;
  whole = ended_block-whole;
  long = ended_block-long;
}
