use Rattle.hl7_filter.proofs.Unescaped.{finds_none}
use Rattle.hl7_filter.proofs.condition.lacks.Goals as goal

pub returns : goal.returns
returns c = finds_none c.args.byte c.args.bytes.now c.memchr.result c.is_none.result c.memchr.ensures c.is_none.ensures
