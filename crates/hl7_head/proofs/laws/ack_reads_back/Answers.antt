use Rattle.std.proofs.Common.{arith}
use Rattle.hl7_head.proofs.ReadBack.{reads_back}
use Rattle.hl7_head.proofs.laws.ack_reads_back.Goals as goal

pub returns-clause-header : goal.returns-clause-header
returns-clause-header c text header is = (reads_back c.args.part c.args.moment c.args.connection c.args.number (omega arith) (omega arith) text header is).header

pub returns-clause-answer : goal.returns-clause-answer
returns-clause-answer c text header is = (reads_back c.args.part c.args.moment c.args.connection c.args.number (omega arith) (omega arith) text header is).answer
