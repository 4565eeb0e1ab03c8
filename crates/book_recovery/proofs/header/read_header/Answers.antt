use Rattle.std.proofs.Common.{arith}
use Rattle.book_recovery.proofs.Codec.{read_fits, read_only}
use Rattle.book_recovery.proofs.header.read_header.Goals as goal

pub returns-clause-encoded : goal.returns-clause-encoded
returns-clause-encoded c = read_only c.args.bytes.now c.header_in.result (λ i. omega (arith, c.type_inv.bytes i)) c.header_in.ensures.header

pub returns-clause-fits : goal.returns-clause-fits
returns-clause-fits c = read_fits c.args.bytes.now c.header_in.result (λ i. omega (arith, c.type_inv.bytes i)) c.header_in.ensures.header
