use Rattle.std.proofs.Common.{arith, rules}
use Rattle.book_recovery.proofs.Files.{all_encoded}
use Rattle.book_recovery.proofs.run.read_body.Goals as goal

pub returns-in-Ok-clause-encoded : goal.returns-in-Ok-clause-encoded
returns-in-Ok-clause-encoded c =
    all_encoded c.args.body.now c.in-Ok.item c.in-Ok.rest.now (λ i. omega (arith, c.type_inv.body i)) c.in-Ok.ensures (search rules)
