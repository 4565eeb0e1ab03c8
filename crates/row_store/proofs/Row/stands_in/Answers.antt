use Rattle.std.proofs.Common.{arith}
use Rattle.std.proofs.lemmas.Bool.Decides.{nat_tests}
use Rattle.row_store.proofs.Bits.{beyond_width}
use Rattle.row_store.proofs.Row.stands_in.Goals as goal

pub returns-else-d-lt-QUEUES : goal.returns-else-d-lt-QUEUES
returns-else-d-lt-QUEUES g c =
    let clear = beyond_width c.args.self.now.mask c.args.d (omega arith) (omega arith) in
    grind (arith, nat_tests)
