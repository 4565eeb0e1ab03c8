use Rattle.std.proofs.Common.{arith, sym}
use Rattle.book_recovery.specs.inner.Preface.{preface_of}
use Rattle.book_recovery.proofs.Files.{preface_begins}
use Rattle.book_recovery.proofs.opening.opened_from.Goals as goal

pub returns-in-Ok-clause-begins : goal.returns-in-Ok-clause-begins
returns-in-Ok-clause-begins g c =
    preface_begins c.args.first.now (preface_of c.in-Some.preface) c.in-Ok.book (λ i. omega (arith, c.type_inv.first i)) (sym c.in-Some.ensures)
    c.in-Ok.ensures.opened
