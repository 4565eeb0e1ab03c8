use Rattle.std.proofs.Common.{◌≡◌, true, false}
use Rattle.book_resume.proofs.OrderedBegun.{resumable-ordered}
use Rattle.book_resume.proofs.book.resume.Goals as goal

pub returns-then-not-branch-clause-refused : goal.returns-then-not-branch-clause-refused
returns-then-not-branch-clause-refused g c = λ is may.
    let passes : c.in_ok-is_ordered.field-0 ≡ true = c.in_ok-is_ordered.ensures.1 (resumable-ordered c.args.opening may) in
    let fails : c.in_ok-is_ordered.field-0 ≡ false = c.if-not-branch.true in
    absurd cc
