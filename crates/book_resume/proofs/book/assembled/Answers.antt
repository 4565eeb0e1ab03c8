use Rattle.std.proofs.Common.{sym, subst}
use Rattle.book_core.specs.inner.Parts.{IsKept}
use Rattle.book_resume.proofs.KeptBegun.{kept-begun}
use Rattle.book_resume.proofs.book.assembled.Goals as goal

pub of_parts-requires : goal.of_parts-requires
of_parts-requires g c =
    subst (λ h. IsKept h (g.S.RowStore.rows c.args.rows) c.args.keys.known c.args.counts 0 c.resume-log.result.room) (sym c.resume-log.ensures)
    (kept-begun c.args.opening (g.S.RowStore.rows c.args.rows) c.args.keys.known c.args.counts c.resume-log.result.room c.requires.resumable c.requires.rows c.requires.keys c.requires.counts)
