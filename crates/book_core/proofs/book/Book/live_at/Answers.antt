use Rattle.std.proofs.Common.{◌≡◌, true, false, sym, ◌∙◌, ap, arith}
use Rattle.std.specs.Prelude.{is_some}
use Rattle.event_log.specs.History.{is_queued}
use Rattle.book_core.specs.inner.Questions.{queued_as}
use Rattle.book_core.proofs.Asked.{queued-some}
use Rattle.book_core.proofs.KeepingDeployments.{found-here, found-later, none-left}
use Rattle.book_core.proofs.book.Book.live_at.Goals as goal

pub returns-then-is_some : goal.returns-then-is_some
returns-then-is_some g c =
    let said : is_some (queued_as c.args.self.now c.loop-d.d c.args.number) ≡ true = sym (ap is_some c.queued.ensures) ∙ (sym c.is_some.ensures ∙ c.if-is_some.true) in
    let lives : is_queued c.args.self.now c.loop-d.d c.args.number ≡ true = queued-some c.args.self.now c.loop-d.d c.args.number ∙ said in
    sym (found-here (λ d. is_queued c.args.self.now d c.args.number) c.loop-d.d c.loop-d-test.true lives) ∙ c.loop-d.invariant

pub loop-d-preserved : goal.loop-d-preserved
loop-d-preserved g c =
    let said : is_some (queued_as c.args.self.now c.loop-d.d c.args.number) ≡ false = sym (ap is_some c.queued.ensures) ∙ (sym c.is_some.ensures ∙ c.if-is_some.false) in
    let lives : is_queued c.args.self.now c.loop-d.d c.args.number ≡ false = queued-some c.args.self.now c.loop-d.d c.args.number ∙ said in
    found-later (λ d. is_queued c.args.self.now d c.args.number) c.loop-d.d c.loop-d-test.true lives ∙ c.loop-d.invariant

pub returns : goal.returns
returns g c = sym (none-left (λ d. is_queued c.args.self.now d c.args.number) c.loop-d.d (omega (arith, c.loop-d-test.false))) ∙ c.loop-d.invariant
