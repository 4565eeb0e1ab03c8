use Rattle.std.proofs.Common.{◌∙◌, ap, arith}
use Rattle.std.specs.Bool.{then_some}
use Rattle.std.specs.List.{filter_map}
use Rattle.event_log.specs.inner.History.{number_of}
use Rattle.book_resume.proofs.InOrder.{last-none, last-some}
use Rattle.book_resume.proofs.order.first_number.Goals as goal

pub returns-clause-last : goal.returns-clause-last
returns-clause-last c =
    last-some c.args.messages c.in_ok-first.first (filter_map number_of c.args.arrivals.now) c.then_some.result (omega arith) (omega arith)
    (c.then_some.ensures ∙ ap (λ b. then_some b c.in_ok-first.first) c.are_numbered_from.ensures)

pub returns-clause-none : goal.returns-clause-none
returns-clause-none c =
    last-none c.args.messages c.in_ok-first.first (filter_map number_of c.args.arrivals.now) c.then_some.result (omega arith)
    (c.then_some.ensures ∙ ap (λ b. then_some b c.in_ok-first.first) c.are_numbered_from.ensures)
