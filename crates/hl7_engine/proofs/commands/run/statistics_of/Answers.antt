use Rattle.std.proofs.Common.{rules, ◌≡◌, ◌∙◌, Some, sym, ap, subst}
use Rattle.std.specs.Prelude.{IfOk, Option, string_bytes}
use Rattle.std.specs.Option.{option_copied}
use Rattle.book_lock.specs.Rises.{SharedBook}
use Rattle.event_log.specs.Counting.{counted}
use Rattle.stat_count.specs.Statistics.{Statistics}
use Rattle.engine_report.specs.Lines.{lines_of_closed, statistics_lines}
use Rattle.hl7_engine.proofs.commands.run.statistics_of.Goals as goal

pub returns-in-Some : goal.returns-in-Some
returns-in-Some c =
    let closed : option_copied c.args.closed ≡ Some c.in-Some.closed.now = search rules in
    let counts : c.promise.result.1.now ≡ counted c.in-Some.closed.now.book = c.promise.ensures.statistics in
    let text : IfOk c.statistics_text.result (λ text. string_bytes text ≡ statistics_lines c.args.plan.now c.promise.result.1.now) = c.statistics_text.ensures in
    let shown : IfOk c.statistics_text.result (λ text. string_bytes text ≡ statistics_lines c.args.plan.now (counted c.in-Some.closed.now.book)) =
    subst (λ (s : Statistics). IfOk c.statistics_text.result (λ text. string_bytes text ≡ statistics_lines c.args.plan.now s)) counts text in
    subst (λ (o : Option SharedBook). IfOk c.statistics_text.result (λ text. string_bytes text ≡ lines_of_closed c.args.plan.now o)) (sym closed) shown
