use Rattle.std.proofs.Common.{rules, ◌≡◌, Some, List, refl, sym, subst}
use Rattle.std.specs.Prelude.{Option}
use Rattle.std.specs.Option.{option_copied}
use Rattle.book_lock.specs.Auditing.{IsFirstFault}
use Rattle.book_lock.specs.Rises.{SharedBook}
use Rattle.book_lock.specs.declared.receipt_audit.AuditFault.{AuditFault}
use Rattle.book_lock.specs.declared.receipt_audit.AuditFault.TheVariants.{Missing, Doubled, Differs}
use Rattle.engine_report.specs.declared.fault.Finding.{Finding}
use Rattle.engine_report.specs.Findings.{IsFinding, Served, finding_of, receipts_in}
use Rattle.engine_report.proofs.findings.find.Goals as goal

-- what an audit found first is what is wrong
audited : (closed : SharedBook) (served : List Served) (f : AuditFault) → IsFirstFault closed (receipts_in served) f → IsFinding (Some closed) served (Some (finding_of f))
audited closed served (Missing place) is = (Missing place, is, refl)
audited closed served (Doubled place) is = (Doubled place, is, refl)
audited closed served (Differs place) is = (Differs place, is, refl)

pub returns-in-Err : goal.returns-in-Err
returns-in-Err g c =
    let first : IsFirstFault c.in-Some.closed.now (receipts_in c.args.served.items) c.in-Err.fault = search rules in
    let found : IsFinding (Some c.in-Some.closed.now) c.args.served.items (Some (finding_of c.in-Err.fault)) = audited c.in-Some.closed.now c.args.served.items c.in-Err.fault first in
    let closed : option_copied c.args.closed ≡ Some c.in-Some.closed.now = search rules in
    subst (λ (o : Option SharedBook). IsFinding o c.args.served.items (Some c.finding_of.result)) (sym closed)
    (subst (λ (f : Finding). IsFinding (Some c.in-Some.closed.now) c.args.served.items (Some f)) (sym c.finding_of.ensures) found)
