use Rattle.std.proofs.lemmas.Result.{err_from_is_err_and}
use Rattle.opening_records.proofs.Loop.{deliveries_fail}
use Rattle.opening_records.proofs.parts.deliveries_at.Goals as goal

pub returns-in_err-items-clause-gives : goal.returns-in_err-items-clause-gives
returns-in_err-items-clause-gives c =
    let p = err_from_is_err_and c.from_residual-in_err-items.result c.from_residual-in_err-items.ensures.1 in
    rw (p.1, p.2) (deliveries_fail c.args.raw.now c.args.bytes.now c.in_ok-count.count c.in_ok-count.rest.now c.in_err-items.field-0.0 c.in_ok-count.ensures c.in_err-items.ensures)
