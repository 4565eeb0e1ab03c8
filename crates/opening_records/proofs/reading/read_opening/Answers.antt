use Rattle.std.proofs.Common.{arith}
use Rattle.std.proofs.lemmas.Result.{IfOk-weaker, err_from_is_err_and}
use Rattle.opening_records.specs.inner.Reading.{written_of}
use Rattle.opening_records.proofs.Snapshots.{decoded, encoded, refused}
use Rattle.opening_records.proofs.reading.read_opening.Goals as goal

pub returns-in_err-parts-clause-given_back : goal.returns-in_err-parts-clause-given_back
returns-in_err-parts-clause-given_back c = λ o orderly is.
    let p = err_from_is_err_and c.from_residual.result c.from_residual.ensures.1 in
    rw (p.1, p.2) (refused c.in_err-parts.field-0.0 c.args.bytes.now o c.in_err-parts.ensures is)

pub returns-clause-read : goal.returns-clause-read
returns-clause-read c =
    IfOk-weaker c.snapshot_of.result _ _
    (λ o is. encoded c.args.bytes.now (written_of c.in_ok-parts.parts) o (λ i. omega (arith, c.type_inv.bytes i)) c.in_ok-parts.ensures is) c.snapshot_of.ensures.found

pub returns-clause-given_back : goal.returns-clause-given_back
returns-clause-given_back c = λ o orderly is.
    c.snapshot_of.ensures.only o orderly (decoded c.args.bytes.now (written_of c.in_ok-parts.parts) o c.in_ok-parts.ensures is)
