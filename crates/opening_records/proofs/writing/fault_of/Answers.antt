use Rattle.std.proofs.Common.{◌≡◌, false}
use Rattle.opening_records.specs.inner.Openings.{with_bound, written}
use Rattle.opening_records.specs.inner.Lengths.{is_too_long}
use Rattle.opening_records.proofs.Openings.{fits_short}
use Rattle.opening_records.proofs.writing.fault_of.Goals as goal

pub returns-then-is_too_long : goal.returns-then-is_too_long
returns-then-is_too_long c = λ is bound fits.
    let no : is_too_long (written c.args.document.now c.args.opening.now) ≡ false = fits_short (written c.args.document.now (with_bound bound c.args.opening.now)) fits in
    absurd cc
