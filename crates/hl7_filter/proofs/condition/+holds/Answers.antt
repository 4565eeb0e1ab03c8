use Rattle.hl7_filter.proofs.Views.{view-Equals, view-Starts}
use Rattle.hl7_filter.proofs.condition.+holds.Goals as goal

pub Cond::holds-returns-in_ok-value-in-Equals-clause-value : goal.Cond::holds-returns-in_ok-value-in-Equals-clause-value
Cond::holds-returns-in_ok-value-in-Equals-clause-value t c =
    rw (c.in-Equals.is, view-Equals c.in-Equals.path c.in-Equals.text)
    (rw (c.as_slice.ensures.value, c.in_ok-value-in-Equals.ensures.value, c.as_slice-in-Equals.ensures) at c.eq.ensures)

pub Cond::holds-returns-in_ok-value-in-Starts-clause-value : goal.Cond::holds-returns-in_ok-value-in-Starts-clause-value
Cond::holds-returns-in_ok-value-in-Starts-clause-value t c =
    rw (c.in-Starts.is, view-Starts c.in-Starts.path c.in-Starts.text)
    (rw (c.deref-in-Starts.ensures.value, c.in_ok-value-in-Starts.ensures.value, c.as_slice-in-Starts.ensures) at c.starts_with.ensures.value)
