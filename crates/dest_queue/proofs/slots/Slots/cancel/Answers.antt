use Rattle.dest_queue.specs.inner.Listed.{listed}
use Rattle.dest_queue.specs.inner.Slots.{has_bit}
use Rattle.dest_queue.proofs.SlotLemmas.{bounded-cancelled}
use Rattle.dest_queue.proofs.slots.Slots.cancel.Goals as goal

pub invariant_of-self : goal.invariant_of-self
invariant_of-self c =
    rw c.cancel.ensures.slots (bounded-cancelled (has_bit c.args.among) (listed c.self.inside.list) c.self.invariant)
