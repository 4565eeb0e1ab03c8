use Rattle.dest_queue.specs.inner.Listed.{listed}
use Rattle.dest_queue.proofs.SlotLemmas.{bounded-with_state}
use Rattle.dest_queue.proofs.slots.Slots.put.Goals as goal

pub invariant_of-self : goal.invariant_of-self
invariant_of-self c =
    rw c.put.ensures (bounded-with_state c.args.d c.args.state (listed c.self.inside.list) c.self.invariant)
