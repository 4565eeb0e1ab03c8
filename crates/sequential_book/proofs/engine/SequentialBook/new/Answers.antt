use Rattle.std.specs.Arc.{arc_value}
use Rattle.sequential_book.proofs.Following.{plain-opened}
use Rattle.sequential_book.proofs.engine.SequentialBook.new.Goals as goal

pub invariant_of-result : goal.invariant_of-result
invariant_of-result c = rw c.new.ensures.items (plain-opened (arc_value c.args.plan) c.args.events_max (rw c.deref.ensures at c.rules.ensures) c.requires)
