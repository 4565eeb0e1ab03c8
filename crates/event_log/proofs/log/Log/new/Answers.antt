use Rattle.std.proofs.Common.{refl, arith}
use Rattle.event_log.specs.Room.{total}
use Rattle.event_log.proofs.log.Log.new.Goals as goal

pub invariant_of-result : goal.invariant_of-result
unfolding total
invariant_of-result c = rw (c.new.ensures.items, c.blank.ensures) (record { plan_is = refl; deployments_are = refl; messages_are = refl; owed_is = refl; within = omega arith; few = c.requires; few_places = omega arith; few_messages = omega arith })
