use Rattle.record_list.proofs.Kept.{new_whole}
use Rattle.record_list.proofs.record_list.RecordListRowStore.make.Goals as goal

pub invariant_of-result : goal.invariant_of-result
invariant_of-result g c = new_whole c.new.result c.new.ensures.nodes c.new.ensures.ends.0 c.new.ensures.ends.1
