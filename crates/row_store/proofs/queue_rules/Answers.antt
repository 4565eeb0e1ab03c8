use Rattle.row_store.proofs.QueueLaws.{front_of-queue_of, left-queue, kept-queue, queue_of-unlinked, queue_of-unlinked_other, queue_of-with_item}
use Rattle.row_store.proofs.queue_rules.Goals as goal

pub returns-clause-front : goal.returns-clause-front
returns-clause-front g c = front_of-queue_of

pub returns-clause-left : goal.returns-clause-left
returns-clause-left g c = left-queue

pub returns-clause-others : goal.returns-clause-others
returns-clause-others g c = kept-queue

pub returns-clause-unlinked : goal.returns-clause-unlinked
returns-clause-unlinked g c = queue_of-unlinked

pub returns-clause-unlinked_others : goal.returns-clause-unlinked_others
returns-clause-unlinked_others g c = queue_of-unlinked_other

pub returns-clause-with_item : goal.returns-clause-with_item
returns-clause-with_item g c = queue_of-with_item
