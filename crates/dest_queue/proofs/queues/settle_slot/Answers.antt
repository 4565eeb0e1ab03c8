use Rattle.std.proofs.Common.{◌≡◌, ◌∙◌, false, rules}
use Rattle.dest_queue.specs.States.{is_live}
use Rattle.dest_queue.proofs.QueueLemmas.{settle-for_good}
use Rattle.dest_queue.proofs.queues.settle_slot.Goals as goal

pub returns-then-not-is_live-clause-settled : goal.returns-then-not-is_live-clause-settled
returns-then-not-is_live-clause-settled g c =
    let dead : is_live c.state_after-state.result ≡ false = search rules in
    c.unlink.ensures.unlinked ∙ rw c.put_slot.ensures (settle-for_good c.args.number c.args.d c.state_after-state.result (g.S.RowStore.rows c.args.rows.now) dead)
