use Rattle.std.proofs.Common.{◌∙◌, sym, ap}
use Rattle.std.specs.Option.{option_copied_mut}
use Rattle.row_store.proofs.Changes.{changed_at-none}
use Rattle.dest_queue.proofs.QueueLemmas.{put-written}
use Rattle.dest_queue.proofs.queues.put_slot.Goals as goal

pub returns-in-Some : goal.returns-in-Some
returns-in-Some g c =
    let written = rw c.in-Some.is at (c.get_mut.follows.holds (record { content = c.in-Some.message.now.content; slots = c.put.new.self })) in
    written ∙ rw c.put.ensures (put-written c.args.number c.args.d c.args.state (g.S.RowStore.rows c.args.rows.now) c.in-Some.message.now c.numbers_rise.ensures (sym c.in-Some.ensures.item))

pub returns-in_default : goal.returns-in_default
returns-in_default g c =
    let none = sym c.get_mut.ensures.item ∙ ap option_copied_mut c.in_default.is in
    c.get_mut.follows.holds-at-none ∙ sym (changed_at-none c.args.number _ (g.S.RowStore.rows c.args.rows.now) none)
