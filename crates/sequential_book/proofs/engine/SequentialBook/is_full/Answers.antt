use Rattle.std.proofs.Common.{◌∙◌, ap}
use Rattle.event_log.specs.History.{plan_in_force}
use Rattle.sequential_book.proofs.Replies.{full-told}
use Rattle.sequential_book.proofs.engine.SequentialBook.is_full.Goals as goal

pub returns : goal.returns
returns c =
    let plan = c.deref.ensures ∙ c.plan.ensures in
    let owes = rw (c.channel-channel.ensures.value, c.as_slice-raw.ensures, c.raw.ensures.value) at c.arrival_owes.ensures.value in
    rw (full-told c.args.self.now c.args.judged.now.channel c.args.judged.now.raw c.args.told c.deref.result.now c.arrival_owes.result c.requires.told plan owes) c.is_over_limit.ensures
