use Rattle.delivery_worker.proofs.data.ends_without.Goals as goal

pub next-found-requires : goal.next-found-requires
next-found-requires c = c.from.ensures.ahead c.args.byte c.args.text.now c.requires
