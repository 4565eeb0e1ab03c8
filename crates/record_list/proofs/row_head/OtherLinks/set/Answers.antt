use Rattle.std.proofs.Common.{rules, ap, ◌∙◌, slice_set}
use Rattle.record_list.proofs.Packing.{link_written, link_kept}
use Rattle.record_list.proofs.row_head.OtherLinks.set.Goals as goal

pub returns-clause-written : goal.returns-clause-written
returns-clause-written c = link_written c.self.inside.seats c.self.inside.ends c.args.slot c.packed-seat.result.0 c.packed-seat.result.1 ∙ ap (slice_set _ c.args.slot) c.packed-seat.ensures ∙ ap (λ l. slice_set l c.args.slot c.args.link) c.self.view_is

pub returns-clause-stands : goal.returns-clause-stands
returns-clause-stands c = link_kept c.self.inside.seats c.self.inside.ends c.args.slot c.packed-seat.result.0 c.packed-seat.result.1 (search rules) (search rules) ∙ c.packed-seat.ensures
