use Rattle.std.proofs.Common.{rules, sym, ap, ◌∙◌, slice_index_or}
use Rattle.std.specs.declared.option.Option.TheVariants.{None}
use Rattle.record_list.proofs.Packing.{link_read}
use Rattle.record_list.proofs.row_head.OtherLinks.get.Goals as goal

pub returns : goal.returns
returns c = c.unpacked.ensures ∙ sym (link_read c.self.inside.seats c.self.inside.ends c.args.slot _ (search rules) (search rules)) ∙ ap (λ l. slice_index_or l c.args.slot None) c.self.view_is
