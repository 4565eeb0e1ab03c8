use Rattle.std.proofs.Common.{◌≡◌, [], drop}
use Rattle.toml.specs.View.{items_view, array_view}
use Rattle.plan_text.specs.Keys.{each_after}
use Rattle.plan_text.proofs.from_toml.members.each.Given as goal

abbrev pub invariant-loop-value : goal.invariant-loop-value
invariant-loop-value g l = each_after (g.R.Reader.reading l.reader) l.at (g.R.Reader.all_said l.items.items) (items_view (drop l.value-index l.value-items)) ≡ each_after (g.R.Reader.reading l.reader) l.at [] (array_view l.values)
