use Rattle.std.proofs.Common.{◌≡◌, codes, Ok, rules}
use Rattle.toml.specs.Data.{get_member}
use Rattle.toml.specs.View.{table_view, array_view}
use Rattle.plan_text.specs.Fault.{told}
use Rattle.plan_text.specs.Keys.{required}
use Rattle.plan_text.specs.Document.{some_within}
use Rattle.plan_text.proofs.Laws.{destinations-are}
use Rattle.plan_text.proofs.ChannelLaws.{plan-is}
use Rattle.plan_text.proofs.from_toml.document.plan_of.Goals as goal

pub channels_of-requires : goal.channels_of-requires
channels_of-requires c = rw c.as_slice.ensures.value (destinations-are (table_view c.args.document.now) c.in_ok-destinations.destinations.items c.in_ok-destinations.ensures).0

pub returns-clause-rules : goal.returns-clause-rules
returns-clause-rules c =
    let t = table_view c.args.document.now in
    let read : told (codes "channel") (required (some_within 64) (get_member (codes "channel") t)) ≡ Ok (array_view c.in_ok-some_of.field-0.now) = search rules in
    plan-is t c.in_ok-destinations.destinations.items (get_member (codes "channel") t) (array_view c.in_ok-some_of.field-0.now) c.in_ok-channels.channels.items c.in_ok-destinations.ensures read
    (rw c.as_slice.ensures.value at c.in_ok-channels.ensures)
