use Rattle.std.proofs.Common.{◌≡◌, [], None, Some, sym, ◌∙◌, ap}
use Rattle.std.specs.Prelude.{option_and_then, option_copied}
use Rattle.row_store.specs.Rows.{item_at}
use Rattle.event_log.specs.History.{number_told}
use Rattle.book_core.proofs.Remembering.{recalled-none, recalled-row}
use Rattle.book_core.proofs.pruning.recall.Goals as goal

pub returns-in_default : goal.returns-in_default
returns-in_default g c = λ h agree.
    let none : option_and_then (λ n. item_at n (g.S.RowStore.rows c.args.rows.now)) (number_told c.args.told) ≡ None
    = sym c.message_told.ensures ∙ ap option_copied c.in_default.is in
    c.new-in_default.ensures
    ∙ ((λ i. record {
      place = c.args.place;
      channel = c.args.channel;
      raw = c.in_ok-raw.ensures i;
      told = c.args.told;
      deliveries = [];
      slots = c.new.ensures i;
    })
    ∙ recalled-none h (g.S.RowStore.rows c.args.rows.now) agree c.args.place c.args.channel c.args.raw.now c.args.told none)

pub returns : goal.returns
returns g c = λ h agree.
    let found : option_and_then (λ n. item_at n (g.S.RowStore.rows c.args.rows.now)) (number_told c.args.told) ≡ Some c.in-Some.message.now
    = sym c.message_told.ensures ∙ ap option_copied c.in-Some.is in
    c.new-2.ensures
    ∙ ((λ i. record {
      place = c.args.place;
      channel = c.args.channel;
      raw = c.in_ok-raw.ensures i;
      told = c.args.told;
      deliveries = c.in_ok-deliveries.ensures i;
      slots = c.in_ok-slots.ensures i;
    })
    ∙ recalled-row h (g.S.RowStore.rows c.args.rows.now) agree c.args.place c.args.channel c.args.raw.now c.args.told c.in-Some.message.now found)
