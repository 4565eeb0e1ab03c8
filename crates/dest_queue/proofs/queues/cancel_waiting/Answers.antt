use Rattle.std.proofs.Common.{◌∙◌, sym, ap}
use Rattle.std.specs.Prelude.{option_copied}
use Rattle.row_store.proofs.Changes.{changed_at-none}
use Rattle.dest_queue.proofs.QueueLemmas.{cancel-everywhere, mask-alike, waits_in-everywhere}
use Rattle.dest_queue.proofs.queues.cancel_waiting.Goals as goal

pub returns-in_err-get-clause-cancelled : goal.returns-in_err-get-clause-cancelled
returns-in_err-get-clause-cancelled g c =
    let none = sym c.get.ensures ∙ ap option_copied c.in_err-get.was in
    sym (changed_at-none c.args.number _ (g.S.RowStore.rows c.args.rows.now) none)

pub returns-clause-mask : goal.returns-clause-mask
returns-clause-mask g c =
    let found = sym c.get.ensures ∙ ap option_copied c.in_ok-get.was in
    mask-alike c.cancel_among.result _ _ (waits_in-everywhere c.args.number (g.S.RowStore.rows c.args.rows.now) c.in_ok-get.field-0.now found c.destinations_are_few.ensures) c.cancel_among.ensures.mask

pub returns-clause-cancelled : goal.returns-clause-cancelled
returns-clause-cancelled g c =
    let found = sym c.get.ensures ∙ ap option_copied c.in_ok-get.was in
    c.cancel_among.ensures.cancelled ∙ cancel-everywhere c.args.number (g.S.RowStore.rows c.args.rows.now) c.in_ok-get.field-0.now c.numbers_rise.ensures found c.destinations_are_few.ensures
