use Rattle.std.proofs.Common.{◌≡◌, drop}
use Rattle.std.specs.Option.{option_copied}
use Rattle.hl7_transform.specs.Step.{partner}
use Rattle.hl7_transform.specs.inner.View.{table_view}
use Rattle.hl7_transform.proofs.application.partner.Given as goal

abbrev pub invariant-loop-pair : goal.invariant-loop-pair
invariant-loop-pair l =
    partner (table_view l.table) (option_copied l.default) l.value ≡ partner (table_view (drop l.pair-index l.table)) (option_copied l.default) l.value
