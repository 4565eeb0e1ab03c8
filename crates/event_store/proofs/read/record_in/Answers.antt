use Rattle.std.proofs.Common.{rules, sym, ap, ◌∙◌}
use Rattle.sqlite_value.specs.declared.value.Value.TheVariants.{Int, Text, Blob}
use Rattle.event_store.proofs.ReadLemmas.{row_of}
use Rattle.event_store.proofs.read.record_in.Goals as goal

pub returns : goal.returns
returns c =
    let body = c.in-Blob-Int-Text.ensures in
    let at = c.in-Blob-Int-Text.ensures' in
    let peer = c.in-Blob-Int-Text.ensures'' in
    row_of c.args.row.now c.args.number _ (search rules) (search rules) (sym body ∙ ap Blob (search rules)) (sym at ∙ ap Int (search rules)) (sym peer ∙ ap Text (search rules))
