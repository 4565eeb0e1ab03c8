use Rattle.std.proofs.Common.{sym, ◌∙◌}
use Rattle.hl7_filter.proofs.Standing.{finds, stands_in-Decides}
use Rattle.hl7_filter.proofs.condition.stands_in.Goals as goal

pub returns : goal.returns
returns c =
    let text = c.args.text.now in
    let value = c.args.value.now in
    let computed = c.is_some.ensures ∙ finds text value c.find.result c.find.ensures in record {
      computed = computed;
      relation = (λ is. (stands_in-Decides text value).0 (sym computed ∙ is), λ parts. computed ∙ (stands_in-Decides text value).1 parts);
    }
