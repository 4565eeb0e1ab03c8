use Rattle.std.proofs.Common.{ℕ, Vec, Global, sym, ◌∙◌, ap, subst}
use Rattle.er7_tree.specs.inner.Spans.{AreSpans}
use Rattle.er7_tree.proofs.Messages.{tree_is}
use Rattle.er7_tree.proofs.message.Message.parse_shared.Goals as goal

pub invariant_of-result : goal.invariant_of-result
invariant_of-result c =
    let d = c.in_ok-delims.delims in
    let spans = c.spans_of.new.spans.items in
    let read = c.in_ok-delims.ensures in
    subst (λ text. AreSpans d text spans) (c.as_slice.ensures.value ∙ ap (λ (v : Vec ℕ Global). v.items) (c.deref.ensures ∙ sym c.in_ok-text.ensures)) (record { in_order = read.in_order; message = tree_is c.as_slice.result.now _ read.value })

pub returns-clause-message : goal.returns-clause-message
returns-clause-message c = (invariant_of-result c).message
