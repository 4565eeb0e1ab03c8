use Rattle.std.proofs.Common.{ℕ, Vec, Global, sym, ◌∙◌, ap, subst}
use Rattle.er7_tree.specs.inner.Spans.{AreSpans}
use Rattle.er7_tree.proofs.Messages.{tree_is}
use Rattle.er7_tree.proofs.message.Message.parse.Goals as goal

pub invariant_of-result : goal.invariant_of-result
invariant_of-result c =
    let d = c.in_ok-delims.delims in
    let spans = c.spans_of.new.spans.items in
    let copied = sym (ap (λ (v : Vec ℕ Global). v.items) c.in_ok-text.ensures.ok ∙ c.in_ok-bytes.ensures.items) in
    let read = c.in_ok-delims.ensures in
    subst (λ text. AreSpans d text spans) copied (record { in_order = read.in_order; message = tree_is c.args.text.now _ read.value })

pub returns-clause-message : goal.returns-clause-message
returns-clause-message c = (invariant_of-result c).message
