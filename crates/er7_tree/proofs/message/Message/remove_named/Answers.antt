use Rattle.std.proofs.Common.{◌≡◌, Vec, Global, List, ℕ, not, map, subst, sym, ap, ◌∙◌, length}
use Rattle.std.specs.Arc.{arc_value}
use Rattle.std.specs.List.{filter}
use Rattle.er7_tree.specs.declared.segments.Span.{Span}
use Rattle.er7_tree.specs.inner.Spans.{InOrder, covered, spanned}
use Rattle.er7_tree.specs.Tree.{Tree, has_name}
use Rattle.er7_tree.specs.inner.Tree.{IsMessage}
use Rattle.er7_tree.proofs.Spanning.{in_order_filter}
use Rattle.er7_tree.proofs.EditedMessages.{removed}
use Rattle.er7_tree.proofs.Messages.{delims_are}
use Rattle.er7_tree.proofs.Placing.{filter_covered}
use Rattle.er7_tree.proofs.message.Message.remove_named.Goals as goal

pub returns : goal.returns
returns c =
    let text = (arc_value c.self.inside.text).items in
    let spans = c.self.inside.spans.items in
    let stays = λ (segment : List ℕ). not (has_name c.args.name.now segment) in
    let dropped : c.drop_named.new.spans.items ≡ filter (λ (span : Span). stays (covered text span)) spans =
    c.drop_named.ensures ∙ ap (λ text. filter (λ (span : Span). stays (covered text span)) spans) (c.as_slice.ensures.value ∙ ap (λ (v : Vec ℕ Global). v.items) c.deref.ensures) in
    ap (spanned c.self.inside.delims text) dropped
    ∙ ap (λ segments. let t : Tree = record { delims = c.self.inside.delims; segments = segments } in t) (filter_covered text stays spans)
    ∙ ap (λ (t : Tree). record t { segments = filter stays t.segments }) c.self.view_is

pub invariant_of-self : goal.invariant_of-self
invariant_of-self c =
    let text = (arc_value c.self.inside.text).items in
    let spans = c.self.inside.spans.items in
    let stays = λ (segment : List ℕ). not (has_name c.args.name.now segment) in
    let dropped : c.drop_named.new.spans.items ≡ filter (λ (span : Span). stays (covered text span)) spans =
    c.drop_named.ensures ∙ ap (λ text. filter (λ (span : Span). stays (covered text span)) spans) (c.as_slice.ensures.value ∙ ap (λ (v : Vec ℕ Global). v.items) c.deref.ensures) in
    record {
      in_order = subst (InOrder 0 (length text)) (sym dropped) (in_order_filter (λ span. stays (covered text span)) 0 (length text) spans c.self.invariant.in_order);
      message = subst IsMessage (sym (returns c)) (subst (λ (t : Tree). IsMessage (record t { segments = filter stays t.segments })) c.self.view_is (removed c.self.inside.delims (delims_are _ c.self.invariant.message) c.args.name.now c.requires.named c.requires.no_header (map (covered text) spans) c.self.invariant.message));
    }
