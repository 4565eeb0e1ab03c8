use Rattle.std.proofs.Common.{◌≡◌, [], length, ap, sym, ◌∙◌, refl, rules}
use Rattle.std.proofs.lemmas.Result.{err_from_is_err_and}
use Rattle.toml.specs.View.{array_view}
use Rattle.plan_text.specs.Keys.{each_after, member_path}
use Rattle.plan_text.proofs.Items.{goes_on, ends}
use Rattle.plan_text.proofs.from_toml.members.each.Goals as goal

pub loop-value-init : goal.loop-value-init
loop-value-init g c = rw (c.new-items.ensures.items, g.met.R.Reader.none_said, c.deref-value-items.ensures.value) refl

pub returns-in_err-item : goal.returns-in_err-item
returns-in_err-item g c =
    let p = err_from_is_err_and c.from_residual-in_err-item.result c.from_residual-in_err-item.ensures.1 in
    let many : c.len.result ≡ length c.loop-value.items.items = search rules in
    let here : c.as_str.result.now ≡ member_path c.args.at.now (length (g.R.Reader.all_said c.as_slice.result.now)) =
    c.as_str.ensures.value ∙ (c.in_ok-at.ensures ∙ ap (member_path c.args.at.now) (many ∙ sym (g.met.R.Reader.as_many c.as_slice.result.now ∙ ap length c.as_slice.ensures.value))) in
    rw (p.1, p.2) (ends (g.R.Reader.reading c.args.reader.now) c.args.at.now c.in_err-item.field-0.0 (g.R.Reader.all_said c.loop-value.items.items) (g.R.Reader.all_said c.as_slice.result.now)
    c.deref-value-items.result.now c.loop-value.value-index c.value-item.result (each_after (g.R.Reader.reading c.args.reader.now) c.args.at.now [] (array_view c.args.values.now))
    c.loop-value-test.true (ap g.R.Reader.all_said c.as_slice.ensures.value) c.value-item.is (rw here at c.in_err-item.ensures) c.loop-value.invariant)

pub loop-value-preserved : goal.loop-value-preserved
loop-value-preserved g c =
    let many : c.len.result ≡ length c.loop-value.items.items = search rules in
    let here : c.as_str.result.now ≡ member_path c.args.at.now (length (g.R.Reader.all_said c.as_slice.result.now)) =
    c.as_str.ensures.value ∙ (c.in_ok-at.ensures ∙ ap (member_path c.args.at.now) (many ∙ sym (g.met.R.Reader.as_many c.as_slice.result.now ∙ ap length c.as_slice.ensures.value))) in
    rw (c.in_ok-push.ensures.items, g.met.R.Reader.one_more) (goes_on (g.R.Reader.reading c.args.reader.now) c.args.at.now (g.R.Reader.all_said c.loop-value.items.items) (g.R.Reader.all_said c.as_slice.result.now)
    c.deref-value-items.result.now c.loop-value.value-index c.value-item.result (g.R.Reader.said c.in_ok-item.item) (each_after (g.R.Reader.reading c.args.reader.now) c.args.at.now [] (array_view c.args.values.now))
    c.loop-value-test.true (ap g.R.Reader.all_said c.as_slice.ensures.value) c.value-item.is (rw here at c.in_ok-item.ensures) c.loop-value.invariant)
