use Rattle.std.proofs.Common.{◌∙◌, sym}
use Rattle.er7_tree.proofs.RoundTrip.{reads_back, escape-step, escape-end, escape-reserved, found_special}
use Rattle.er7_tree.proofs.escapes.escape.Goals as goal

pub push_escaped-requires : goal.push_escaped-requires
push_escaped-requires c = found_special c.args.delims.now c.loop-at.rest.now c.in-Some.at (rw c.special-special.ensures.value at (sym c.first_among.ensures ∙ c.in-Some.is))

pub loop-at-preserved : goal.loop-at-preserved
loop-at-preserved c =
    escape-step c.args.delims.now c.args.value.now c.loop-at.rest.now c.loop-at.out.items c.extend_from_slice.new.self.items c.push_escaped.new.out.items c.in-Some.at
    (rw c.special-special.ensures.value at (sym c.first_among.ensures ∙ c.in-Some.is)) c.in_ok-extend_from_slice.ensures.items c.in_ok-push_escaped.ensures c.loop-at.invariant

pub returns-clause-value : goal.returns-clause-value
returns-clause-value c =
    escape-end c.args.delims.now c.args.value.now c.loop-at.rest.now c.loop-at.out.items c.extend_from_slice-2.new.self.items
    (rw c.special-special.ensures.value at (sym c.first_among.ensures ∙ c.in_default.is)) c.in_ok-extend_from_slice-2.ensures.items c.loop-at.invariant

pub returns-clause-back : goal.returns-clause-back
returns-clause-back c = reads_back c.args.delims.now c.args.value.now c.extend_from_slice-2.new.self.items c.special-special.ensures.declared (returns-clause-value c)

pub returns-clause-bare : goal.returns-clause-bare
returns-clause-bare c = rw (returns-clause-value c) (escape-reserved c.args.delims.now c.special-special.ensures.declared c.args.value.now)
