use Rattle.std.proofs.Common.{rules, arith, sym, ap, ◌∙◌}
use Rattle.record_list.proofs.LastLinks.{links_stand, links_set, links_skip}
use Rattle.record_list.proofs.links.Links.last_head.Goals as goal
use Rattle.record_list.proofs.links.Links.last_head.Goals.{then-stands, else-stands}

pub loop-d-init : goal.loop-d-init
loop-d-init g c = record { row = c.in_ok-head.ensures.row; written = (λ e lt. absurd (omega (arith, lt)), λ e le more. c.in_ok-head.ensures.links e more) }

pub set-requires-clause-stands : goal.set-requires-clause-stands
set-requires-clause-stands g c = links_stand c.args.mask c.args.self.now.tails c.loop-d.d c.loop-d.head.links c.loop-d.invariant.written (search rules) (sym c.stands.ensures ∙ c.if-stands.true)

pub loop-d-preserved : goal.loop-d-preserved
loop-d-preserved g c = elim c.if-stands.branch [
  | then-stands w ↦
      let is = w.head-is ∙ w.set.ensures in
      record {
        row = (ap (λ h. h.number) is ∙ c.loop-d.invariant.row.0, ap (λ h. h.mask) is ∙ c.loop-d.invariant.row.1);
        written = links_set c.args.mask c.args.self.now.tails c.loop-d.d c.loop-d.head.links c.if-stands.head.links c.loop-d.invariant.written (search rules) (sym c.stands.ensures ∙ w.if-stands.true) (ap (λ h. h.links) is);
      }
  | else-stands w ↦ record {
    row = (ap (λ h. h.number) w.head-is ∙ c.loop-d.invariant.row.0, ap (λ h. h.mask) w.head-is ∙ c.loop-d.invariant.row.1);
    written = links_skip c.args.mask c.args.self.now.tails c.loop-d.d c.loop-d.head.links c.if-stands.head.links c.loop-d.invariant.written (search rules) (sym c.stands.ensures ∙ w.if-stands.false) (ap (λ h. h.links) w.head-is);
  }
]
