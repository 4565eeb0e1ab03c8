use Rattle.std.proofs.Common.{◌≡◌, ◌+◌, ◌-◌, ◌∙◌, ap, arith}
use Rattle.std.proofs.lemmas.Bool.{eqb-true}
use Rattle.lane_scan.specs.inner.Scan.{bits_of, piece}
use Rattle.lane_scan.proofs.Bits.{empty-nowhere}
use Rattle.delivery_worker.proofs.data.lacks.Goals as goal

pub returns : goal.returns
returns c none =
    let group : 64 ≡ (c.args.at + 64) - c.args.at = omega arith in
    empty-nowhere c.args.byte c.args.at (c.args.at + 64) c.lanes.result c.args.text.now (record {
      ordered = omega arith;
      within = c.requires;
      short = omega arith;
      said = c.lanes.ensures ∙ ap (λ n. bits_of c.args.byte (piece c.args.at n c.args.text.now)) group;
    }) (eqb-true _ _ none)
