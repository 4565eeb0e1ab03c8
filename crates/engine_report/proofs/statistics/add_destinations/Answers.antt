use Rattle.std.proofs.Common.{ℕ, List, ◌++◌, string_bytes, ap, sym, arith, ◌∙◌}
use Rattle.std.specs.Option.{option_copied}
use Rattle.stat_count.specs.declared.DestinationCounts.{DestinationCounts}
use Rattle.engine_report.specs.Lines.{destination_line}
use Rattle.engine_report.proofs.Placed.{lines-all, lines-more, some-within}
use Rattle.engine_report.proofs.statistics.add_destinations.Goals.{in-Some+in_ok-add_destination, in_default}
use Rattle.engine_report.proofs.statistics.add_destinations.Goals as goal

pub loop-place-preserved : goal.loop-place-preserved
loop-place-preserved c =
    elim c.match-destination.branch [
      | in-Some+in_ok-add_destination w ↦
          let line = λ (name : List ℕ) (counts : DestinationCounts). string_bytes c.loop-place.text ++ destination_line name counts in
          lines-more _ c.args.plan.now.destinations c.loop-place.place w.in-Some.destination.now (string_bytes c.args.text.now) _ _ c.loop-place.invariant
          (sym c.destination.ensures ∙ ap option_copied w.in-Some.is)
          (ap string_bytes w.text-is ∙ (w.in_ok-add_destination.ensures ∙ (ap (λ n. line n w.destination-in-Some.result) w.name.ensures ∙ ap (line w.in-Some.destination.now.name) w.destination-in-Some.ensures.value)))
      | in_default w ↦ absurd (some-within c.args.plan.now.destinations c.loop-place.place (sym c.destination.ensures ∙ ap option_copied w.in_default.is) (omega arith))
    ]

pub returns : goal.returns
returns c = lines-all _ c.args.plan.now.destinations c.loop-place.place _ _ c.loop-place.invariant (omega arith)
