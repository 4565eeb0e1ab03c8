use Rattle.std.proofs.Common.{ℕ, List, Some, length, map, refl, ap, sym, arith, ◌∙◌}
use Rattle.std.specs.Prelude.{option_map}
use Rattle.std.specs.List.{filter_map}
use Rattle.std.specs.Option.{option_copied}
use Rattle.std.proofs.Math.ListN.{length-map}
use Rattle.std.proofs.lemmas.Option.{slice_get-map, slice_get_past, slice_get_read}
use Rattle.plan_text.specs.Entries.{ChannelEntry}
use Rattle.engine_report.specs.Findings.{failed_channel}
use Rattle.hl7_engine.proofs.Beside.{filtered-more, length_from_none, zip-past_first, zip-past_second}
use Rattle.hl7_engine.proofs.commands.devices.listen_faults.Goals.{else-loop-place-test, then-loop-place-test+in_default, then-loop-place-test+in_default-2}
use Rattle.hl7_engine.proofs.commands.devices.listen_faults.Goals as goal

pub loop-place-preserved : goal.loop-place-preserved
loop-place-preserved g c =
    let count = g.D.Door.fault_count in
    let doors = c.args.doors.now in
    let place = c.loop-place.place in
    let found = rw c.in-Some-Some.is-1 at c.get.ensures.lookup in
    filtered-more failed_channel Some c.args.plan.now.channels (map count doors) place c.in-Some-Some.channel.now (count c.in-Some-Some.door.now) _ _
    (sym c.channel.ensures ∙ ap option_copied c.in-Some-Some.is-0)
    (slice_get-map count doors place ∙ ap (option_map count) (slice_get_read doors (length doors) place c.in-Some-Some.door.now refl found.3.0 (found.3.1 c.in-Some-Some.door.now)))
    c.loop-place.invariant
    (rw c.faults.ensures at c.in_ok-add_listen_fault.ensures.added)

pub returns : goal.returns
returns g c =
    let count = g.D.Door.fault_count in
    let doors = map count c.args.doors.now in
    let channels = c.args.plan.now.channels in
    let place = c.loop-place.place in
    let told = λ (l : List (ChannelEntry × ℕ)). map Some (filter_map failed_channel l) in
    elim c.loop-place-test.branch [
      | else-loop-place-test w ↦ c.loop-place.invariant ∙ ap told (zip-past_first channels doors place (omega arith))
      | then-loop-place-test+in_default w ↦
          let past = (rw w.in_default.is-1 at w.get.ensures.lookup).3 in
          c.loop-place.invariant ∙ ap told (zip-past_second channels doors place (slice_get_past doors place (omega (arith, past, length-map c.args.doors.now count))))
      | then-loop-place-test+in_default-2 w ↦
          c.loop-place.invariant ∙ ap told (zip-past_first channels doors place (length_from_none channels place (sym w.channel.ensures ∙ ap option_copied w.in_default.is-0)))
    ]
