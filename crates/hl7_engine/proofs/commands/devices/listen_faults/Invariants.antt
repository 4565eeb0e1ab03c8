use Rattle.std.proofs.Common.{◌≡◌, Some, map, take}
use Rattle.std.specs.List.{filter_map, zip}
use Rattle.engine_report.specs.Findings.{failed_channel}
use Rattle.engine_report.specs.inner.Findings.{listening}
use Rattle.hl7_engine.proofs.commands.devices.listen_faults.Given as goal

abbrev pub invariant-loop-place : goal.invariant-loop-place
invariant-loop-place g l =
    map listening l.faults.items ≡ map Some (filter_map failed_channel (take l.place (zip l.plan.channels (map g.D.Door.fault_count l.doors))))
