use Rattle.std.proofs.Common.{◌∙◌}
use Rattle.opening_maps.proofs.SetAside.{never-refused}
use Rattle.opening_maps.proofs.counters.counts_left.Goals as goal

pub unreachable-requires : goal.unreachable-requires
unreachable-requires c =
    never-refused _ c.destinations.result.now c.deref.result.now c.destinations.ensures.all (c.deref.ensures.value ∙ c.in_ok-destinations.ensures) c.in-None.ensures.refused
