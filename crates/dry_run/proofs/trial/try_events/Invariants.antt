use Rattle.std.proofs.Common.{◌≡◌, ◌&&◌, length}
use Rattle.std.specs.Arc.{arc_value}
use Rattle.std.specs.List.{list_all}
use Rattle.dry_run.specs.inner.Trying.{event_taken}
use Rattle.dry_run.proofs.trial.try_events.Given as goal

-- what the events so far came to, and those to come
abbrev pub invariant-events : goal.invariant-events
invariant-events g l =
    record {
      taken : list_all (event_taken (arc_value l.trial.plan) l.trial.channel) l.fn.framer.to_come ≡ (l.all && list_all (event_taken (arc_value l.trial.plan) l.trial.channel) l.framer.to_come);
      same : l.framer ≡ record l.fn.framer { to_come = l.framer.to_come };
    }

abbrev pub decreases-events : goal.decreases-events
decreases-events g l = length l.framer.to_come
