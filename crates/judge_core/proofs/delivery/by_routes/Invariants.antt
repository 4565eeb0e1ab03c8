use Rattle.std.proofs.Common.{◌≡◌, take}
use Rattle.std.specs.List.{list_any}
use Rattle.judge_core.specs.inner.Outgoing.{listed}
use Rattle.judge_core.specs.Judging.{deliveries_by, is_stopped, open_routes}
use Rattle.judge_core.proofs.delivery.by_routes.Given as goal

abbrev pub invariant-loop-route : goal.invariant-loop-route
invariant-loop-route l = record {
  stopped : l.stopped ≡ list_any (is_stopped l.message) (open_routes (take l.route-index l.routes) l.message);
  all : listed l.all ≡ deliveries_by (take l.route-index l.routes) l.message;
}
