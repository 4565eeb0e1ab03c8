use Rattle.std.proofs.Common.{◌≡◌, vec_len}
use Rattle.engine_workers.specs.inner.Order.{AreFrom}
use Rattle.hl7_engine.proofs.commands.devices.make_links.Given as goal

abbrev pub invariant-loop-index : goal.invariant-loop-index
invariant-loop-index g l = (vec_len l.links ≡ l.index) × AreFrom (λ link. link.leads_to) 0 l.links.items
