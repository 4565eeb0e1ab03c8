use Rattle.std.proofs.Common.{◌≡◌}
use Rattle.record_list.proofs.LastLinks.{Written}
use Rattle.record_list.proofs.links.Links.last_head.Given as goal

abbrev pub invariant-loop-d : goal.invariant-loop-d
invariant-loop-d g l = record {
  row : (l.head.number ≡ l.fn.number) × (l.head.mask ≡ l.fn.mask);
  written : Written l.fn.mask l.fn.self.tails l.d l.head.links;
}
