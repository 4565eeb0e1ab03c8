use Rattle.std.proofs.Common.{◌≡◌}
use Rattle.delivery_worker.proofs.tcp_link.TcpLink.write.Given as goal

-- no fault is counted
abbrev pub invariant-writes : goal.invariant-writes
invariant-writes g l = l.self ≡ l.fn.self
