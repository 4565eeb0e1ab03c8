use Rattle.std.proofs.Common.{◌≡◌}
use Rattle.delivery_worker.proofs.tcp_link.TcpLink.open_patiently.Given as goal

-- no fault is counted
abbrev pub invariant-waits : goal.invariant-waits
invariant-waits g l = l.self ≡ l.fn.self
