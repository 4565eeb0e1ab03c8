use Rattle.std.proofs.Common.{◌<◌, ◌≤◌, All, MatchOption, length, take}
use Rattle.book_lock.specs.Auditing.{naming}
use Rattle.book_lock.proofs.receipt_audit.least_from.Given as goal

abbrev pub invariant-loop-receipt : goal.invariant-loop-receipt
invariant-loop-receipt l =
    let seen = take l.receipt-index l.receipts in
    MatchOption l.least
    (All (λ r. r.entry < l.from) seen)
    (λ place. (l.from ≤ place) × (0 < length (naming place seen)) × All (λ r. l.from ≤ r.entry → place ≤ r.entry) seen)
