use Rattle.std.proofs.Common.{◌≡◌}
use Rattle.event_log.specs.Answers.{waits_among}
use Rattle.event_log.proofs.Masks.{mask_below}
use Rattle.sequential_book.proofs.engine.SequentialBook.waiting_mask.Given as goal

abbrev pub invariant-loop-d : goal.invariant-loop-d
invariant-loop-d l = l.mask ≡ mask_below l.d (waits_among l.self l.number l.among)
