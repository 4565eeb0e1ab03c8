use Rattle.std.proofs.Common.{◌≡◌, ◌+◌, false, map, length, IsSome}
use Rattle.sqlite_trees.specs.View.{IsClean, IsQuiet}
use Rattle.event_store.specs.Records.{contents_of}
use Rattle.event_store.specs.inner.Reading.{HasRead, OnlyReads}
use Rattle.event_store.proofs.read.read.Given as goal

abbrev pub invariant-loop-number : goal.invariant-loop-number
invariant-loop-number g l =
    IsSome ((g.S.Store.view l.store).cursors 0)
    × (IsClean (g.S.Store.view l.store) → OnlyReads (g.S.Store.view l.fn.store) (g.S.Store.view l.store)
    × HasRead l.first (g.S.Store.view l.fn.store) (g.S.Store.view l.store) (map contents_of l.all.items)
    × ((g.S.Store.view l.fn.store).is_broken ≡ false))
    × IsQuiet g.S.Store.view g.S.Store.faults g.S.Store.recovers g.S.Store.is_shielded l.fn.store l.store
    × (l.number ≡ l.first + length l.all.items)
