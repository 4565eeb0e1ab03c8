-- A book is kept that goes on from an opening.
use Rattle.std.proofs.Common.{◌≡◌, ℕ, List, map, sym, subst, arith}
use Rattle.row_store.specs.declared.Row.{Row}
use Rattle.dest_queue.specs.declared.slots.Queued.{Queued}
use Rattle.dup_index.specs.inner.Known.{Known}
use Rattle.stat_count.specs.Statistics.{Statistics}
use Rattle.event_log.specs.History.{Snapshot, begun}
use Rattle.event_log.proofs.Beginning.{begun-sound}
use Rattle.book_core.specs.declared.letter.Outbound.{Outbound}
use Rattle.book_core.specs.inner.Counting.{AreCounted}
use Rattle.book_core.specs.inner.Parts.{IsKept, KeysAgree}
use Rattle.book_resume.specs.inner.Resuming.{IsResumable}
use Rattle.book_resume.specs.inner.Counters.{counted_with}
use Rattle.book_resume.specs.inner.Keys.{known_as}
use Rattle.book_resume.specs.inner.Rows.{AreRowsOf}
use Rattle.book_resume.proofs.Climbing.{numbers-climb}
use Rattle.book_resume.proofs.CountsBegun.{counts-begun}
use Rattle.book_resume.proofs.KeysBegun.{keys-begun}
use Rattle.book_resume.proofs.OwedBegun.{in_flight-begun}
use Rattle.book_resume.proofs.RowsBegun.{rows-begun}

pub kept-begun : (o : Snapshot) (rows : List (Row (Queued Outbound))) (index : List Known) (tally : Statistics) (room : ℕ) → IsResumable o
    → AreRowsOf o.remembered rows → index ≡ map known_as o.remembered → tally ≡ counted_with o → IsKept (begun o) rows index tally 0 room
kept-begun o rows index tally room may are keys counts =
    let none = in_flight-begun o may.good.memories (numbers-climb o may.good) may.at_rest in record {
      sound = begun-sound o may.good;
      rows_agree = rows-begun o may.good rows are;
      keys_agree = subst (KeysAgree (begun o)) (sym keys) (keys-begun o);
      are_counted = subst (AreCounted (begun o)) (sym counts) (counts-begun o may.good.memories (numbers-climb o may.good) may.good.forgotten.settled may.good.forgotten.statistics.all_channels);
      flights_are = sym none;
      reserved = omega arith;
      bound = may.events_few;
    }
