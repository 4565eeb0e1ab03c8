-- The opening of the parts that were decoded.
use Rattle.std.specs.Prelude.{◌≡◌}
use Rattle.event_log.specs.History.{Snapshot}
use Rattle.opening_records.specs.declared.reading.Parts.{Parts}
use Rattle.opening_records.specs.inner.Encoding.{Written}
use Rattle.opening_records.specs.inner.Openings.{IsDocumentOf, written}

-- the parts of an opening
abbrev pub written_of : Parts → Written
written_of p = record {
  head = p.head;
  document = p.document.items;
  channels = p.channels.items;
  destinations = p.destinations.items;
  remembered = p.remembered.items;
}

-- an opening that is written so
pub record IsSnapshotOf (w : Written) (o : Snapshot) : Type 0 where
  pub is : w ≡ written w.document o
  pub plan : IsDocumentOf o w.document
