-- The opening of bytes, by the parts that are decoded.
use Rattle.std.proofs.Common.{◌≡◌, ℕ, true, false, List, map, Result, Ok, Err, IsUtf8, refl, sym, ap, subst, ◌∙◌}
use Rattle.std.specs.Result.{is_ok}
use Rattle.std.specs.List.Sorted.{IsStrictlyIncreasing}
use Rattle.plan_text.specs.Document.{plan_in}
use Rattle.plan_text.specs.Entries.{PlanEntry}
use Rattle.stat_count.specs.Statistics.{Statistics}
use Rattle.stat_count.specs.inner.Statistics.{IsStatistics, are_statistics}
use Rattle.event_log.specs.History.{Remembered, Snapshot}
use Rattle.event_records.specs.inner.Fields.{AreBytes}
use Rattle.event_records.proofs.Only.{got}
use Rattle.opening_records.specs.declared.fault.OpeningFault.{OpeningFault}
use Rattle.opening_records.specs.declared.fault.OpeningFault.TheVariants.{NoMemory, TooLong, NotAnOpening}
use Rattle.opening_records.specs.inner.Encoding.{Written, opening_bytes}
use Rattle.opening_records.specs.inner.Openings.{Fits, IsDocumentOf, IsEncoding, IsOrderly, written}
use Rattle.opening_records.specs.inner.Decoding.{Refuses, opening_in}
use Rattle.opening_records.specs.inner.Reading.{IsSnapshotOf}
use Rattle.opening_records.proofs.Back.{opening_back}
use Rattle.opening_records.proofs.Only.{opening_only}
use Rattle.opening_records.proofs.Openings.{same_opening, statistics_are}

-- ---- bytes and parts

-- an opening whose bytes are decoded is one of the parts
pub decoded : (bytes : List ℕ) (w : Written) (o : Snapshot) → opening_in bytes ≡ Ok w → IsEncoding o bytes → IsSnapshotOf w o
decoded bytes w o e is =
    let again : opening_in bytes ≡ Ok (written is.0 o) = ap opening_in is.1.is ∙ opening_back (written is.0 o) is.1.fits in
    let same : written is.0 o ≡ w = got _ _ (sym again ∙ e) in
    subst (λ (x : Written). IsSnapshotOf x o) same (record { is = refl; plan = is.1.plan })

-- the bytes of which an opening's parts are decoded are those of the opening
pub encoded : (bytes : List ℕ) (w : Written) (o : Snapshot) → AreBytes bytes → opening_in bytes ≡ Ok w → IsSnapshotOf w o → IsEncoding o bytes
encoded bytes w o are e is =
    let whole = opening_only bytes w are e in
    (w.document, record { plan = is.plan; fits = subst Fits is.is whole.fits; is = whole.is ∙ ap opening_bytes is.is })

-- decoding fails at an opening's bytes where memory is refused, and only there
pub refused : (fault : OpeningFault) (bytes : List ℕ) (o : Snapshot) → Refuses fault (opening_in bytes) → IsEncoding o bytes → fault ≡ NoMemory
refused NoMemory bytes o fails is = refl
refused TooLong bytes o fails is = absurd fails
refused (NotAnOpening at reason) bytes o fails is =
    let again : opening_in bytes ≡ Ok (written is.0 o) = ap opening_in is.1.is ∙ opening_back (written is.0 o) is.1.fits in
    let yes : is_ok (opening_in bytes) ≡ true = ap is_ok again in
    absurd (cc)

-- ---- parts and openings

-- the opening of parts, a plan and counters
abbrev pub made_of : Written → PlanEntry → Statistics → Snapshot
made_of w plan counters = record {
  plan = plan;
  events_max = w.head.events_max;
  places = w.head.places;
  messages = w.head.messages;
  deployments = w.head.deployments;
  prunings = w.head.prunings;
  forgotten = counters;
  remembered = w.remembered;
}

-- the counters are those of the parts
pub record AreCounters (w : Written) (counters : Statistics) : Type 0 where
  pub channels : counters.channels ≡ w.channels
  pub destinations : counters.destinations ≡ w.destinations

abbrev pub counters_of : Written → Statistics
counters_of w = record { channels = w.channels; destinations = w.destinations }

rewritten : (w : Written) (plan : PlanEntry) (counters : Statistics) → AreCounters w counters → w ≡ written w.document (made_of w plan counters)
rewritten w plan counters are = rw (are.channels, are.destinations) refl

pub is_made : (w : Written) (plan : PlanEntry) (counters : Statistics) → AreCounters w counters → IsUtf8 w.document → plan_in w.document ≡ Ok plan → IsSnapshotOf w (made_of w plan counters)
is_made w plan counters are text read = record { is = rewritten w plan counters are; plan = record { text = text; plan = read } }

pub made_only : (w : Written) (plan : PlanEntry) (counters : Statistics) → AreCounters w counters → IsUtf8 w.document → plan_in w.document ≡ Ok plan
    → (o : Snapshot) → IsSnapshotOf w o → made_of w plan counters ≡ o
made_only w plan counters are text read o is =
    same_opening w.document w.document (made_of w plan counters) o (record { text = text; plan = read }) is.plan (sym (rewritten w plan counters are) ∙ is.is)

pub counters_only : (w : Written) (o : Snapshot) → IsOrderly o → IsSnapshotOf w o → are_statistics (counters_of w) ≡ true
counters_only w o orderly is = subst (λ (x : Written). are_statistics (counters_of x) ≡ true) (sym is.is) (statistics_are o.forgotten orderly.counters)

pub places_only : (w : Written) (o : Snapshot) → IsOrderly o → IsSnapshotOf w o → IsStrictlyIncreasing (map (λ (r : Remembered). r.place) w.remembered)
places_only w o orderly is = subst (λ (x : Written). IsStrictlyIncreasing (map (λ (r : Remembered). r.place) x.remembered)) (sym is.is) orderly.places
