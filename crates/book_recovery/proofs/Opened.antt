-- Whether a book goes on from the opening of a preface.
use Rattle.std.proofs.Common.{◌≡◌, ◌≢◌, ℕ, List, sym, ap, subst, ◌∙◌}
use Rattle.event_log.specs.History.{History, Snapshot, begun}
use Rattle.book_resume.specs.inner.Resuming.{IsResumable}
use Rattle.opening_records.specs.inner.Openings.{IsEncoding, IsOrderly}
use Rattle.opening_records.proofs.Openings.{one_opening}
use Rattle.opening_records.specs.declared.fault.OpeningFault.{OpeningFault}
use Rattle.opening_records.specs.declared.fault.OpeningFault.TheVariants as faults
use Rattle.book_recovery.specs.inner.Preface.{Preface}
use Rattle.book_recovery.specs.inner.File.{IsOpened, IsOpeningOf}

orderly : (o : Snapshot) → IsResumable o → IsOrderly o
orderly o is = record { counters = is.good.forgotten.statistics; places = is.good.places }

-- bytes that aren't read are those of no opening
pub not_read : (p : Preface) (fault : OpeningFault) → ((o : Snapshot) → IsOrderly o → IsEncoding o p.opening → fault ≡ faults.NoMemory)
    → fault ≢ faults.NoMemory → (o : Snapshot) → IsOpeningOf p o → ⊥
not_read p fault back other o is = other (back o (orderly o is.resumable) is.encoded)

pub not_bound : (p : Preface) (x : Snapshot) → IsEncoding x p.opening → (x.events_max ≡ p.events_max → ⊥) → (o : Snapshot) → IsOpeningOf p o → ⊥
not_bound p x bytes other o is =
    other (ap (λ (y : Snapshot). y.events_max) (one_opening x o p.opening bytes is.encoded) ∙ is.bound)

pub not_good : (p : Preface) (x : Snapshot) → IsEncoding x p.opening → (IsResumable x → ⊥) → (o : Snapshot) → IsOpeningOf p o → ⊥
not_good p x bytes bad o is = bad (subst IsResumable (sym (one_opening x o p.opening bytes is.encoded)) is.resumable)

pub goes_on : (p : Preface) (x : Snapshot) (h : History) → IsEncoding x p.opening → x.events_max ≡ p.events_max → IsResumable x → h ≡ begun x → IsOpened p h
goes_on p x h bytes bound good is = record { opening = x; is = record { encoded = bytes; bound = bound; resumable = good }; history = is }
