-- What a refused close hands back.
use Rattle.std.specs.Prelude.{◌≡◌, List}
use Rattle.book_lock.specs.Shares.{DeskView, StationView}
use Rattle.book_lock.specs.declared.shared.NotClosed.{NotClosed}
use Rattle.book_lock.specs.declared.shared.Shared.{Shared}
use Rattle.book_lock.specs.declared.shared.NotClosed.TheVariants.{SharesMissing}

-- the desks and the stations that were handed in are returned, and a shared book with the very bells and the very
-- note that it had
abbrev pub HandsBack : {A S : Type 0} → Shared A S → List DeskView → List StationView → NotClosed A S → Type 0
HandsBack old desks stations (SharesMissing shared d s) =
    (d.items ≡ desks) × (s.items ≡ stations) × (shared.bells ≡ old.bells) × (shared.finished ≡ old.finished)
