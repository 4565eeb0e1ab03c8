-- What proofs use beside the page Room.
use Rattle.std.specs.Prelude.{ℕ, if◌then◌else◌}
use Rattle.event_log.specs.History.{History}
use Rattle.event_log.specs.Room.{total, is_in_flight}

-- how many attempts are under way
abbrev pub in_flight : History → ℕ
in_flight h = total (λ d state. if is_in_flight state then 1 else 0) h
