-- What is shown of a shared book.
use Rattle.std.specs.Prelude.{◌≡◌, ◌≤◌, ◌<◌, ◌+◌, ◌-◌, ℕ, Some, length, slice_get}
use Rattle.std.specs.List.{range_with_len}
use Rattle.event_log.specs.Counting.{counted}
use Rattle.event_log.specs.Deployment.{deployments}
use Rattle.event_log.specs.History.{message_count, remaining}
use Rattle.event_log.specs.Room.{owed}
use Rattle.book_core.specs.inner.Questions.{first_live, front_at}
use Rattle.book_lock.specs.declared.status.Gauge.{Gauge}
use Rattle.book_lock.specs.declared.status.Status.{Status}
use Rattle.book_lock.specs.Rises.{SharedBook}

-- how full the book is
pub record IsGauge (h : SharedBook) (g : Gauge) : Type 0 where
  pub held : g.held ≡ length h.book.entries
  pub owed : g.owed ≡ owed h.book
  pub events_max : g.events_max ≡ h.book.opening.events_max
  pub within : g.held + g.owed ≤ g.events_max
  pub messages : g.messages ≡ message_count h.book
  pub first : g.first ≤ g.messages
  pub rest : remaining h.book ≡ range_with_len g.first (g.messages - g.first)
  pub prunings : g.prunings ≡ h.book.opening.prunings
  pub deployments : g.deployments ≡ deployments h.book
  pub admitted : g.admitted ≡ h.admitted

-- that, the statistics, the front of each queue and the first message that is still to be delivered, all of the one book
pub record IsStatus (h : SharedBook) (s : Status) : Type 0 where
  pub gauge : IsGauge h s.gauge
  pub counts : s.counts ≡ counted h.book
  pub fronts : (d : ℕ) → d < 32 → slice_get s.fronts d ≡ Some (front_at h.book d)
  pub first_live : s.first_live ≡ first_live h.book
