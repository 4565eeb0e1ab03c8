-- What holds between two pieces of a connection's stream.
use Rattle.std.specs.Prelude.{◌≡◌, ◌≤◌, ◌<◌, ℕ, List, [], Option, vec_len}
use Rattle.std.specs.Io.KnownBytes.{Consumes, Appends}
use Rattle.book_core.specs.declared.receipt.Receipt.{Receipt}
use Rattle.conn_worker.specs.inner.Handling.{Fits, Stands}
use Rattle.conn_worker.specs.declared.dialogue.Progress.{Progress}
use Rattle.mllp_frame.specs.inner.Framed.{blank}
use Rattle.mllp_frame.specs.Framing.{blocks}
use Rattle.mllp_frame.specs.inner.Framing.{open_end}
use Rattle.conn_worker.specs.declared.session.Session.{Session}

-- There is room for the next piece, nothing is left of the last one, and the counters are within their bounds.
pub record IsReady {K : Type 0} (s : Session K) : Type 0 where
  pub room : 0 < vec_len s.buffer
  pub none_left : s.framer.to_come ≡ []
  pub fits : Fits s.dialogue
  pub few : s.dialogue.events ≤ s.events_max
  pub bound : s.events_max ≤ 1_000_000_000

-- Nothing was handled yet, and no receipt handed in.
pub record IsNew {K : Type 0} (has : K → List Receipt → Type 0) (d : Progress K) : Type 0 where
  pub receipts : has d.report.receipts []
  pub unbooked : d.report.unbooked ≡ 0
  pub unreadable_ones : d.report.unreadable ≡ 0
  pub stray_ones : d.report.strays ≡ 0
  pub broken_ones : d.report.breaks ≡ 0
  pub made : d.replies.made ≡ 0
  pub bytes : d.replies.bytes ≡ []

-- Nothing was read yet.
pub record IsFresh {K : Type 0} (has : K → List Receipt → Type 0) (s : Session K) : Type 0 where
  pub framer : s.framer ≡ blank
  pub dialogue : IsNew has s.dialogue

-- Between two pieces: all events of the bytes read were handled, and all their replies written.
pub record SoFar {B K : Type 0} (books : B → List Receipt → Type 0) (knows : B → ℕ → List ℕ → Type 0) (has : K → List Receipt → Type 0) (conn channel : ℕ)
    (to_read left held holds : Option (List ℕ)) (book : B) (s : Session K) : Type 0 where
  pub read : List ℕ
  pub reads : Consumes to_read left read
  pub none_left : s.framer.to_come ≡ []
  pub left_open : s.framer.open_end ≡ open_end read
  pub written : List ℕ
  pub wrote : Appends held holds written
  pub stands : Stands books knows has conn channel (blocks read) written book s.dialogue
  pub all_written : s.dialogue.replies.bytes ≡ []
