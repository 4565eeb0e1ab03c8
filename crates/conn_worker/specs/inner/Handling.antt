-- What handling an event adds to a dialogue.
use Rattle.std.specs.Prelude.{◌≡◌, ◌≤◌, ◌*◌, ℕ, List, ◌++◌, length, ⊤}
use Rattle.std.specs.List.{AllByRecursion}
use Rattle.book_core.specs.declared.receipt.Receipt.{Receipt}
use Rattle.mllp_frame.specs.Event.{FramingEvent}
use Rattle.conn_worker.specs.declared.report.ServeEnd.{ServeEnd}
use Rattle.conn_worker.specs.declared.report.ServeEnd.TheVariants.{NoMemory, TurnBound}
use Rattle.conn_worker.specs.declared.dialogue.Progress.{Progress}
use Rattle.conn_core.specs.Replies.{Answer, dues, replies}
use Rattle.conn_worker.specs.Serving.{IsKnownIfRepeated, ReportsServing}

-- The dialogue is at the point where these events were handled and this text was written. The receipts of their
-- messages, and of no others, were booked, as `books` says it, and handed in, as `has` says it. What was answered as a repeat
-- without being booked is known, as `knows` says it.
pub record Stands {B K : Type 0} (books : B → List Receipt → Type 0) (knows : B → ℕ → List ℕ → Type 0) (has : K → List Receipt → Type 0) (conn channel : ℕ)
    (events : List FramingEvent) (text : List ℕ) (book : B) (d : Progress K) : Type 0 where
  pub receipts : List Receipt
  pub booked : books book receipts
  pub kept : has d.report.receipts receipts
  pub answers : List Answer
  pub known : AllByRecursion (IsKnownIfRepeated (knows book channel)) answers
  pub tells : ReportsServing conn channel events answers receipts d.report
  pub replies : replies conn answers ≡ text ++ d.replies.bytes
  pub made : d.replies.made ≡ length (dues answers)

-- Each counter is within the number of events, and each event brings two acknowledgments at most.
pub record Fits {K : Type 0} (d : Progress K) : Type 0 where
  pub unreadable_ones : d.report.unreadable ≤ d.events
  pub stray_ones : d.report.strays ≤ d.events
  pub broken_ones : d.report.breaks ≤ d.events
  pub unbooked : d.report.unbooked ≤ d.events
  pub made : d.replies.made ≤ 2 * d.events

-- From one dialogue to another, and from one book to another, all of these events were handled: whatever was handled since
-- the first book, they come behind it.
abbrev pub HandlesAll : {B K : Type 0} → (B → B → List Receipt → Type 0) → (B → ℕ → List ℕ → Type 0) → (K → List Receipt → Type 0) → ℕ → ℕ → List FramingEvent
    → B → B → Progress K → Progress K → Type 0
HandlesAll {B} books knows has conn channel events book book' old new =
    (first : B) (before : List FramingEvent) (text : List ℕ) → Stands (books first) knows has conn channel before text book old
    → Stands (books first) knows has conn channel (before ++ events) text book' new

-- The dialogue is at the point where the first of these events were handled, with some replies missing.
pub record StandsAmid {B K : Type 0} (books : B → List Receipt → Type 0) (knows : B → ℕ → List ℕ → Type 0) (has : K → List Receipt → Type 0) (conn channel : ℕ)
    (before events : List FramingEvent) (text : List ℕ) (book : B) (d : Progress K) : Type 0 where
  pub handled : List FramingEvent
  pub later : List FramingEvent
  pub whole : events ≡ handled ++ later
  pub receipts : List Receipt
  pub booked : books book receipts
  pub kept : has d.report.receipts receipts
  pub answers : List Answer
  pub known : AllByRecursion (IsKnownIfRepeated (knows book channel)) answers
  pub tells : ReportsServing conn channel (before ++ handled) answers receipts d.report
  pub missing : List ℕ
  pub replies : replies conn answers ≡ text ++ (d.replies.bytes ++ missing)

-- From one dialogue to another, and from one book to another, the first of these events were handled.
abbrev pub HandlesFront : {B K : Type 0} → (B → B → List Receipt → Type 0) → (B → ℕ → List ℕ → Type 0) → (K → List Receipt → Type 0) → ℕ → ℕ → List FramingEvent
    → B → B → Progress K → Progress K → Type 0
HandlesFront {B} books knows has conn channel events book book' old new =
    (first : B) (before : List FramingEvent) (text : List ℕ) → Stands (books first) knows has conn channel before text book old
    → StandsAmid (books first) knows has conn channel before events text book' new

-- how handling events stops
abbrev pub StopsHandling : ServeEnd → Type 0
StopsHandling NoMemory = ⊤
StopsHandling TurnBound = ⊤
StopsHandling _ = ⊥
