-- What proofs use beside the page Rises.
use Rattle.std.specs.Prelude.{◌≡◌, ℕ, ◌+◌, ◌≤◌, length}
use Rattle.stat_count.specs.Statistics.{Statistics}
use Rattle.stat_count.specs.Sums.{arrivals, settlements, takes}
use Rattle.event_log.specs.History.{History, next_place, plan_in_force}
use Rattle.book_lock.specs.Log.{Log}
use Rattle.book_lock.specs.inner.Counts.{count_in, is_arrival, is_settlement, is_take}
use Rattle.book_lock.specs.Rises.{arrived, taken, settled, SharedBook}

-- the same book, shared at the same moment
abbrev pub with_book : SharedBook → History → SharedBook
with_book h book = record h { book = book }

-- a book shared with these statistics, at this index, with that many channels
pub record IsOpened (h : SharedBook) (counts : Statistics) (first channels : ℕ) : Type 0 where
  pub opening : h.opening ≡ counts
  pub all_channels : length h.opening.channels ≡ 64
  pub all_destinations : length h.opening.destinations ≡ 32
  pub first_is : h.first ≡ first
  pub channels_are : length (plan_in_force h.book).channels ≡ channels

-- there were as many arrivals, takes and settlements since the book was shared
pub record IsCounted (h : SharedBook) (made took settled_there : ℕ) : Type 0 where
  pub arrivals_are : arrived h.book ≡ arrivals h.opening + made
  pub takes_are : taken h.book ≡ takes h.opening + took
  pub settlements_are : settled h.book ≡ settlements h.opening + settled_there
  pub since : h.first ≤ next_place h.book

-- as many as the entries of this log have
abbrev pub IsCountedIn : SharedBook → Log → Type 0
IsCountedIn h entries =
    IsCounted h (count_in is_arrival entries) (count_in is_take entries) (count_in is_settlement entries)

-- a shared book, by its parts
abbrev pub shared : History → Statistics → ℕ → ℕ → SharedBook
shared book opening first admitted =
    record { book = book; opening = opening; first = first; admitted = admitted }
