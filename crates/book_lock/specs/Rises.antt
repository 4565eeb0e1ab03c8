-- What rose since the book was shared.
use Rattle.std.specs.Prelude.{◌≡◌, ℕ, ◌-◌, List}
use Rattle.stat_count.specs.Statistics.{Statistics}
use Rattle.stat_count.specs.Sums.{arrivals, settlements, takes}
use Rattle.event_log.specs.History.{History}
use Rattle.event_log.specs.Counting.{counted}
use Rattle.book_lock.specs.Shares.{DeskView, StationView, arrivals_of, settlements_of, takes_of}

-- the arrivals of a book, by its statistics
unfoldable pub arrived : History → ℕ
arrived h = arrivals (counted h)

-- the takes
unfoldable pub taken : History → ℕ
taken h = takes (counted h)

-- the settlements
unfoldable pub settled : History → ℕ
settled h = settlements (counted h)

-- a shared book: the book, the statistics and the next index that it had when it was shared, and how many connections
-- were admitted since
pub record SharedBook : Type 0 where
  pub book : History
  pub opening : Statistics
  pub first : ℕ
  pub admitted : ℕ

-- the arrivals, the takes and the settlements since the book was shared
abbrev pub arrivals_rise : SharedBook → ℕ
arrivals_rise h = arrived h.book - arrivals h.opening

abbrev pub takes_rise : SharedBook → ℕ
takes_rise h = taken h.book - takes h.opening

abbrev pub settlements_rise : SharedBook → ℕ
settlements_rise h = settled h.book - settlements h.opening

-- the shares of these desks and stations add up to the three rises
pub record AddsUp (h : SharedBook) (desks : List DeskView) (stations : List StationView) : Type 0 where
  pub desks_made : arrivals_of desks ≡ arrivals_rise h
  pub stations_took : takes_of stations ≡ takes_rise h
  pub stations_settled : settlements_of stations ≡ settlements_rise h
