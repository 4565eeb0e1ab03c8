-- The Gregorian calendar, by counting days.
use Rattle.std.specs.Prelude.{ℕ, zero, suc, ◌+◌, ◌-◌, ◌%◌, Bool, not, ◌&&◌, ◌||◌, ◌==◌, nat_lt, if◌then◌else◌}

-- every fourth year, but of the centuries only every fourth
abbrev pub is_leap_year : ℕ → Bool
is_leap_year year = (year % 4 == 0) && (not (year % 100 == 0) || (year % 400 == 0))

-- the days of a year
abbrev pub days_in_year : ℕ → ℕ
days_in_year year = if is_leap_year year then 366 else 365

-- thirty days have September, April, June and November
abbrev pub days_in_month : ℕ → ℕ → ℕ
days_in_month year month =
    if month == 2 then (if is_leap_year year then 29 else 28)
    else (if (month == 4) || (month == 6) || (month == 9) || (month == 11) then 30 else 31)

-- a date of that calendar; months and days count from 1
pub record CivilDate : Type 0 where
  pub year : ℕ
  pub month : ℕ
  pub day : ℕ

-- the date that lies that many days after the first of a month, within the year; at most n months on
unfoldable pub date_in_year : ℕ → ℕ → ℕ → ℕ → CivilDate
date_in_year zero year month days = record { year = year; month = month; day = days + 1 }
date_in_year (suc n) year month days =
    if nat_lt days (days_in_month year month) then record { year = year; month = month; day = days + 1 }
    else date_in_year n year (month + 1) (days - days_in_month year month)

-- the date that lies that many days after 1 January of a year; at most n years on
unfoldable pub date_from : ℕ → ℕ → ℕ → CivilDate
date_from zero year days = date_in_year 12 year 1 days
date_from (suc n) year days =
    if nat_lt days (days_in_year year) then date_in_year 12 year 1 days
    else date_from n (year + 1) (days - days_in_year year)

-- the years that moments lie in
abbrev pub FIRST_YEAR : ℕ
FIRST_YEAR = 1970

abbrev pub LAST_YEAR : ℕ
LAST_YEAR = 9998

-- the date of a day number: day 0 is 1 January of the first year
abbrev pub civil_date : ℕ → CivilDate
civil_date days = date_from (LAST_YEAR + 1 - FIRST_YEAR) FIRST_YEAR days
