-- The text of a moment.
use Rattle.std.specs.Prelude.{ℕ, ◌+◌, ◌/◌, ◌%◌, List, [], ◌∷◌, ◌++◌, codes}
use Rattle.hl7_head.specs.Calendar.{CivilDate, civil_date}

-- the last two decimal digits of a number; the digit 0 is the character 48
abbrev pub two_digits : ℕ → List ℕ
two_digits n = (48 + n / 10 % 10) ∷ (48 + n % 10) ∷ []

-- the last four
abbrev pub four_digits : ℕ → List ℕ
four_digits n = two_digits (n / 100) ++ two_digits (n % 100)

-- year, month and day
abbrev pub date_text : CivilDate → List ℕ
date_text d = four_digits d.year ++ two_digits d.month ++ two_digits d.day

-- hour, minute and second, of the seconds since midnight: 3600 are an hour, and 60 a minute
abbrev pub time_text : ℕ → List ℕ
time_text seconds = two_digits (seconds / 3600) ++ two_digits (seconds / 60 % 60) ++ two_digits (seconds % 60)

-- the moment of that many seconds since 1970, year to second, in UTC; a day has 86400 seconds
abbrev pub stamp : ℕ → List ℕ
stamp seconds = date_text (civil_date (seconds / 86400)) ++ time_text (seconds % 86400) ++ codes "+0000"
