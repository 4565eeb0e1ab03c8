-- The keys of remembered arrivals.
use Rattle.std.specs.Prelude.{◌≡◌, false, List, AllPairs}
use Rattle.judge_core.specs.Judging.{key_of}
use Rattle.dup_index.specs.inner.Known.{Known}
use Rattle.event_log.specs.Answers.{has_key}
use Rattle.event_log.specs.History.{Remembered}

-- the key of an arrival, with its index
abbrev pub known_as : Remembered → Known
known_as r = record { key = key_of r.channel r.raw; place = r.place }

-- no two arrivals have the same key
abbrev pub AreApart : List Remembered → Type 0
AreApart arrivals = AllPairs (λ r s. has_key (key_of r.channel r.raw) s ≡ false) arrivals
