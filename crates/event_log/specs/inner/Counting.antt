-- What proofs use beside the page Counting.
use Rattle.std.specs.Prelude.{Bool, false}
use Rattle.event_log.specs.declared.entry.Entry.{Entry}
use Rattle.event_log.specs.declared.entry.Entry.TheVariants.{Arrival, Take, Settle, Cancel, Deploy}
use Rattle.event_log.specs.Counting.{is_accepted}

-- whether an entry is the arrival of an accepted message
abbrev pub is_acceptance : Entry → Bool
is_acceptance (Arrival conn channel raw told) = is_accepted told
is_acceptance (Take ticket now) = false
is_acceptance (Settle outcome ticket now state) = false
is_acceptance (Cancel number among mask) = false
is_acceptance (Deploy plan) = false
