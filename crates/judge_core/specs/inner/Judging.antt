-- What proofs use beside the page Judging.
use Rattle.std.specs.Prelude.{Bool, true, false}
use Rattle.judge_core.specs.declared.judged.Verdict.{Verdict}
use Rattle.judge_core.specs.declared.judged.Verdict.TheVariants.{Unreadable, Stray, Refuse, Filtered, Accept}

-- only what is answered is booked
abbrev pub is_booked : Verdict → Bool
is_booked Unreadable = false
is_booked Stray = false
is_booked (Refuse cause) = true
is_booked Filtered = true
is_booked (Accept deliveries) = true
