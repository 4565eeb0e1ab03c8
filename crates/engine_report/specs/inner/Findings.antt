-- What proofs use beside the page Findings.
use Rattle.std.specs.Prelude.{◌≡◌, ℕ, List, Option, None, Some, string_bytes, slice_get}
use Rattle.plan_text.specs.Entries.{ChannelEntry}
use Rattle.engine_report.specs.declared.fault.Fault.{Fault}
use Rattle.engine_report.specs.declared.fault.Fault.TheVariants as fault

-- the channel that a fault of listening names
abbrev pub listening : Fault → Option (List ℕ)
listening (fault.Listen name) = Some (string_bytes name)
listening _ = None

-- a fault that names a channel of these
abbrev pub NamesChannel : List ChannelEntry → Fault → Type 0
NamesChannel channels f =
    (place : ℕ) × (channel : ChannelEntry) × (slice_get channels place ≡ Some channel) × (listening f ≡ Some channel.name)
