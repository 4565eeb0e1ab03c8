-- What the command line may ask.
use Rattle.std.specs.Prelude.{◌≤◌}
use Rattle.service_words.specs.declared.command_line.Request.{Request}
use Rattle.service_words.specs.declared.command_line.Request.TheVariants.{Ask, Check, Run, Try}

-- the numbers of `run` are within the bounds of their options
abbrev pub IsWithinLimits : Request → Type 0
IsWithinLimits (Run plan keeping connections events keep idle grace show answer_text http http_names) =
    (1 ≤ connections) × (connections ≤ 1_000) × (1 ≤ events) × (events ≤ 1_000_000) × (keep ≤ 1_000_000) × (idle ≤ 86_400) × (grace ≤ 3_600)
IsWithinLimits (Try plan channel) = Unit {0}
IsWithinLimits (Check plan verbose) = Unit {0}
IsWithinLimits (Ask folder) = Unit {0}
