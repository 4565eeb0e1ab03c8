-- What the command line may request.
use Rattle.std.specs.Prelude.{◌≤◌, None, Some}
use Rattle.engine_report.specs.declared.command_line.Request.{Request}
use Rattle.engine_report.specs.declared.command_line.Request.TheVariants.{Answer, Check, Run}

-- the built-in plan, one moment and the longest book: what is requested where there are no words
abbrev pub without_words : Request
without_words = Answer None (Some 1_700_000_000) 1_000_000

-- the requested book holds at least one entry and at most a million, and each channel takes 1 to 9,999 connections
abbrev pub IsWithinLimits : Request → Type 0
IsWithinLimits (Answer plan now events) = (1 ≤ events) × (events ≤ 1_000_000)
IsWithinLimits (Check plan) = Unit {0}
IsWithinLimits (Run plan accept events) = (1 ≤ accept) × (accept ≤ 9_999) × (1 ≤ events) × (events ≤ 1_000_000)
