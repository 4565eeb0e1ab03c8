-- What is printed of messages that are tried, and whether all could be read and are not refused.
use Rattle.std.specs.Prelude.{◌≡◌, ◌&&◌, ℕ, Bool, true, false, List, [], ◌∷◌, ◌++◌, codes, slice_get, Some}
use Rattle.std.specs.List.{list_all}
use Rattle.hl7_head.specs.Ack.{cause_text}
use Rattle.judge_core.specs.declared.judged.Verdict.{Verdict}
use Rattle.judge_core.specs.declared.judged.Verdict.TheVariants.{Unreadable, Stray, Refuse, Filtered, Accept}
use Rattle.judge_core.specs.Judging.{verdict}
use Rattle.mllp_frame.specs.Event.{FramingEvent, block, broken}
use Rattle.mllp_frame.specs.Framing.{IsBlockData, blocks}
use Rattle.mllp_frame.specs.inner.Framing.{open_end}
use Rattle.plan_text.specs.Entries.{PlanEntry}
use Rattle.dry_run.specs.inner.Segments.{segments}

-- the word for a verdict
abbrev pub verdict_word : Verdict → List ℕ
verdict_word Unreadable = codes "unreadable"
verdict_word Stray = codes "acknowledgment"
verdict_word (Refuse cause) = codes "refused "
verdict_word Filtered = codes "filtered"
verdict_word (Accept deliveries) = codes "accepted"

-- the name of the cause for which a verdict refuses
abbrev pub cause_word : Verdict → List ℕ
cause_word Unreadable = []
cause_word Stray = []
cause_word (Refuse cause) = cause_text cause
cause_word Filtered = []
cause_word (Accept deliveries) = []

-- the line of a verdict
abbrev pub verdict_line : Verdict → List ℕ
verdict_line v = codes "verdict: " ++ (verdict_word v ++ (cause_word v ++ 10 ∷ []))

-- whether a message could be read and is not refused
abbrev pub is_taken : Verdict → Bool
is_taken Unreadable = false
is_taken Stray = true
is_taken (Refuse cause) = false
is_taken Filtered = true
is_taken (Accept deliveries) = true

-- behind what was printed before, the verdict's line was printed, and more behind it
pub record Tells (old new : List ℕ) (v : Verdict) : Type 0 where
  pub details : List ℕ
  pub told : new ≡ old ++ (verdict_line v ++ details)

-- whether an event is a block whose message could be read and is not refused
abbrev pub event_taken : PlanEntry → ℕ → FramingEvent → Bool
event_taken plan channel (block raw) = is_taken (verdict plan channel raw)
event_taken plan channel (broken cause) = false

-- whether a text could be read and is not refused; what no block can hold couldn't be read
pub record IsTextTaken (plan : PlanEntry) (channel : ℕ) (text : List ℕ) (taken : Bool) : Type 0 where
  pub fits : IsBlockData text → taken ≡ is_taken (verdict plan channel text)
  pub fits_not : ¬ (IsBlockData text) → taken ≡ false

-- Whether each message of an input could be read and is not refused. Of blocks where its first byte is 0x0B: the last has to
-- end before the input does, or one more start block character would break it.
pub record IsInputTaken (plan : PlanEntry) (channel : ℕ) (input : List ℕ) (taken : Bool) : Type 0 where
  pub in_blocks : slice_get input 0 ≡ Some 11
      → taken ≡ (list_all (event_taken plan channel) (blocks input) && list_all (event_taken plan channel) (blocks (open_end input ++ 11 ∷ [])))
  pub as_text : ¬ (slice_get input 0 ≡ Some 11) → IsTextTaken plan channel (segments false input) taken
