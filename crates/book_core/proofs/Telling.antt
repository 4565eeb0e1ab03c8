-- The answer to a message that is booked, by its key.
use Rattle.std.proofs.Common.{◌≡◌, ℕ, Bool, true, false, List, Option, None, Some, refl, sym, ◌∙◌, ap}
use Rattle.std.specs.Prelude.{if◌then◌else◌, option_and_then}
use Rattle.std.specs.Option.{option_map_or}
use Rattle.dup_index.specs.inner.Known.{Known, place_of}
use Rattle.hl7_head.specs.declared.ack.Cause.TheVariants.{IdReused}
use Rattle.judge_core.specs.declared.judged.Verdict.{Verdict}
use Rattle.judge_core.specs.declared.judged.Verdict.TheVariants as v
use Rattle.judge_core.specs.Judging.{is_bookable, key_of, verdict}
use Rattle.event_log.specs.declared.entry.Told.TheVariants.{Refused, Repeat}
use Rattle.event_log.specs.History.{History, message_count, plan_in_force}
use Rattle.event_log.specs.Answers.{arrival_answer, brings_at, known, told_again, told_by}
use Rattle.book_core.specs.Receiving.{first_told, repeat_of}
use Rattle.book_core.specs.inner.Parts.{KeysAgree}

-- what the index finds of a key is the place at which the history has it
pub found-known : (h : History) (index : List Known) (key looked : List ℕ) (found place : Option ℕ) → KeysAgree h index → looked ≡ key → found ≡ place_of looked index → found ≡ place → known h key ≡ place
found-known h index key looked found place agree same lookup is = sym (agree key) ∙ (ap (λ k. place_of k index) (sym same) ∙ (sym lookup ∙ is))

-- what is read at a place is what the history says of it
pub brought : (h : History) (raw read : List ℕ) (place : ℕ) (test b : Bool) → read ≡ raw → test ≡ brings_at h read place → test ≡ b → brings_at h raw place ≡ b
brought h raw read place test b same tested told = ap (λ r. brings_at h r place) (sym same) ∙ (sym tested ∙ told)

-- a verdict alone says of no message that it is a repeat
no-repeat : (number : ℕ) (verdict : Verdict) → option_and_then first_told (told_by number verdict) ≡ None
no-repeat number v.Unreadable = refl
no-repeat number v.Stray = refl
no-repeat number (v.Refuse cause) = refl
no-repeat number v.Filtered = refl
no-repeat number (v.Accept deliveries) = refl

module _ (h : History) (channel : ℕ) (raw : List ℕ) (bookable : is_bookable raw ≡ true) where
  -- by the place of its key
  by-place : (place : Option ℕ) → known h (key_of channel raw) ≡ place
      → arrival_answer h channel raw ≡ option_map_or (λ n. Some (told_again h raw n)) place (told_by (message_count h) (verdict (plan_in_force h) channel raw))
  unfolding arrival_answer
  by-place place found = rw (bookable, found) refl

  -- the same bytes came before
  pub told-repeat : (place : ℕ) → known h (key_of channel raw) ≡ Some place → brings_at h raw place ≡ true → arrival_answer h channel raw ≡ Some (Repeat place)
  told-repeat place found same = by-place (Some place) found ∙ ap (λ b. Some (if b then Repeat place else Refused IdReused)) same

  -- other bytes came before
  pub told-reused : (place : ℕ) → known h (key_of channel raw) ≡ Some place → brings_at h raw place ≡ false → arrival_answer h channel raw ≡ Some (Refused IdReused)
  told-reused place found other = by-place (Some place) found ∙ ap (λ b. Some (if b then Repeat place else Refused IdReused)) other

  -- its key is not known
  pub told-first : known h (key_of channel raw) ≡ None → arrival_answer h channel raw ≡ told_by (message_count h) (verdict (plan_in_force h) channel raw)
  told-first unknown = by-place None unknown

  -- so the message is a repeat
  pub is-repeat : (place : ℕ) → known h (key_of channel raw) ≡ Some place → brings_at h raw place ≡ true → Some place ≡ repeat_of h channel raw
  is-repeat place found same = sym (ap (option_and_then first_told) (told-repeat place found same))

  -- or it is none, where its control id is used again
  pub is-reused : (place : ℕ) → known h (key_of channel raw) ≡ Some place → brings_at h raw place ≡ false → None ≡ repeat_of h channel raw
  is-reused place found other = sym (ap (option_and_then first_told) (told-reused place found other))

  -- or is new
  pub is-new : known h (key_of channel raw) ≡ None → None ≡ repeat_of h channel raw
  is-new unknown = sym (ap (option_and_then first_told) (told-first unknown) ∙ no-repeat (message_count h) (verdict (plan_in_force h) channel raw))
