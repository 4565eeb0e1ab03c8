-- What a history says that goes on from a blank opening.
use Rattle.std.proofs.Common.{◌≡◌, ◌≢◌, ℕ, ◌+◌, ◌-◌, ◌<◌, ◌≤◌, ◌==◌, true, false, nat_lt, List, [], ◌∷◌, length, Option, None, Some, Ok, Err, refl, sym, ◌∙◌, ap, arith, suc, zero}
use Rattle.std.specs.Prelude.{is_some, slice_get, if◌then◌else◌}
use Rattle.std.specs.List.{position}
use Rattle.std.specs.Option.{option_map, option_map_or}
use Rattle.std.proofs.lemmas.Bool.Decides.{nat_tests}
use Rattle.plan_text.specs.Entries.{PlanEntry}
use Rattle.event_log.specs.declared.entry.Entry.{Entry}
use Rattle.event_log.specs.declared.refusal.CancelRefusal.TheVariants.{NoSuchMessage, NothingWaiting}
use Rattle.event_log.specs.History.{History, accepted_from, deliveries, message_at, message_count}
use Rattle.event_log.specs.inner.History.{history_of}
use Rattle.event_log.specs.Answers.{brings, brings_at, cancel_answer, keeps, known, mask_where, waits_among}
use Rattle.event_log.proofs.Reading.{message-beyond}

-- an item below the length of a list is there
get-inside : {A : Type 0} (xs : List A) (n : ℕ) → n < length xs → is_some (slice_get xs n) ≡ true
get-inside [] n inside = absurd (omega arith)
get-inside (x ∷ xs) zero inside = refl
get-inside (x ∷ xs) (suc n) inside = get-inside xs n (omega arith)

module _ (plan : PlanEntry) (events_max : ℕ) (es : List Entry) where
  -- its messages are those that its entries bring
  pub message-blank : (n : ℕ) → message_at (history_of plan events_max es) n ≡ slice_get (accepted_from plan es) n
  message-blank n =
      let since : nat_lt n 0 ≡ false = grind (arith, nat_tests) in
      let own : n - 0 ≡ n = omega arith in
      rw (since, own) refl

  pub count-blank : message_count (history_of plan events_max es) ≡ length (accepted_from plan es)
  count-blank = omega arith

  pub deliveries-blank : (n : ℕ) → deliveries (history_of plan events_max es) n ≡ option_map_or (λ m. m.deliveries) (slice_get (accepted_from plan es) n) []
  deliveries-blank n = ap (λ o. option_map_or (λ m. m.deliveries) o []) (message-blank n)

  -- a key is known at the first entry that keeps it
  pub known-blank : (key : List ℕ) → known (history_of plan events_max es) key ≡ position (keeps key) es
  known-blank key = by (position (keeps key) es)
    where
      by : (o : Option ℕ) → option_map (λ k. 0 + k) o ≡ o
      by None = refl
      by (Some k) = let same : 0 + k ≡ k = omega arith in ap (λ n. Some n) same

  -- bytes came at a place where its entry brings them
  pub brings-blank : (raw : List ℕ) (place : ℕ) → brings_at (history_of plan events_max es) raw place ≡ option_map_or (brings raw) (slice_get es place) false
  brings-blank raw place =
      let held : nat_lt place 0 ≡ false = grind (arith, nat_tests) in
      let own : place - 0 ≡ place = omega arith in
      rw (held, own) refl

  -- each number below the next is that of a message
  pub there-blank : (n : ℕ) → n < message_count (history_of plan events_max es) → is_some (message_at (history_of plan events_max es) n) ≡ true
  there-blank n below = ap is_some (message-blank n) ∙ get-inside (accepted_from plan es) n (omega (arith, count-blank))

-- the answer where there is no such message
pub cancel-beyond : (h : History) (n among : ℕ) → message_count h ≤ n → cancel_answer h n among ≡ Err NoSuchMessage
cancel-beyond h n among beyond = rw (message-beyond h n beyond) refl

module _ (h : History) (n among : ℕ) (there : is_some (message_at h n) ≡ true) (mask : ℕ) (is : mask ≡ mask_where (waits_among h n among)) where
  -- and where there is, by the mask of where it waits
  cancel-there : cancel_answer h n among ≡ (if mask == 0 then Err NothingWaiting else Ok mask)
  cancel-there =
      ap (λ b. if b then (if mask_where (waits_among h n among) == 0 then Err NothingWaiting else Ok (mask_where (waits_among h n among))) else Err NoSuchMessage) there
      ∙ ap (λ m. if m == 0 then Err NothingWaiting else Ok m) (sym is)

  pub cancel-nothing : mask ≡ 0 → Err NothingWaiting ≡ cancel_answer h n among
  cancel-nothing none = sym (cancel-there ∙ rw none refl)

  pub cancel-some : mask ≢ 0 → Ok mask ≡ cancel_answer h n among
  cancel-some some = sym (cancel-there ∙ (let differs : (mask == 0) ≡ false = grind (arith, nat_tests) in rw differs refl))
