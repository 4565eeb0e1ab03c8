-- What a deployment changes.
use Rattle.std.proofs.Common.{◌≡◌, ℕ, ◌+◌, ◌<◌, ◌≤◌, inl, inr, Bool, true, false, cond, not, ◌==◌, ◌&&◌, nat_lt, List, [], ◌∷◌, ◌++◌, length, Option, None, Some, refl, sym, ◌∙◌, ap, subst, arith, suc, zero, length-append}
use Rattle.std.specs.Prelude.{IfSome, filter, find, slice_get, if◌then◌else◌}
use Rattle.std.specs.Cmp.Lexicographic.{pointwise}
use Rattle.std.specs.List.{range_with_len}
use Rattle.std.specs.Option.{option_map_or}
use Rattle.std.specs.Str.{bytes_eq}
use Rattle.std.proofs.lemmas.Bool.{cases_eq}
use Rattle.std.proofs.lemmas.Bool.Decides.{nat_tests}
use Rattle.plan_text.specs.Entries.{ChannelEntry, DestinationEntry, IsPlan, PlanEntry}
use Rattle.judge_core.specs.inner.Delivering.{AreDeliveries}
use Rattle.dest_queue.specs.declared.SlotState.{SlotState}
use Rattle.dest_queue.specs.declared.SlotState.TheVariants.{Waiting, InFlight, Delivered, Failed}
use Rattle.dest_queue.specs.States.{is_live}
use Rattle.event_log.specs.declared.entry.Entry.TheVariants.{Deploy}
use Rattle.event_log.specs.declared.refusal.DeployRefusal.TheVariants.{ChannelsDiffer, DestinationInUse, TooMany}
use Rattle.event_log.specs.History.{History, accepted, deliveries, followed_by, is_queued, message_count, names, plan_in_force, queue, slot, state}
use Rattle.event_log.specs.Answers.{attempts_max}
use Rattle.event_log.specs.Deployment.{deploy_answer, deployments, first_lost, is_lost, same_channels, same_name, stays}
use Rattle.event_log.specs.inner.Legal.{IsSound, IsWithin}
use Rattle.event_log.specs.Room.{is_in_flight, message_total, owed, slot_owed, total}
use Rattle.event_log.specs.inner.Room.{in_flight}
use Rattle.event_log.proofs.Events.{Deployable, deployable-follows}
use Rattle.event_log.proofs.Following.{accepted-kept, deliveries-same, known-kept, legal-followed_by, message_count-same, plan-followed_by, slot-same, state-followed_by}
use Rattle.event_log.proofs.Reading.{slot-exists, slot-inside}
use Rattle.event_log.proofs.Steps.{DeployStep}
use Rattle.event_log.proofs.Totals.{sum-alike, total-same}

-- ---- the answer

-- nothing is against a plan: it has the same channels, loses no destination in use, and isn't one too many
allowed : (same few : Bool) (lost : Option ℕ) → (if same then option_map_or (λ d. Some (DestinationInUse d)) lost (if few then None else Some TooMany) else Some ChannelsDiffer) ≡ None
    → (same ≡ true) × (lost ≡ None) × (few ≡ true)
allowed true true None none = (refl, refl, refl)
allowed true false None none = absurd cc
allowed true few (Some d) none = absurd cc
allowed false few lost none = absurd cc

pub allowed-parts : (h : History) (plan : PlanEntry) → deploy_answer h plan ≡ None → (same_channels (plan_in_force h) plan ≡ true) × (first_lost h plan ≡ None) × (nat_lt (deployments h) 1000 ≡ true)
unfolding deploy_answer
allowed-parts h plan none = allowed (same_channels (plan_in_force h) plan) (nat_lt (deployments h) 1000) (first_lost h plan) none

-- texts that are alike one by one are as many
pointwise-length : (xs ys : List ChannelEntry) → pointwise same_name xs ys ≡ true → length xs ≡ length ys
pointwise-length [] [] is = refl
pointwise-length [] (y ∷ ys) is = absurd cc
pointwise-length (x ∷ xs) [] is = absurd cc
pointwise-length (x ∷ xs) (y ∷ ys) is = elim (same_name x y) as (λ b. (b && pointwise same_name xs ys) ≡ true → length (x ∷ xs) ≡ length (y ∷ ys))
    [ true ↦ λ e. ap (λ n. suc n) (pointwise-length xs ys e) | false ↦ λ e. absurd cc ] is

-- a plan that may be deployed has as many channels as the one in force
pub channels-same : (h : History) (plan : PlanEntry) → Deployable h plan → length plan.channels ≡ length (plan_in_force h).channels
channels-same h plan may = sym (pointwise-length (plan_in_force h).channels plan.channels (allowed-parts h plan may.allowed).0)

-- what isn't found among numbers doesn't stand there
find-none : (p : ℕ → Bool) (a k : ℕ) → find p (range_with_len a k) ≡ None → (d : ℕ) → a ≤ d → d < a + k → p d ≡ false
find-none p a zero none d low high = absurd (omega arith)
find-none p a (suc k) none d low high = elim (p a) as (λ b. p a ≡ b → cond b (Some a) (find p (range_with_len (a + 1) k)) ≡ None → p d ≡ false) [
  | true ↦ λ is e. absurd cc
  | false ↦ λ is e. elim (cases_eq d a) [ inl same ↦ ap p same ∙ is | inr apart ↦ find-none p (a + 1) k e d (omega arith) (omega arith) ]
] refl none

-- a number that passes leaves the filter of a range not empty
filter-some : (p : ℕ → Bool) (a k n : ℕ) → a ≤ n → n < a + k → p n ≡ true → 0 < length (filter p (range_with_len a k))
filter-some p a zero n low high passes = absurd (omega arith)
filter-some p a (suc k) n low high passes = elim (p a) as (λ b. p a ≡ b → 0 < length (cond b (a ∷ filter p (range_with_len (a + 1) k)) (filter p (range_with_len (a + 1) k)))) [
  | true ↦ λ is. omega arith
  | false ↦ λ is. elim (cases_eq n a) [
    | inl same ↦ let no : p n ≡ false = ap p same ∙ is in absurd cc
    | inr apart ↦ filter-some p (a + 1) k n (omega arith) (omega arith) passes
  ]
] refl

-- a destination that stays is tried as often
stays-tried : (old new : Option DestinationEntry) → stays old new ≡ true → option_map_or (λ x. x.attempts) new 0 ≡ option_map_or (λ x. x.attempts) old 0
stays-tried (Some x) (Some y) is = elim (bytes_eq x.name y.name) as (λ b. (b && (x.attempts == y.attempts)) ≡ true → y.attempts ≡ x.attempts)
    [ true ↦ λ e. let f : (x.attempts == y.attempts) ≡ true = e in let same : x.attempts ≡ y.attempts = grind (arith, nat_tests) in sym same | false ↦ λ e. absurd cc ] is
stays-tried (Some x) None is = absurd cc
stays-tried None new is = absurd cc

-- where nothing is lost, a destination in use stays
used-stays : (used stay : Bool) → (used && not stay) ≡ false → used ≡ true → stay ≡ true
used-stays true true none is = refl
used-stays true false none is = absurd cc
used-stays false stay none is = absurd cc

-- ---- sums

-- a sum over all slots, of weights that are alike at each slot
total-alike : (v w : ℕ → SlotState → ℕ) (h : History) → ((n d : ℕ) → d < 32 → option_map_or (v d) (slot h n d) 0 ≡ option_map_or (w d) (slot h n d) 0) → total v h ≡ total w h
unfolding total
total-alike v w h alike =
    sum-alike (λ n. message_total w (slot h n)) (λ n. message_total v (slot h n)) 0 (message_count h)
    (λ n low below. sum-alike (λ d. option_map_or (w d) (slot h n d) 0) (λ d. option_map_or (v d) (slot h n d) 0) 0 32 (λ d least inside. alike n d (omega arith)))

-- there is room for an entry that owes nothing
room-left : (count more bound owes owes' : ℕ) → nat_lt bound (count + owes + 1 + 0) ≡ false → more ≡ count + 1 → owes' ≡ owes → more + owes' ≤ bound
room-left count more bound owes owes' enough longer same = let le : count + owes + 1 + 0 ≤ bound = grind (arith, nat_tests) in omega arith

-- ---- the deployment

module _ (h : History) (sound : IsSound h) (plan : PlanEntry) (may : Deployable h plan) where
  -- the plan is in force
  in-force : plan_in_force (followed_by h (Deploy plan)) ≡ plan
  in-force = plan-followed_by h (Deploy plan)

  -- no message comes or goes
  same-messages : accepted (followed_by h (Deploy plan)) ≡ accepted h
  same-messages = accepted-kept h (Deploy plan) refl

  -- no slot changes
  state-after : (n d : ℕ) → state (followed_by h (Deploy plan)) n d ≡ state h n d
  state-after n d = state-followed_by h (Deploy plan) n d

  slot-after : (n d : ℕ) → slot (followed_by h (Deploy plan)) n d ≡ slot h n d
  slot-after n d = slot-same h (followed_by h (Deploy plan)) refl same-messages n d ∙ ap (λ s. cond (names d (deliveries h n)) (Some s) None) (state-after n d)

  -- a destination to which a message is still to be delivered is tried as often
  tried-same : (n d : ℕ) (s : SlotState) → slot h n d ≡ Some s → is_live s ≡ true → attempts_max plan d ≡ attempts_max (plan_in_force h) d
  tried-same n d s is live =
      let queued : is_queued h d n ≡ true = ap (λ o. option_map_or is_live o false) is ∙ live in
      let inside = slot-inside h sound n d s is in
      let exists = slot-exists h n d s is in
      let some : 0 < length (queue h d) = filter-some (is_queued h d) 0 (message_count h) n (omega arith) (omega arith) queued in
      let used : nat_lt 0 (length (queue h d)) ≡ true = grind (arith, nat_tests) in
      let kept : is_lost h plan d ≡ false = find-none (is_lost h plan) 0 32 (allowed-parts h plan may.allowed).1 d (omega arith) (omega arith) in
      stays-tried (slice_get (plan_in_force h).destinations d) (slice_get plan.destinations d)
      (used-stays (nat_lt 0 (length (queue h d))) (stays (slice_get (plan_in_force h).destinations d) (slice_get plan.destinations d)) kept used)

  -- each slot owes what it owed
  owes-same : (n d : ℕ) → option_map_or (slot_owed (attempts_max plan d)) (slot h n d) 0 ≡ option_map_or (slot_owed (attempts_max (plan_in_force h) d)) (slot h n d) 0
  owes-same n d = by (slot h n d) refl
    where
      by : (o : Option SlotState) → slot h n d ≡ o → option_map_or (slot_owed (attempts_max plan d)) o 0 ≡ option_map_or (slot_owed (attempts_max (plan_in_force h) d)) o 0
      by None is = refl
      by (Some (Waiting attempts due)) is = ap (λ max. slot_owed max (Waiting attempts due)) (tried-same n d (Waiting attempts due) is refl)
      by (Some (InFlight attempt)) is = ap (λ max. slot_owed max (InFlight attempt)) (tried-same n d (InFlight attempt) is refl)
      by (Some Delivered) is = refl
      by (Some (Failed cause)) is = refl

  -- and has the attempts that it had
  within-same : (n d : ℕ) → IfSome (slot h n d) (IsWithin (attempts_max plan d))
  within-same n d = by (slot h n d) refl (sound.attempts n d)
    where
      by : (o : Option SlotState) → slot h n d ≡ o → IfSome o (IsWithin (attempts_max (plan_in_force h) d)) → IfSome o (IsWithin (attempts_max plan d))
      by None is within = tt
      by (Some (Waiting attempts due)) is within = subst (λ max. IsWithin max (Waiting attempts due)) (sym (tried-same n d (Waiting attempts due) is refl)) within
      by (Some (InFlight attempt)) is within = subst (λ max. IsWithin max (InFlight attempt)) (sym (tried-same n d (InFlight attempt) is refl)) within
      by (Some Delivered) is within = tt
      by (Some (Failed cause)) is within = tt

  -- as much is owed as before
  owed-after : owed (followed_by h (Deploy plan)) ≡ owed h
  owed-after =
      ap (λ p. total (λ d. slot_owed (attempts_max p d)) (followed_by h (Deploy plan))) in-force
      ∙ (total-same (λ d. slot_owed (attempts_max plan d)) h (followed_by h (Deploy plan)) (message_count-same h (followed_by h (Deploy plan)) refl same-messages) (λ n below d. slot-after n d)
      ∙ total-alike (λ d. slot_owed (attempts_max plan d)) (λ d. slot_owed (attempts_max (plan_in_force h) d)) h (λ n d inside. owes-same n d))

  -- attempts under way go on
  flight-after : in_flight (followed_by h (Deploy plan)) ≡ in_flight h
  flight-after =
      total-same (λ d state. if is_in_flight state then 1 else 0) h (followed_by h (Deploy plan)) (message_count-same h (followed_by h (Deploy plan)) refl same-messages) (λ n below d. slot-after n d)

  -- the history stays sound
  sound-after : IsSound (followed_by h (Deploy plan))
  sound-after = record {
    opening = sound.opening;
    plan = subst IsPlan (sym in-force) may.good;
    legal = legal-followed_by h (Deploy plan) sound.legal (deployable-follows h plan may);
    deliveries = λ n. subst AreDeliveries (sym (deliveries-same h (followed_by h (Deploy plan)) refl same-messages n)) (sound.deliveries n);
    attempts = λ n d. subst (λ p. IfSome (slot (followed_by h (Deploy plan)) n d) (IsWithin (attempts_max p d))) (sym in-force)
        (subst (λ o. IfSome o (IsWithin (attempts_max plan d))) (sym (slot-after n d)) (within-same n d));
    to_come = λ n d beyond. state-after n d ∙ sound.to_come n d (subst (λ k. k ≤ n) (message_count-same h (followed_by h (Deploy plan)) refl same-messages) beyond);
    room = room-left (length h.entries) (length (h.entries ++ Deploy plan ∷ [])) h.opening.events_max (owed h) (owed (followed_by h (Deploy plan))) may.room
        (length-append h.entries (Deploy plan ∷ [])) owed-after;
  }

-- a plan that may be deployed next
pub deploy-step : (h : History) → IsSound h → (plan : PlanEntry) → Deployable h plan → DeployStep h plan
deploy-step h sound plan may = record {
  sound = sound-after h sound plan may;
  nothing = record { accepted = same-messages h sound plan may; known = λ key. known-kept h (Deploy plan) key refl };
  in_force = in-force h sound plan may;
  state = state-after h sound plan may;
  owed = owed-after h sound plan may;
  in_flight = flight-after h sound plan may;
}
