-- A book is kept by a deployment.
use Rattle.std.proofs.Common.{◌≡◌, ℕ, ◌+◌, ◌-◌, ◌<◌, ◌≤◌, Bool, true, false, not, cond, suc, nat_lt, List, [], ◌∷◌, length, Option, None, Some, refl, sym, ◌∙◌, ap, arith, length-append}
use Rattle.std.specs.Prelude.{find}
use Rattle.std.specs.List.{range_with_len}
use Rattle.std.specs.Option.{option_map_or}
use Rattle.std.proofs.lemmas.Bool.Decides.{nat_tests}
use Rattle.plan_text.specs.Entries.{PlanEntry}
use Rattle.row_store.specs.declared.Row.{Row}
use Rattle.dest_queue.specs.declared.slots.Queued.{Queued}
use Rattle.dup_index.specs.inner.Known.{Known}
use Rattle.stat_count.specs.Statistics.{Statistics}
use Rattle.event_log.specs.declared.entry.Entry.TheVariants.{Deploy}
use Rattle.event_log.specs.History.{History, deliveries, followed_by, names, plan_in_force, slot}
use Rattle.event_log.specs.declared.refusal.DeployRefusal.{DeployRefusal}
use Rattle.event_log.specs.declared.refusal.DeployRefusal.TheVariants.{ChannelsDiffer, DestinationInUse, Full, NoMemory, TooMany}
use Rattle.event_log.specs.Deployment.{deploy_answer, deployments, first_lost, same_channels}
use Rattle.event_log.proofs.Events.{Deployable}
use Rattle.event_log.specs.Room.{owed}
use Rattle.event_log.proofs.Deploying.{allowed-parts, deploy-step}
use Rattle.event_log.proofs.Following.{message_count-same, slot-same}
use Rattle.event_log.proofs.Steps.{DeployStep}
use Rattle.book_core.specs.declared.letter.Outbound.{Outbound}
use Rattle.event_log.specs.Counting.{destination_counts}
use Rattle.book_core.specs.inner.Counting.{AreCounted}
use Rattle.book_core.specs.inner.Parts.{IsKept}
use Rattle.book_core.proofs.CountedSteps.{attempts-kept, channels-kept}
use Rattle.book_core.proofs.Moves.{moved-nowhere, moves-nowhere}
use Rattle.book_core.proofs.RowsAdded.{rows-kept}

-- ---- the statistics

module _ (h : History) (plan : PlanEntry) (step : DeployStep h plan) where
  -- no slot changes
  slot-kept : (n d : ℕ) → slot (followed_by h (Deploy plan)) n d ≡ slot h n d
  slot-kept n d = slot-same h (followed_by h (Deploy plan)) refl step.nothing.accepted n d ∙ ap (λ s. cond (names d (deliveries h n)) (Some s) None) (step.state n d)

  -- no destination counts otherwise
  pub deployed-counts : (d : ℕ) → destination_counts (followed_by h (Deploy plan)) d ≡ destination_counts h d
  deployed-counts d =
      moves-nowhere None (destination_counts h d) (destination_counts (followed_by h (Deploy plan)) d)
      (moved-nowhere h (followed_by h (Deploy plan)) refl d (message_count-same h (followed_by h (Deploy plan)) refl step.nothing.accepted) (λ m below. slot-kept m d))
      (attempts-kept h (Deploy plan) d refl)

  pub counted-deploy : (tally : Statistics) → AreCounted h tally → AreCounted (followed_by h (Deploy plan)) tally
  counted-deploy tally counts = record {
    all_channels = counts.all_channels;
    all_destinations = counts.all_destinations;
    channel = λ c below. counts.channel c below ∙ sym (channels-kept h (Deploy plan) (λ c so. refl) c);
    destination = λ d below. counts.destination d below ∙ sym (deployed-counts d);
  }

-- ---- the answer

-- what is said of a plan, by whether it has the same channels, which destination it loses, and whether it is one too many
abbrev pub said_by : Bool → Option ℕ → Bool → Option DeployRefusal
said_by same lost few = cond same (option_map_or (λ d. Some (DestinationInUse d)) lost (cond few None (Some TooMany))) (Some ChannelsDiffer)

pub deploy-said : (h : History) (plan : PlanEntry) → deploy_answer h plan ≡ said_by (same_channels (plan_in_force h) plan) (first_lost h plan) (nat_lt (deployments h) 1000)
unfolding deploy_answer
deploy-said h plan = refl

module _ (h : History) (plan : PlanEntry) where
  -- its channels differ
  pub said-channels : same_channels (plan_in_force h) plan ≡ false → Some ChannelsDiffer ≡ deploy_answer h plan
  said-channels same = sym (deploy-said h plan ∙ ap (λ b. said_by b (first_lost h plan) (nat_lt (deployments h) 1000)) same)

  -- a destination is lost
  pub said-used : (d : ℕ) → same_channels (plan_in_force h) plan ≡ true → first_lost h plan ≡ Some d → Some (DestinationInUse d) ≡ deploy_answer h plan
  said-used d same lost =
      sym (deploy-said h plan ∙ (ap (λ b. said_by b (first_lost h plan) (nat_lt (deployments h) 1000)) same ∙ ap (λ o. said_by true o (nat_lt (deployments h) 1000)) lost))

  -- none is
  said-few : (few : Bool) → same_channels (plan_in_force h) plan ≡ true → first_lost h plan ≡ None → nat_lt (deployments h) 1000 ≡ few → cond few None (Some TooMany) ≡ deploy_answer h plan
  said-few few same lost is =
      sym (deploy-said h plan ∙ (ap (λ b. said_by b (first_lost h plan) (nat_lt (deployments h) 1000)) same ∙ (ap (λ o. said_by true o (nat_lt (deployments h) 1000)) lost ∙ ap (λ b. said_by true None b) is)))

  pub said-none : same_channels (plan_in_force h) plan ≡ true → first_lost h plan ≡ None → deployments h < 1000 → None ≡ deploy_answer h plan
  said-none same lost few = said-few true same lost (grind (arith, nat_tests))

  pub said-many : same_channels (plan_in_force h) plan ≡ true → first_lost h plan ≡ None → 1000 ≤ deployments h → Some TooMany ≡ deploy_answer h plan
  said-many same lost many = said-few false same lost (grind (arith, nat_tests))

-- want of room isn't said so
never-full : (same few : Bool) (lost : Option ℕ) → said_by same lost few ≡ Some Full → ⊥
never-full true true None is = cc
never-full true false None is = cc
never-full true few (Some d) is = cc
never-full false few lost is = cc

no-memory : (same few : Bool) (lost : Option ℕ) → said_by same lost few ≡ Some NoMemory → ⊥
no-memory true true None is = cc
no-memory true false None is = cc
no-memory true few (Some d) is = cc
no-memory false few lost is = cc

-- a refusal that is answered isn't for want of memory
pub never-memory : (h : History) (plan : PlanEntry) (r : DeployRefusal) → deploy_answer h plan ≡ Some r → r ≡ NoMemory → ⊥
never-memory h plan r said is = no-memory (same_channels (plan_in_force h) plan) (nat_lt (deployments h) 1000) (first_lost h plan) (sym (deploy-said h plan) ∙ (said ∙ ap (λ r. Some r) is))

-- there is room where the log has room
pub has-room : (over room : Bool) → room ≡ not over → room ≡ true → over ≡ false
has-room true room same free = absurd cc
has-room false room same free = refl

-- a number is the first of the rest that passes, or it is among those after it
next-found : (p : ℕ → Bool) (d : ℕ) → d < 32 → find p (range_with_len d (32 - d)) ≡ cond (p d) (Some d) (find p (range_with_len (d + 1) (32 - (d + 1))))
next-found p d inside = let steps : 32 - d ≡ suc (32 - (d + 1)) = omega arith in ap (λ k. find p (range_with_len d k)) steps

pub found-here : (p : ℕ → Bool) (d : ℕ) → d < 32 → p d ≡ true → find p (range_with_len d (32 - d)) ≡ Some d
found-here p d inside passes = next-found p d inside ∙ ap (λ b. cond b (Some d) (find p (range_with_len (d + 1) (32 - (d + 1))))) passes

pub found-later : (p : ℕ → Bool) (d : ℕ) → d < 32 → p d ≡ false → find p (range_with_len (d + 1) (32 - (d + 1))) ≡ find p (range_with_len d (32 - d))
found-later p d inside fails = sym (next-found p d inside ∙ ap (λ b. cond b (Some d) (find p (range_with_len (d + 1) (32 - (d + 1))))) fails)

pub none-left : (p : ℕ → Bool) (d : ℕ) → 32 ≤ d → find p (range_with_len d (32 - d)) ≡ None
none-left p d past = let none : 32 - d ≡ 0 = omega arith in ap (λ k. find p (range_with_len d k)) none

-- ---- the book

module _ (h : History) (rows : List (Row (Queued Outbound))) (index : List Known) (tally : Statistics) (flights room : ℕ) (kept : IsKept h rows index tally flights room)
    (plan : PlanEntry) (may : Deployable h plan) where
  deployed : DeployStep h plan
  deployed = deploy-step h kept.sound plan may

  pub deployed-few : deployments h < 1000
  deployed-few = let few = (allowed-parts h plan may.allowed).2 in grind (arith, nat_tests)

  pub deployed-owed : owed (followed_by h (Deploy plan)) ≡ owed h
  deployed-owed = deployed.owed

  pub deployed-within : length h.entries + 1 + owed h ≤ h.opening.events_max
  deployed-within = omega (arith, deployed.sound.room, deployed.owed, length-append h.entries (Deploy plan ∷ []))

  pub kept-deployed : (room' : ℕ) → flights ≤ room' → IsKept (followed_by h (Deploy plan)) rows index tally flights room'
  kept-deployed room' left = record {
    sound = deployed.sound;
    rows_agree = rows-kept h (followed_by h (Deploy plan)) refl deployed.nothing.accepted deployed.state rows kept.rows_agree;
    keys_agree = λ key. kept.keys_agree key ∙ sym (deployed.nothing.known key);
    are_counted = counted-deploy h plan deployed tally kept.are_counted;
    flights_are = kept.flights_are ∙ sym deployed.in_flight;
    reserved = omega (arith, deployed.in_flight, kept.flights_are);
    bound = kept.bound;
  }
