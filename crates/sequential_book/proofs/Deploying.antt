-- What is said of a plan.
use Rattle.std.proofs.Common.{◌≡◌, ℕ, ◌+◌, ◌-◌, ◌<◌, ◌≤◌, Bool, true, false, cond, suc, nat_lt, Option, None, Some, refl, sym, ◌∙◌, ap, arith}
use Rattle.std.specs.Prelude.{find}
use Rattle.std.specs.List.{range_with_len}
use Rattle.std.specs.Option.{option_map_or}
use Rattle.std.proofs.lemmas.Bool.Decides.{nat_tests}
use Rattle.plan_text.specs.Entries.{PlanEntry}
use Rattle.event_log.specs.declared.refusal.DeployRefusal.{DeployRefusal}
use Rattle.event_log.specs.declared.refusal.DeployRefusal.TheVariants.{ChannelsDiffer, DestinationInUse, Full, TooMany}
use Rattle.event_log.specs.Deployment.{deploy_answer, deployments, first_lost, same_channels}
use Rattle.event_log.specs.History.{History, plan_in_force}

-- what is said of a plan, by whether it has the same channels, which destination it loses, and whether it is one too many
abbrev pub said_by : Bool → Option ℕ → Bool → Option DeployRefusal
said_by same lost few = cond same (option_map_or (λ d. Some (DestinationInUse d)) lost (cond few None (Some TooMany))) (Some ChannelsDiffer)

pub deploy-said : (h : History) (plan : PlanEntry) → deploy_answer h plan ≡ said_by (same_channels (plan_in_force h) plan) (first_lost h plan) (nat_lt (deployments h) 1000)
unfolding deploy_answer
deploy-said h plan = refl

module _ (h : History) (plan : PlanEntry) where
  -- its channels differ
  pub said-channels : same_channels (plan_in_force h) plan ≡ false → Some ChannelsDiffer ≡ deploy_answer h plan
  said-channels same = sym (deploy-said h plan ∙ ap (λ b. said_by b (first_lost h plan) (nat_lt (deployments h) 1000)) same)

  -- a destination is lost
  pub said-used : (d : ℕ) → same_channels (plan_in_force h) plan ≡ true → first_lost h plan ≡ Some d → Some (DestinationInUse d) ≡ deploy_answer h plan
  said-used d same lost =
      sym (deploy-said h plan ∙ (ap (λ b. said_by b (first_lost h plan) (nat_lt (deployments h) 1000)) same ∙ ap (λ o. said_by true o (nat_lt (deployments h) 1000)) lost))

  -- none is
  said-few : (few : Bool) → same_channels (plan_in_force h) plan ≡ true → first_lost h plan ≡ None → nat_lt (deployments h) 1000 ≡ few → cond few None (Some TooMany) ≡ deploy_answer h plan
  said-few few same lost is =
      sym (deploy-said h plan ∙ (ap (λ b. said_by b (first_lost h plan) (nat_lt (deployments h) 1000)) same ∙ (ap (λ o. said_by true o (nat_lt (deployments h) 1000)) lost ∙ ap (λ b. said_by true None b) is)))

  pub said-none : same_channels (plan_in_force h) plan ≡ true → first_lost h plan ≡ None → deployments h < 1000 → None ≡ deploy_answer h plan
  said-none same lost few = said-few true same lost (grind (arith, nat_tests))

  pub said-many : same_channels (plan_in_force h) plan ≡ true → first_lost h plan ≡ None → 1000 ≤ deployments h → Some TooMany ≡ deploy_answer h plan
  said-many same lost many = said-few false same lost (grind (arith, nat_tests))

-- a number is the first of the rest that passes, or it is among those after it
next-found : (p : ℕ → Bool) (d : ℕ) → d < 32 → find p (range_with_len d (32 - d)) ≡ cond (p d) (Some d) (find p (range_with_len (d + 1) (32 - (d + 1))))
next-found p d inside = let steps : 32 - d ≡ suc (32 - (d + 1)) = omega arith in ap (λ k. find p (range_with_len d k)) steps

pub found-here : (p : ℕ → Bool) (d : ℕ) → d < 32 → p d ≡ true → find p (range_with_len d (32 - d)) ≡ Some d
found-here p d inside passes = next-found p d inside ∙ ap (λ b. cond b (Some d) (find p (range_with_len (d + 1) (32 - (d + 1))))) passes

pub found-later : (p : ℕ → Bool) (d : ℕ) → d < 32 → p d ≡ false → find p (range_with_len (d + 1) (32 - (d + 1))) ≡ find p (range_with_len d (32 - d))
found-later p d inside fails = sym (next-found p d inside ∙ ap (λ b. cond b (Some d) (find p (range_with_len (d + 1) (32 - (d + 1))))) fails)

pub none-left : (p : ℕ → Bool) (d : ℕ) → 32 ≤ d → find p (range_with_len d (32 - d)) ≡ None
none-left p d past = let none : 32 - d ≡ 0 = omega arith in ap (λ k. find p (range_with_len d k)) none

-- no plan is refused so for room
never-full : (same few : Bool) (lost : Option ℕ) → said_by same lost few ≡ Some Full → ⊥
never-full true true None is = cc
never-full true false None is = cc
never-full true few (Some d) is = cc
never-full false few lost is = cc

pub other-than-full : {P : Type 0} (h : History) (plan : PlanEntry) (r : DeployRefusal) → deploy_answer h plan ≡ Some r → r ≡ Full → P
other-than-full h plan r said full =
    absurd (never-full (same_channels (plan_in_force h) plan) (nat_lt (deployments h) 1000) (first_lost h plan) (sym (deploy-said h plan) ∙ (said ∙ ap (λ r. Some r) full)))
