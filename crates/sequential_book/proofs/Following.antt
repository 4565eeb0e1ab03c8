-- What the plain engine keeps true, with one more entry.
use Rattle.std.proofs.Common.{◌≡◌, ℕ, ◌≤◌, List, [], ◌∷◌, length, refl, sym, ◌∙◌, ap, subst, arith}
use Rattle.std.specs.Prelude.{All}
use Rattle.std.specs.List.{filter_map}
use Rattle.std.proofs.lemmas.List.Elements.{All-head, All-nil, All-push, All-tail}
use Rattle.plan_text.specs.Entries.{PlanEntry, IsPlan}
use Rattle.event_log.specs.declared.entry.Entry.{Entry}
use Rattle.event_log.specs.declared.entry.Entry.TheVariants.{Arrival, Take, Settle, Cancel, Deploy}
use Rattle.event_log.specs.History.{History, accepted, deployed_by, followed_by, last_from, plan_after, plan_in_force}
use Rattle.event_log.specs.inner.History.{snapshot_after}
use Rattle.event_log.specs.Legal.{MayFollow}
use Rattle.event_log.specs.inner.Legal.{IsSound}
use Rattle.event_log.proofs.Arriving.{arrival-step}
use Rattle.event_log.proofs.Cancelling.{cancel-step}
use Rattle.event_log.proofs.Deploying.{deploy-step}
use Rattle.event_log.proofs.Events.{arrivable, deployable}
use Rattle.event_log.proofs.Following.{last-after}
use Rattle.event_log.proofs.Beginning.{opened-sound}
use Rattle.event_log.proofs.Settling.{settle-step}
use Rattle.event_log.proofs.Taking.{take-step}
use Rattle.event_log.proofs.Totals.{accepted-entries}
use Rattle.sequential_book.specs.inner.Reading.{IsJudgeable, IsPlain}

-- a sound history stays sound with an entry that may follow
sound-followed_by : (h : History) → IsSound h → (e : Entry) → MayFollow h e → IsSound (followed_by h e)
sound-followed_by h sound (Arrival conn channel raw told) may = (arrival-step h sound conn channel raw told (arrivable h conn channel raw told may)).sound
sound-followed_by h sound (Take ticket now) may = (take-step h sound ticket.destination now ticket may.replied).1.sound
sound-followed_by h sound (Settle outcome ticket now state) may = (settle-step h sound ticket outcome now state may.replied).sound
sound-followed_by h sound (Cancel number among mask) may = (cancel-step h sound number among mask may.replied).sound
sound-followed_by h sound (Deploy plan) may = (deploy-step h sound plan (deployable h plan may)).sound

-- what is kept true stays true
pub plain-followed_by : (h : History) → IsPlain h → (e : Entry) → MayFollow h e → IsJudgeable (length h.opening.plan.channels) e → IsPlain (followed_by h e)
plain-followed_by h plain e may judgeable = record {
  sound = sound-followed_by h plain.sound e may;
  judgeable = All-push (IsJudgeable (length h.opening.plan.channels)) h.entries e plain.judgeable judgeable;
  bound = plain.bound;
}

-- and is true at first
pub plain-opened : (plan : PlanEntry) (events_max : ℕ) → IsPlan plan → events_max ≤ 1000000 → IsPlain (snapshot_after plan events_max)
plain-opened plan events_max good few = record { sound = opened-sound plan events_max good; judgeable = All-nil (IsJudgeable (length plan.channels)); bound = few }

-- an entry leaves as many channels
after-channels : (plan : PlanEntry) (e : Entry) → IsJudgeable (length plan.channels) e → length (plan_after plan e).channels ≡ length plan.channels
after-channels plan (Arrival conn channel raw told) judgeable = refl
after-channels plan (Take ticket now) judgeable = refl
after-channels plan (Settle outcome ticket now state) judgeable = refl
after-channels plan (Cancel number among mask) judgeable = refl
after-channels plan (Deploy next) judgeable = judgeable

-- so do all of them
last-channels : (plan : PlanEntry) (es : List Entry) → All (IsJudgeable (length plan.channels)) es → length (last_from plan (filter_map deployed_by es)).channels ≡ length plan.channels
last-channels plan [] all = refl
last-channels plan (e ∷ es) all =
    let first = after-channels plan e (All-head (IsJudgeable (length plan.channels)) e es all) in
    ap (λ (p : PlanEntry). length p.channels) (last-after plan e es)
    ∙ (last-channels (plan_after plan e) es (subst (λ n. All (IsJudgeable n) es) (sym first) (All-tail (IsJudgeable (length plan.channels)) e es all)) ∙ first)

-- the plan in force has as many channels as the first one
pub channels-kept : (h : History) → IsPlain h → length (plan_in_force h).channels ≡ length h.opening.plan.channels
channels-kept h plain = last-channels h.opening.plan h.entries plain.judgeable

-- there are no more messages than entries, and no more entries than there may be
pub few-messages : (h : History) → IsPlain h → length (accepted h) ≤ 1000000
few-messages h plain = let room = plain.sound.room in let bound = plain.bound in omega (arith, accepted-entries h)
