-- What the deployment of a plan leaves.
use Rattle.std.proofs.Common.{◌≡◌, ◌⊎◌, inl, inr, ℕ, List, [], ◌∷◌, ◌++◌, Result, Ok, Err, refl, sym, ap, subst, ◌∙◌}
use Rattle.std.specs.List.{cons_option, filter_map}
use Rattle.std.proofs.lemmas.List.Elements.{filter_map-append}
use Rattle.plan_text.specs.Entries.{PlanEntry}
use Rattle.plan_text.specs.Document.{plan_in}
use Rattle.event_log.specs.declared.entry.Entry.{Entry}
use Rattle.event_log.specs.declared.entry.Entry.TheVariants as entry
use Rattle.event_log.specs.declared.refusal.DeployRefusal.{DeployRefusal}
use Rattle.event_log.specs.declared.refusal.DeployRefusal.TheVariants as deploy_refusal
use Rattle.event_log.specs.History.{History, deployed_by, followed_by, last_from, plan_in_force}
use Rattle.event_log.specs.Event.{Does, answer, deploy}
use Rattle.event_records.specs.declared.record.Record.TheVariants.{Deploy}
use Rattle.book_replay.specs.Replay.{IsBooked}
use Rattle.book_replay.proofs.Steps.{deploy_booked}

last-one_more : (first last : PlanEntry) (plans : List PlanEntry) → last_from first (plans ++ last ∷ []) ≡ last
last-one_more first last [] = refl
last-one_more first last (plan ∷ plans) = last-one_more plan last plans

pub in_force : (plan : PlanEntry) (old new : History) → Does (deploy plan) old new (Ok tt) → plan_in_force new ≡ plan
in_force plan old new does =
    ap plan_in_force does.booked
    ∙ (ap (last_from old.opening.plan) (filter_map-append deployed_by old.entries (entry.Deploy plan ∷ []))
    ∙ last-one_more old.opening.plan plan (filter_map deployed_by old.entries))

pub deployed : (document : List ℕ) (plan : PlanEntry) (old new : History) → plan_in document ≡ Ok plan → Does (deploy plan) old new (Ok tt)
    → IsBooked old new (Deploy document)
deployed document plan old new read does = deploy_booked document plan old new read does

pub refused : (plan : PlanEntry) (old new : History) (refusal : DeployRefusal) → Does (deploy plan) old new (Err refusal)
    → (answer old (deploy plan) ≡ Err refusal) ⊎ (refusal ≡ deploy_refusal.NoMemory)
refused plan old new refusal does = elim does.refused [
  | inl is ↦ inl is
  | inr (inl memory) ↦ inr memory
  | inr (inr outdated) ↦ absurd outdated
]
