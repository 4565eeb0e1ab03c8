-- A record that is booked again is no reason to stop.
use Rattle.std.proofs.Common.{◌≡◌, ◌⊎◌, inl, inr, ℕ, zero, suc, List, [], ◌∷◌, take, Option, None, Some, Result, Ok, Err, refl, sym, ap, subst, ◌∙◌}
use Rattle.std.specs.Prelude.{IsOk, IsErr, slice_get}
use Rattle.plan_text.specs.Entries.{PlanEntry}
use Rattle.plan_text.specs.Document.{plan_in}
use Rattle.plan_text.specs.declared.fault.PlanFault.{PlanFault}
use Rattle.event_log.specs.History.{History}
use Rattle.event_log.specs.Event.{answer, arrive, cancel, deploy, settle, take as take_front}
use Rattle.event_records.specs.declared.record.Record.{Record}
use Rattle.event_records.specs.declared.record.Record.TheVariants.{Arrival, Take, Settle, Cancel, Deploy, Prune}
use Rattle.book_replay.specs.declared.fault.ReplayFault.{ReplayFault}
use Rattle.book_replay.specs.declared.fault.ReplayFault.TheVariants.{NoMemory, Invalid, Refused, Differs}
use Rattle.book_replay.specs.Replay.{AreReplayed, IsReplayed, IsDeployed, IsDifferent, IsNotDeployed, IsRefused, IsStopped, after_record, after_records}

not_both : {A B : Type 0} (x : Result A B) → IsOk x → IsErr x → ⊥
not_both (Ok a) ok err = absurd cc
not_both (Err b) ok err = absurd cc

ok_of : {A B : Type 0} (x : Result A B) (y : A) → x ≡ Ok y → IsOk x
ok_of x y e = subst IsOk (sym e) refl

not_both_plans : (h : History) (x : Result PlanEntry PlanFault) → IsDeployed h x → IsNotDeployed h x → ⊥
not_both_plans h (Ok plan) is other = not_both (answer h (deploy plan)) is other
not_both_plans h (Err fault) is other = other

not_refused : (h : History) (r : Record) → IsReplayed h r → IsRefused h r → ⊥
not_refused h (Arrival conn channel raw told) is refused =
    not_both (answer h (arrive conn channel raw)) (ok_of (answer h (arrive conn channel raw)) told is) refused
not_refused h (Take d now) is refused = not_both (answer h (take_front d now)) is refused
not_refused h (Settle ticket outcome now) is refused = not_both (answer h (settle ticket outcome now)) is refused
not_refused h (Cancel number among) is refused = not_both (answer h (cancel number among)) is refused
not_refused h (Deploy document) is refused = not_both_plans h (plan_in document) is refused
not_refused h (Prune before) is refused = refused is

not_different : (h : History) (r : Record) → IsReplayed h r → IsDifferent h r → ⊥
not_different h (Arrival conn channel raw told) is other =
    let same : Ok other.0 ≡ Ok told = sym other.1 ∙ is in
    other.2 cc
not_different h (Take d now) is other = other
not_different h (Settle ticket outcome now) is other = other
not_different h (Cancel number among) is other = other
not_different h (Deploy document) is other = other
not_different h (Prune before) is other = other

answered_at : (h : History) (rs : List Record) (k : ℕ) (r : Record) → AreReplayed h rs → slice_get rs k ≡ Some r → IsReplayed (after_records h (take k rs)) r
answered_at h [] k r are found = absurd cc
answered_at h (x ∷ rs) zero r are found = let same : x ≡ r = cc in subst (IsReplayed h) same are.0
answered_at h (x ∷ rs) (suc k) r are found = answered_at (after_record h x) rs k r are.1 found

pub only : (index : ℕ) (fault : ReplayFault) (old new : History) (records : List Record) → AreReplayed old records → IsStopped index fault old new records
    → (fault ≡ NoMemory) ⊎ (fault ≡ Invalid)
only index NoMemory old new records are stopped = inl refl
only index Invalid old new records are stopped = inr refl
only index Refused old new records are stopped =
    absurd (not_refused (after_records old (take index records)) stopped.stop (answered_at old records index stopped.stop are stopped.found) stopped.stops.reason)
only index Differs old new records are stopped =
    absurd (not_different (after_records old (take index records)) stopped.stop (answered_at old records index stopped.stop are stopped.found) stopped.stops.reason)
