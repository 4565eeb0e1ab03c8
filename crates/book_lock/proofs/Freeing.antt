-- Which destinations are crowded after a pruning: none that was not before, where the book is not tight.
use Rattle.std.proofs.Common.{◌≡◌, ◌+◌, ◌*◌, ◌&&◌, ◌||◌, not, nat_lt, nat_le, true, false, Bool, ℕ, List, [], ◌∷◌, length, max, find, slice_get, None, Some, Option, refl, ap, sym, ◌∙◌, subst, arith}
use Rattle.std.proofs.lemmas.Bool.Decides.{nat_tests}
use Rattle.std.specs.Prelude.{option_and_then, option_map}
use Rattle.plan_text.specs.Entries.{ChannelEntry, RouteEntry}
use Rattle.event_log.specs.Answers.{attempts_max}
use Rattle.event_log.specs.Folding.{prune_answer, pruned}
use Rattle.event_log.specs.History.{History, plan_in_force, queue}
use Rattle.event_log.specs.Room.{owed}
use Rattle.event_log.specs.inner.Legal.{IsSound}
use Rattle.event_log.proofs.FoldedAlike.{pruned-alike}
use Rattle.event_log.proofs.Memories.{folded-owed}
use Rattle.book_core.specs.inner.Questions.{is_tight}
use Rattle.book_lock.specs.Crowding.{crowded_among, crowded_route, crowds, has_equal_share, is_crowded, load_of, owed_at, owed_by_queue}
use Rattle.book_lock.specs.declared.crowding.Load.{Load}

-- by numbers
crowds_more : (held owes bound here : ℕ) (share : Bool) → (nat_lt (3 * bound) (4 * (held + owes)) && not (nat_lt (8 * held) bound)) ≡ false
    → (nat_lt bound (2 * here) || (nat_lt (3 * bound) (4 * (0 + owes)) && nat_lt (8 * 0) bound) && share) ≡ true
    → (nat_lt bound (2 * here) || (nat_lt (3 * bound) (4 * (held + owes)) && nat_lt (8 * held) bound) && share) ≡ true
crowds_more held owes bound here share loose is = grind (arith, nat_tests)

-- where none passes a test, none passes one that is passed by fewer
none_passes : {A : Type 0} (p q : A → Bool) → ((x : A) → q x ≡ true → p x ≡ true) → (xs : List A) → find p xs ≡ None → find q xs ≡ None
none_passes p q fewer [] none = refl
none_passes p q fewer (x ∷ xs) none = by (p x) (q x) refl refl (λ rest. none_passes p q fewer xs rest)
  where
    by : (a b : Bool) → p x ≡ a → q x ≡ b → (find p xs ≡ None → find q xs ≡ None) → find q (x ∷ xs) ≡ None
    by true b is there more = let some : Some x ≡ None = rw is at none in absurd cc
    by false true is there more = let yes = fewer x there in absurd cc
    by false false is there more = rw there (more (rw is at none))

module _ (h : History) (sound : IsSound h) (before : ℕ) (may : prune_answer h before ≡ None) (loose : is_tight h ≡ false) where
  crowded_before : (d : ℕ) → is_crowded (pruned before h) d ≡ true → is_crowded h d ≡ true
  crowded_before d is =
      let alike = pruned-alike h sound before may in
      let at : owed_at (pruned before h) d ≡ owed_at h d = ap (λ q. owed_by_queue (length q) (attempts_max (plan_in_force h) d)) (alike.queues d) in
      let owes : owed (pruned before h) ≡ owed h = folded-owed h sound before may in
      let load : ℕ → Load = λ o. record { held = 0; owed = o; events_max = h.opening.events_max; destinations = length (plan_in_force h).destinations } in
      let now : crowds (load (owed h)) (owed_at h d) ≡ true = subst (λ (w : ℕ × ℕ). crowds (load w.0) w.1 ≡ true) (λ i. (owes i, at i)) is in
      crowds_more (length h.entries) (owed h) h.opening.events_max (owed_at h d) (has_equal_share (load_of h) (owed_at h d)) loose now

  free_among : (c : ChannelEntry) → crowded_among h c ≡ None → crowded_among (pruned before h) c ≡ None
  free_among c none = by (find (λ r. is_crowded h r.to) c.routes) refl none
    where
      by : (o : Option RouteEntry) → find (λ r. is_crowded h r.to) c.routes ≡ o → option_map (λ r. r.to) o ≡ None → crowded_among (pruned before h) c ≡ None
      by None is none = ap (option_map (λ r. r.to)) (none_passes (λ r. is_crowded h r.to) (λ r. is_crowded (pruned before h) r.to) (λ r. crowded_before r.to) c.routes is)
      by (Some r) is none = absurd cc

  pub free_after : (channel : ℕ) → crowded_route h channel ≡ None → crowded_route (pruned before h) channel ≡ None
  free_after channel none = by (slice_get (plan_in_force h).channels channel) none
    where
      by : (o : Option ChannelEntry) → option_and_then (crowded_among h) o ≡ None → option_and_then (crowded_among (pruned before h)) o ≡ None
      by None none = refl
      by (Some c) none = free_among c none
