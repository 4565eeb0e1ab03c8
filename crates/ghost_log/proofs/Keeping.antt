-- Lemmas that each step keeps the rule.
use Rattle.std.proofs.Common.{◌≡◌, ◌≢◌, ◌⊎◌, ℕ, zero, suc, ◌+◌, ◌<◌, ◌==◌, Bool, true, false, true≢false, List, [], ◌∷◌, ◌++◌, length, map, set, refl, sym, ap, ◌∙◌, subst, inl, inr, ⊎_elim, arith, length-set, All}
use Rattle.std.proofs.lemmas.List.Elements.{All-append, All-cons, All-head, All-nil, All-tail, All-weaker}
use Rattle.std.proofs.lemmas.List.Kept.{AllPairs-cons}
use Rattle.std.proofs.lemmas.Bool.Decides.{nat_tests}
use prog.Atomic.{either}
use mathlib.Core.Option.{some, some-ne-none, some-injective}
use lib.ListN.{get_elem?}
use Rattle.atomic_table.specs.Table.{Me, keeps, Allows, Splits, Joins}
use Rattle.atomic_table.proofs.Lists.{at_set}
use Rattle.ghost_log.specs.declared.rule.PassView.{PassView}
use Rattle.ghost_log.specs.Seats.{Agrees}
use Rattle.ghost_log.specs.inner.Passes.{AreApart, Fits, IsFirst, IsFitting, IsAlone, IsJoint, IsRoll, IsSeat, IsConsistent, HasCompared, HasAdded, with_entries, with_new_seat, seat_part, seat_view, joined_views, keeper_view, keeper_part, new_seat_view, empty_view, extended, first_seen, joint_view, roll_view}
use Rattle.ghost_log.proofs.Counting.{pairs_head, pairs_tail}
use Rattle.ghost_log.proofs.Seats.{agrees_self, agrees_others, none_yet, within_others}

off : false ≡ true → ⊥
off e = true≢false (sym e)

abbrev moved : ℕ → ℕ → (ℕ → ℕ) → ℕ → ℕ
moved k j owner i = either (i == k) j (owner i)

moved_by : (k j : ℕ) (owner : ℕ → ℕ) (i : ℕ) (b : Bool) → (i == k) ≡ b → (i ≡ k → moved k j owner i ≡ j) × (i ≢ k → moved k j owner i ≡ owner i)
moved_by k j owner i true is = ((λ _. rw is refl), (λ apart. absurd (apart (grind (arith, nat_tests)))))
moved_by k j owner i false is = ((λ same. absurd (grind (arith, nat_tests))), (λ _. rw is refl))

moved_here : (k j : ℕ) (owner : ℕ → ℕ) → moved k j owner k ≡ j
moved_here k j owner = (moved_by k j owner k (k == k) refl).0 refl

moved_else : (k j : ℕ) (owner : ℕ → ℕ) (i : ℕ) → i ≢ k → moved k j owner i ≡ owner i
moved_else k j owner i apart = (moved_by k j owner i (i == k) refl).1 apart

at_end : {A : Type 0} (l : List A) (a b : A) (j : ℕ) → get_elem? (l ++ a ∷ []) j ≡ some b → (get_elem? l j ≡ some b) ⊎ ((j ≡ length l) × (a ≡ b))
at_end [] a b zero e = inr (refl, some-injective a b e)
at_end [] a b (suc j) e = absurd (some-ne-none b (sym e))
at_end (x ∷ xs) a b zero e = inl e
at_end (x ∷ xs) a b (suc j) e = ⊎_elim (λ t. inl t) (λ t. inr (ap suc t.0, t.1)) (at_end xs a b j e)

module _ {E : Type 0} where
  apart_none : AreApart {E = E} []
  apart_none i j d before inside = absurd (omega arith)

  apart_more : (s : ℕ × List (ℕ × E)) (held : List (ℕ × List (ℕ × E))) → All (λ t. s.0 ≢ t.0) held → AreApart held → AreApart (s ∷ held)
  apart_more s held others apart = AllPairs-cons (λ s t. s.0 ≢ t.0) s held others apart

  apart_one : (s : ℕ × List (ℕ × E)) → AreApart (s ∷ [])
  apart_one s = apart_more s [] (All-nil (λ t. s.0 ≢ t.0)) apart_none

  -- a pass that is spent fits anywhere
  fits_empty : (keeper : ℕ) (log : List (ℕ × E)) (issued : ℕ) (owner : ℕ → ℕ) (by : ℕ) → Fits keeper log issued owner by empty_view
  fits_empty keeper log issued owner by = ((λ k. absurd (off k)), All-nil (IsSeat log issued owner by), apart_none)

  fits_keeper : (keeper : ℕ) (log : List (ℕ × E)) (issued : ℕ) (owner : ℕ → ℕ) (by : ℕ) (mine : List (ℕ × E)) (n : ℕ) → (by ≡ keeper) × (mine ≡ log) × (n ≡ issued) → Fits keeper log issued owner by (keeper_view mine n)
  fits_keeper keeper log issued owner by mine n known = ((λ _. known), All-nil (IsSeat log issued owner by), apart_none)

  one_seat : (log : List (ℕ × E)) (issued : ℕ) (owner : ℕ → ℕ) (by k : ℕ) (seen : List (ℕ × E)) → IsSeat log issued owner by (k, seen) → All (IsSeat log issued owner by) ((k, seen) ∷ [])
  one_seat log issued owner by k seen h = All-cons (IsSeat log issued owner by) (k, seen) [] h (All-nil (IsSeat log issued owner by))

  fits_seat : (keeper : ℕ) (log : List (ℕ × E)) (issued : ℕ) (owner : ℕ → ℕ) (by k : ℕ) (seen : List (ℕ × E)) → IsSeat log issued owner by (k, seen) → Fits keeper log issued owner by (seat_view k seen)
  fits_seat keeper log issued owner by k seen h = ((λ e. absurd (off e)), one_seat log issued owner by k seen h, apart_one (k, seen))

  fits_joint : (keeper : ℕ) (log : List (ℕ × E)) (issued : ℕ) (owner : ℕ → ℕ) (by : ℕ) (mine : List (ℕ × E)) (n k : ℕ) (seen : List (ℕ × E))
      → (by ≡ keeper) × (mine ≡ log) × (n ≡ issued) → IsSeat log issued owner by (k, seen) → Fits keeper log issued owner by (joint_view mine n k seen)
  fits_joint keeper log issued owner by mine n k seen known h = ((λ _. known), one_seat log issued owner by k seen h, apart_one (k, seen))

  -- seats of another pass, once a number moves
  seats_moved : (log : List (ℕ × E)) (issued : ℕ) (owner : ℕ → ℕ) (by k to from : ℕ) (held : List (ℕ × List (ℕ × E))) → owner k ≡ from → by ≢ from → All (IsSeat log issued owner by) held → All (IsSeat log issued (moved k to owner) by) held
  seats_moved log issued owner by k to from held its apart all =
      All-weaker (IsSeat log issued owner by) (IsSeat log issued (moved k to owner) by)
      (λ s h. (h.0, moved_else k to owner s.0 (λ (twice : s.0 ≡ k). apart (sym h.1 ∙ (ap owner twice ∙ its))) ∙ h.1, h.2)) held all

  each_set : (P : ℕ → PassView E → Type 0) (views : List (PassView E)) (by : ℕ) (w : PassView E) → ((j : ℕ) (u : PassView E) → j ≢ by → get_elem? views j ≡ some u → P j u) → P by w → (j : ℕ) (u : PassView E) → get_elem? (set views by w) j ≡ some u → P j u
  each_set P views by w others mine j u e =
      ⊎_elim
      (λ (x : (j ≡ by) × (w ≡ u)). subst (λ (y : ℕ × PassView E). P y.0 y.1) (λ i. (sym x.0 i, x.1 i)) mine)
      (λ (x : (j ≢ by) × (get_elem? views j ≡ some u)). others j u x.0 x.1)
      (at_set views by j w u e)

  each_end : (P : ℕ → PassView E → Type 0) (views : List (PassView E)) (n : ℕ) (w : PassView E) → n ≡ length views → ((j : ℕ) (u : PassView E) → get_elem? views j ≡ some u → P j u) → P n w → (j : ℕ) (u : PassView E) → get_elem? (views ++ w ∷ []) j ≡ some u → P j u
  each_end P views n w len others mine j u e =
      ⊎_elim
      (λ (x : get_elem? views j ≡ some u). others j u x)
      (λ (x : (j ≡ length views) × (w ≡ u)). subst (λ (y : ℕ × PassView E). P y.0 y.1) (λ i. ((len ∙ sym x.0) i, x.1 i)) mine)
      (at_end views w u j e)

  pub begins : IsConsistent {E = E} (keeper_view [] 0 ∷ [])
  begins = record { keeper = 0; log = []; issued = 0; owner = λ _. 0; within = All-nil (λ (x : ℕ × E). x.0 < 0); each = one }
    where
      one : (by : ℕ) (v : PassView E) → get_elem? (keeper_view [] 0 ∷ []) by ≡ some v → Fits 0 [] 0 (λ _. 0) by v
      one zero v e = subst (Fits 0 [] 0 (λ _. 0) 0) (some-injective _ _ e) (fits_keeper 0 [] 0 (λ _. 0) 0 [] 0 (refl, refl, refl))
      one (suc by) v e = absurd (some-ne-none v (sym e))

  -- seats that a pass of the keeper holds fit the log
  fitting : (by : ℕ) (log : List (ℕ × E)) (n : ℕ) (held : List (ℕ × List (ℕ × E))) (views : List (PassView E)) → IsConsistent views → get_elem? views by ≡ some (roll_view log n held) → IsFitting (roll_view log n held)
  fitting by log n held views h at =
      let mine = h.each by (roll_view log n held) at in
      let known : (by ≡ h.keeper) × (log ≡ h.log) × (n ≡ h.issued) = mine.0 refl in record {
        agreed = subst (λ l. All (λ (s : ℕ × List (ℕ × E)). Agrees s.0 s.1 l) held) (sym known.1)
            (All-weaker (IsSeat h.log h.issued h.owner by) (λ s. Agrees s.0 s.1 h.log) (λ s a. a.2) held mine.1);
        apart = mine.2;
        issued = subst (λ m. All (λ (s : ℕ × List (ℕ × E)). s.0 < m) held) (sym known.2)
            (All-weaker (IsSeat h.log h.issued h.owner by) (λ s. s.0 < h.issued) (λ s a. a.0) held mine.1);
        within = subst (λ (w : List (ℕ × E) × ℕ). All (λ (x : ℕ × E). x.0 < w.1) w.0) (λ i. (sym known.1 i, sym known.2 i)) h.within;
      }

  pub adds : (es : List E) (by : ℕ) (log : List (ℕ × E)) (n k : ℕ) (seen : List (ℕ × E)) (views : List (PassView E)) → IsConsistent views → get_elem? views by ≡ some (joint_view log n k seen)
      → IsConsistent (set views by (with_entries es (joint_view log n k seen))) × IsFitting (joint_view log n k seen)
  adds es by log n k seen views h at =
      let mine = h.each by (joint_view log n k seen) at in
      let known : (by ≡ h.keeper) × (log ≡ h.log) × (n ≡ h.issued) = mine.0 refl in
      let own : IsSeat h.log h.issued h.owner by (k, seen) = All-head (IsSeat h.log h.issued h.owner by) (k, seen) [] mine.1 in
      let more : List (ℕ × E) = map (λ e. (k, e)) es in
      let now : List (ℕ × E) = h.log ++ more in
      let same : log ++ more ≡ now = ap (λ l. l ++ more) known.1 in (
        record {
          keeper = h.keeper;
          log = now;
          issued = h.issued;
          owner = h.owner;
          within = All-append (λ (x : ℕ × E). x.0 < h.issued) h.log more h.within (within_others h.issued k es own.0);
          each = each_set (Fits h.keeper now h.issued h.owner) views by (with_entries es (joint_view log n k seen))
              (λ j u apart e. let was : Fits h.keeper h.log h.issued h.owner j u = h.each j u e in (
                (λ keeps. absurd (apart ((was.0 keeps).0 ∙ sym known.0))),
                All-weaker (IsSeat h.log h.issued h.owner j) (IsSeat now h.issued h.owner j)
                    (λ s o. (o.0, o.1, agrees_others s.0 k s.1 h.log es (λ (twice : k ≡ s.0). apart (sym o.1 ∙ (ap h.owner (sym twice) ∙ own.1))) o.2)) u.held was.1,
                was.2,
              ))
              (fits_joint h.keeper now h.issued h.owner by (log ++ more) n k (log ++ more) (known.0, same, known.2) (own.0, own.1, subst (λ l. Agrees k l now) (sym same) (agrees_self k now)));
        },
        fitting by log n ((k, seen) ∷ []) views h at,
      )

  pub compares : (by : ℕ) (log : List (ℕ × E)) (n : ℕ) (held : List (ℕ × List (ℕ × E))) (views : List (PassView E)) → IsConsistent views → get_elem? views by ≡ some (roll_view log n held)
      → IsConsistent (set views by (roll_view log n held)) × IsFitting (roll_view log n held)
  compares by log n held views h at = (
    record {
      keeper = h.keeper;
      log = h.log;
      issued = h.issued;
      owner = h.owner;
      within = h.within;
      each = each_set (Fits h.keeper h.log h.issued h.owner) views by (roll_view log n held) (λ j u apart e. h.each j u e) (h.each by (roll_view log n held) at);
    },
    fitting by log n held views h at,
  )

  -- the other seats of a pass, once a number moves
  seats_kept : (log : List (ℕ × E)) (issued : ℕ) (owner : ℕ → ℕ) (by k to : ℕ) (held : List (ℕ × List (ℕ × E))) → All (λ s. k ≢ s.0) held → All (IsSeat log issued owner by) held → All (IsSeat log issued (moved k to owner) by) held
  seats_kept log issued owner by k to [] apart all = All-nil (IsSeat log issued (moved k to owner) by)
  seats_kept log issued owner by k to (s ∷ held) apart all =
      let h : IsSeat log issued owner by s = All-head (IsSeat log issued owner by) s held all in
      let other : k ≢ s.0 = All-head (λ (s : ℕ × List (ℕ × E)). k ≢ s.0) s held apart in
      All-cons (IsSeat log issued (moved k to owner) by) s held
      (h.0, moved_else k to owner s.0 (λ (twice : s.0 ≡ k). other (sym twice)) ∙ h.1, h.2)
      (seats_kept log issued owner by k to held (All-tail (λ (s : ℕ × List (ℕ × E)). k ≢ s.0) s held apart) (All-tail (IsSeat log issued owner by) s held all))

  pub leaves : (by : ℕ) (log : List (ℕ × E)) (n k : ℕ) (seen : List (ℕ × E)) (held : List (ℕ × List (ℕ × E))) (views : List (PassView E)) → IsConsistent views → get_elem? views by ≡ some (roll_view log n ((k, seen) ∷ held))
      → IsConsistent (set views by (roll_view log n held) ++ seat_view k seen ∷ [])
  leaves by log n k seen held views h at =
      let mine = h.each by (roll_view log n ((k, seen) ∷ held)) at in
      let known : (by ≡ h.keeper) × (log ≡ h.log) × (n ≡ h.issued) = mine.0 refl in
      let own : IsSeat h.log h.issued h.owner by (k, seen) = All-head (IsSeat h.log h.issued h.owner by) (k, seen) held mine.1 in
      let rest : All (IsSeat h.log h.issued h.owner by) held = All-tail (IsSeat h.log h.issued h.owner by) (k, seen) held mine.1 in
      let others : All (λ s. k ≢ s.0) held = pairs_head (λ s t. s.0 ≢ t.0) (k, seen) held mine.2 in
      let end : ℕ = length views in
      let owner : ℕ → ℕ = moved k end h.owner in record {
        keeper = h.keeper;
        log = h.log;
        issued = h.issued;
        owner = owner;
        within = h.within;
        each = each_end (Fits h.keeper h.log h.issued owner) (set views by (roll_view log n held)) end (seat_view k seen) (sym (length-set views by (roll_view log n held)))
            (each_set (Fits h.keeper h.log h.issued owner) views by (roll_view log n held)
            (λ j u apart e. let was : Fits h.keeper h.log h.issued h.owner j u = h.each j u e in
            (was.0, seats_moved h.log h.issued h.owner j k end by u.held own.1 apart was.1, was.2))
            ((λ _. known), seats_kept h.log h.issued h.owner by k end held others rest, pairs_tail (λ s t. s.0 ≢ t.0) (k, seen) held mine.2))
            (fits_seat h.keeper h.log h.issued owner end k seen (own.0, moved_here k end h.owner, own.2));
      }

  pub issues : (by : ℕ) (log : List (ℕ × E)) (n : ℕ) (views : List (PassView E)) → IsConsistent views → get_elem? views by ≡ some (keeper_view log n)
      → IsConsistent (set views by (keeper_view log (n + 1)) ++ seat_view n [] ∷ [])
  issues by log n views h at =
      let mine = h.each by (keeper_view log n) at in
      let known : (by ≡ h.keeper) × (log ≡ h.log) × (n ≡ h.issued) = mine.0 refl in
      let end : ℕ = length views in
      let owner : ℕ → ℕ = moved n end h.owner in
      let within : All (λ (x : ℕ × E). x.0 < n) h.log = subst (λ m. All (λ (x : ℕ × E). x.0 < m) h.log) (sym known.2) h.within in record {
        keeper = h.keeper;
        log = h.log;
        issued = h.issued + 1;
        owner = owner;
        within = All-weaker (λ (x : ℕ × E). x.0 < h.issued) (λ (x : ℕ × E). x.0 < h.issued + 1) (λ x lt. omega arith) h.log h.within;
        each = each_end (Fits h.keeper h.log (h.issued + 1) owner) (set views by (keeper_view log (n + 1))) end (seat_view n []) (sym (length-set views by (keeper_view log (n + 1))))
            (each_set (Fits h.keeper h.log (h.issued + 1) owner) views by (keeper_view log (n + 1))
            (λ j u apart e. let was : Fits h.keeper h.log h.issued h.owner j u = h.each j u e in (
              (λ keeps. absurd (apart ((was.0 keeps).0 ∙ sym known.0))),
              All-weaker (IsSeat h.log h.issued h.owner j) (IsSeat h.log (h.issued + 1) owner j)
                  (λ s o. let lt : s.0 < h.issued = o.0 in let full : n ≡ h.issued = known.2 in
                  (omega arith, moved_else n end h.owner s.0 (λ (twice : s.0 ≡ n). absurd (omega arith)) ∙ o.1, o.2)) u.held was.1,
              was.2,
            ))
            (fits_keeper h.keeper h.log (h.issued + 1) owner by log (n + 1) (known.0, known.1, ap (λ m. m + 1) known.2)))
            (fits_seat h.keeper h.log (h.issued + 1) owner end n [] (
              (let full : n ≡ h.issued = known.2 in omega arith),
              moved_here n end h.owner,
              record { begins = (h.log, refl); own = none_yet n h.log within },
            ));
      }

  pub joins : (by : ℕ) (log : List (ℕ × E)) (n : ℕ) (held : List (ℕ × List (ℕ × E))) (other k : ℕ) (seen : List (ℕ × E)) (views : List (PassView E)) → IsConsistent views → get_elem? views by ≡ some (roll_view log n held) → ¬ (other ≡ by)
      → get_elem? (set views by (roll_view log n ((k, seen) ∷ held))) other ≡ some (seat_view k seen)
      → IsConsistent (set (set views by (roll_view log n ((k, seen) ∷ held))) other empty_view)
  joins by log n held other k seen views h at apart there =
      let joined : PassView E = roll_view log n ((k, seen) ∷ held) in
      let mine = h.each by (roll_view log n held) at in
      let known : (by ≡ h.keeper) × (log ≡ h.log) × (n ≡ h.issued) = mine.0 refl in
      let theirs : Fits h.keeper h.log h.issued h.owner other (seat_view k seen) =
      ⊎_elim (λ (t : (other ≡ by) × (joined ≡ seat_view k seen)). absurd (apart t.0)) (λ (t : (other ≢ by) × (get_elem? views other ≡ some (seat_view k seen))). h.each other (seat_view k seen) t.1) (at_set views by other joined (seat_view k seen) there) in
      let own : IsSeat h.log h.issued h.owner other (k, seen) = All-head (IsSeat h.log h.issued h.owner other) (k, seen) [] theirs.1 in
      let owner : ℕ → ℕ = moved k by h.owner in
      let P : ℕ → PassView E → Type 0 = λ j u. Fits h.keeper h.log h.issued owner j u in
      let here : by ≢ other = λ e. apart (sym e) in
      let seats : All (IsSeat h.log h.issued owner by) ((k, seen) ∷ held) =
      All-cons (IsSeat h.log h.issued owner by) (k, seen) held (own.0, moved_here k by h.owner, own.2) (seats_moved h.log h.issued h.owner by k by other held own.1 here mine.1) in
      let different : AreApart ((k, seen) ∷ held) =
      apart_more (k, seen) held (All-weaker (IsSeat h.log h.issued h.owner by) (λ s. k ≢ s.0) (λ s o. (λ (twice : k ≡ s.0). here (sym o.1 ∙ (ap h.owner (sym twice) ∙ own.1)))) held mine.1) mine.2 in
      let fits : P by joined = ((λ _. known), seats, different) in record {
        keeper = h.keeper;
        log = h.log;
        issued = h.issued;
        owner = owner;
        within = h.within;
        each = each_set P (set views by joined) other empty_view
            (λ j u elsewhere e. ⊎_elim
            (λ (x : (j ≡ by) × (joined ≡ u)). subst (λ (y : ℕ × PassView E). P y.0 y.1) (λ i. (sym x.0 i, x.1 i)) fits)
            (λ (x : (j ≢ by) × (get_elem? views j ≡ some u)). let was : Fits h.keeper h.log h.issued h.owner j u = h.each j u x.1 in
            (was.0, seats_moved h.log h.issued h.owner j k by other u.held own.1 elsewhere was.1, was.2))
            (at_set views by j joined u e))
            (fits_empty h.keeper h.log h.issued owner other);
      }

  module _ {S : Type 0} where
    pub adds_as : (es : List E) (slots id i k : ℕ) (me : Me S (PassView E)) → IsJoint k me → Allows (λ s. IsConsistent s.views) slots id me i (λ n. n) (λ n w. HasAdded es me w)
    adds_as es slots id i k me is s h len at below =
        let v = me.0 in
        let t = adds es id v.log v.issued k (first_seen v.held) s.views h (at ∙ ap (λ (m : Me S (PassView E)). some m.0) is) in
        (with_entries es v, keeps, tt, subst (λ (m : Me S (PassView E)). IsConsistent (set s.views id (with_entries es m.0))) (sym is) t.0, (refl, subst (λ (m : Me S (PassView E)). IsFitting m.0) (sym is) t.1))

    pub compares_as : (slots id i : ℕ) (me : Me S (PassView E)) → IsRoll me → Allows (λ s. IsConsistent s.views) slots id me i (λ n. n) (λ n w. HasCompared me w)
    compares_as slots id i me is s h len at below =
        let v = me.0 in
        let t = compares id v.log v.issued v.held s.views h (at ∙ ap (λ (m : Me S (PassView E)). some m.0) is) in
        (v, keeps, tt, subst (λ (m : Me S (PassView E)). IsConsistent (set s.views id m.0)) (sym is) t.0, (refl, subst (λ (m : Me S (PassView E)). IsFitting m.0) (sym is) t.1))

    pub leaves_as : (id k : ℕ) (me : Me S (PassView E)) → IsJoint k me → Splits {S = S} (λ s. IsConsistent s.views) id me.0 (keeper_part me.0) (seat_part me.0)
    leaves_as id k me is s h at =
        let v = me.0 in
        subst (λ (m : Me S (PassView E)). IsConsistent (set s.views id (keeper_part m.0) ++ seat_part m.0 ∷ [])) (sym is) (leaves id v.log v.issued k (first_seen v.held) [] s.views h (at ∙ ap (λ (m : Me S (PassView E)). some m.0) is))

    pub released_as : (id k : ℕ) (me : Me S (PassView E)) → IsRoll me → IsFirst k me.0.held → Splits {S = S} (λ s. IsConsistent s.views) id me.0 (keeper_part me.0) (seat_part me.0)
    released_as id k me is first s h at = by me.0.held refl
      where
        by : (held : List (ℕ × List (ℕ × E))) → me.0.held ≡ held → IsConsistent (set s.views id (keeper_part me.0) ++ seat_part me.0 ∷ [])
        by [] none = absurd (subst (IsFirst k) none first)
        by (x ∷ held) some_held =
            let v = me.0 in
            let now : v ≡ roll_view v.log v.issued (x ∷ held) = ap (λ (m : Me S (PassView E)). m.0) is ∙ ap (roll_view v.log v.issued) some_held in
            subst (λ (u : PassView E). IsConsistent (set s.views id (keeper_part u) ++ seat_part u ∷ [])) (sym now)
            (leaves id v.log v.issued x.0 x.1 held s.views h (at ∙ ap some now))

    pub issues_as : (id : ℕ) (me : Me S (PassView E)) → IsAlone me → Splits {S = S} (λ s. IsConsistent s.views) id me.0 (with_new_seat me.0) (new_seat_view me.0)
    issues_as id me is s h at =
        let v = me.0 in
        subst (λ (m : Me S (PassView E)). IsConsistent (set s.views id (with_new_seat m.0) ++ new_seat_view m.0 ∷ [])) (sym is) (issues id v.log v.issued s.views h (at ∙ ap (λ (m : Me S (PassView E)). some m.0) is))

    pub joins_as : (id other k : ℕ) (me : Me S (PassView E)) (w : PassView E) (seen : List (ℕ × E)) → IsRoll me → w ≡ seat_view k seen → Joins {S = S} (λ s. IsConsistent s.views) id me.0 other w (joined_views me.0 w) empty_view
    joins_as id other k me w seen is its s h at apart there =
        let v = me.0 in
        let both : joined_views v w ≡ roll_view v.log v.issued ((k, seen) ∷ v.held) = λ i. joined_views (is i).0 (its i) in
        subst (λ (u : PassView E). IsConsistent (set (set s.views id u) other empty_view)) (sym both)
        (joins id v.log v.issued v.held other k seen s.views h (at ∙ ap (λ (m : Me S (PassView E)). some m.0) is) apart
        (ap (λ (u : PassView E). get_elem? (set s.views id u) other) (sym both) ∙ (there ∙ ap some its)))

    pub alone_at : (me : Me S (PassView E)) (log : List (ℕ × E)) (n : ℕ) → me ≡ (keeper_view log n, []) → IsAlone me
    alone_at me log n is = subst (λ (m : Me S (PassView E)). m ≡ (keeper_view m.0.log m.0.issued, [])) (sym is) refl

    -- the keeper's pass with some seats
    pub roll_at : (me : Me S (PassView E)) (log : List (ℕ × E)) (n : ℕ) (held : List (ℕ × List (ℕ × E))) → me ≡ (roll_view log n held, []) → IsRoll me
    roll_at me log n held is = subst (λ (m : Me S (PassView E)). m ≡ (roll_view m.0.log m.0.issued m.0.held, [])) (sym is) refl

    pub joint_by : (k : ℕ) (me new : Me S (PassView E)) (w : PassView E) (seen : List (ℕ × E)) → IsAlone me → w ≡ seat_view k seen → new ≡ (joined_views me.0 w, me.1) → new ≡ (joint_view me.0.log me.0.issued k seen, [])
    joint_by k me new w seen is its to = to ∙ (λ i. (joined_views (is i).0 (its i), (is i).1))

    -- the one seat that is joined agrees with the log
    joint_agrees : (k : ℕ) (me : Me S (PassView E)) → IsJoint k me → IsFitting me.0 → Agrees k (first_seen me.0.held) me.0.log
    joint_agrees k me is h =
        let one : List (ℕ × List (ℕ × E)) = (k, first_seen me.0.held) ∷ [] in
        let all : All (λ (s : ℕ × List (ℕ × E)). Agrees s.0 s.1 me.0.log) one = subst (λ (l : List (ℕ × List (ℕ × E))). All (λ s. Agrees s.0 s.1 me.0.log) l) (ap (λ (m : Me S (PassView E)). m.0.held) is) h.agreed in
        All-head (λ (s : ℕ × List (ℕ × E)). Agrees s.0 s.1 me.0.log) (k, first_seen me.0.held) [] all

    pub added_as : (es : List E) (k : ℕ) (me new : Me S (PassView E)) → IsJoint k me → HasAdded es me new
        → (new ≡ (joint_view (extended k es me.0.log) me.0.issued k (extended k es me.0.log), [])) × Agrees k (first_seen me.0.held) me.0.log
    added_as es k me new is t = (t.0 ∙ ap (λ (m : Me S (PassView E)). (with_entries es m.0, m.1)) is, joint_agrees k me is t.1)

    pub compared_as : (k : ℕ) (me new : Me S (PassView E)) → IsJoint k me → HasCompared me new → (new ≡ me) × Agrees k (first_seen me.0.held) me.0.log
    compared_as k me new is t = (t.0, joint_agrees k me is t.1)

    pub left_as : (k : ℕ) (me new : Me S (PassView E)) → IsJoint k me → new ≡ (keeper_part me.0, me.1) → new ≡ (keeper_view me.0.log me.0.issued, [])
    left_as k me new is t = t ∙ ap (λ (m : Me S (PassView E)). (keeper_part m.0, m.1)) is

    pub gone_as : (k : ℕ) (me : Me S (PassView E)) → IsJoint k me → seat_part me.0 ≡ seat_view k (first_seen me.0.held)
    gone_as k me is = ap (λ (m : Me S (PassView E)). seat_part m.0) is

pub same_first : {A : Type 0} (x y : A) → x ∷ [] ≡ y ∷ [] → x ≡ y
same_first x y e = cc e
