-- What a call of the store leaves of the list of records.
use Rattle.std.proofs.Common.{◌≡◌, ℕ, ◌+◌, ◌<◌, ◌≤◌, true, false, true≢false, IsTrue, List, [], ◌∷◌, ◌++◌, map, length, pos, refl, sym, ap, subst, ◌∙◌, arith, length-append}
use Rattle.std.proofs.lemmas.Int.{ints}
use Rattle.std.proofs.lemmas.Bool.Decides.{nat_tests}
use Rattle.sqlite_value.specs.declared.value.Value.TheVariants.{Int}
use Rattle.std.specs.declared.cmp.Ordering.TheVariants.{Less}
use Rattle.sqlite_value.specs.Order.{Row, value_cmp}
use Rattle.sqlite_value.proofs.OrderLemmas.{value_cmp-Int}
use Rattle.sqlite_trees.specs.Tree.{Trees, put_row}
use Rattle.sqlite_trees.specs.View.{View, doubt, IsClean, SetsTree, OnlyWrites, Commits, IsRolledBack}
use Rattle.event_store.specs.Records.{Record, record_row, rows_from, record_in, records_in, HoldsRecords, EndsBefore, SeesRecords, KeepsRecords, LeavesRecords}
use Rattle.event_store.specs.inner.Reading.{OnlyReads}

lower_id : (m n : ℕ) → m < n → value_cmp (Int (pos m)) (Int (pos n)) ≡ Less
lower_id m n h = value_cmp-Int (pos m) (pos n) ∙ grind (arith, ints, nat_tests)

-- a row whose number is the next goes to the end
pub put_last : (n last : ℕ) (records : List Record) (r : Record) → last ≡ n + length records → put_row (record_row last r) (rows_from n records) ≡ rows_from n (records ++ r ∷ [])
put_last n last [] r is = ap (λ k. record_row k r ∷ []) (is ∙ omega arith)
put_last n last (q ∷ records) r is =
    rw (lower_id n last (omega (arith, is))) (ap (λ x. record_row n q ∷ x) (put_last (n + 1) last records r (omega (arith, is))))

-- the rows of records hold these records
pub records_of : (n : ℕ) (records : List Record) → map record_in (rows_from n records) ≡ records
records_of n [] = refl
records_of n (r ∷ records) = ap (λ x. r ∷ x) (records_of (n + 1) records)

-- the transaction sees one record more
pub put_record : (first : ℕ) (old new : View) (next : ℕ) (r : Record) (row : Row) → SeesRecords first old next → SetsTree old new 0 (put_row row) → row ≡ record_row next r
    → (new.trees 0 ≡ rows_from first (records_in old.trees ++ r ∷ [])) × (records_in new.trees ≡ records_in old.trees ++ r ∷ [])
put_record first old new next r row sees sets is =
    let was = sees sets.sound in
    let now : new.trees 0 ≡ put_row row (old.trees 0) = ap (λ (v : View). v.trees 0) sets.is in
    let last : put_row row (old.trees 0) ≡ rows_from first (records_in old.trees ++ r ∷ []) =
    ap (λ x. put_row x (old.trees 0)) is ∙ ap (put_row (record_row next r)) was.0 ∙ put_last first next (records_in old.trees) r (sym was.1) in
    (now ∙ last, ap (map record_in) (now ∙ last) ∙ records_of first (records_in old.trees ++ r ∷ []))

module _ (first : ℕ) (old new : View) (clean : doubt old.is_clean ≤ doubt new.is_clean) (broken_if_shut : new.is_open ≡ false → IsTrue new.is_broken) (shut_if_dirty : new.is_clean ≡ false → new.is_open ≡ false) where
  open_if_sound : new.is_broken ≡ false → IsTrue new.is_open
  open_if_sound sound = elim new.is_open as (λ b. (b ≡ false → IsTrue new.is_broken) → IsTrue b) [ true ↦ λ _. refl | false ↦ λ h. absurd (true≢false (sym (h refl) ∙ sound)) ] broken_if_shut

  pub clean_if_open : IsTrue new.is_open → IsClean new
  unfolding doubt
  clean_if_open h = elim new.is_clean as (λ b. (b ≡ false → new.is_open ≡ false) → doubt b ≡ 0) [ true ↦ λ _. refl | false ↦ λ shut. absurd (true≢false (sym h ∙ shut refl)) ] shut_if_dirty

  pub clean_if_sound : new.is_broken ≡ false → IsClean new
  clean_if_sound sound = clean_if_open (open_if_sound sound)

  pub sees_more : (next : ℕ) (r : Record) (row : Row) → SeesRecords first old next → (IsClean new → SetsTree old new 0 (put_row row)) → row ≡ record_row next r → SeesRecords first new (next + 1)
  sees_more next r row sees sets is sound =
      let set = sets (clean_if_sound sound) in
      let put = put_record first old new next r row sees set is in
      let was = sees set.sound in
      let longer : length (records_in new.trees) ≡ length (records_in old.trees) + 1 = ap length put.1 ∙ length-append (records_in old.trees) (r ∷ []) in
      (put.0 ∙ ap (rows_from first) (sym put.1), omega (arith, was.1, longer))

  pub keeps_commit : (next : ℕ) → KeepsRecords first old next → (IsClean new → OnlyWrites old new) → KeepsRecords first new next
  keeps_commit next keeps only is_open =
      let same = only (clean_if_open is_open) in
      let was : IsTrue old.is_open = ap (λ (v : View). v.is_open) (sym same) ∙ is_open in
      subst (EndsBefore first next) (ap (λ (v : View). v.committed) (sym same)) (keeps was)

  pub sees_commit : (next : ℕ) → SeesRecords first old next → (IsClean new → Commits old new) → SeesRecords first new next × KeepsRecords first new next
  sees_commit next sees commits =
      let seen = λ (h : IsClean new). sees (commits h).sound in (
        λ sound. subst (EndsBefore first next) (ap (λ (v : View). v.trees) (sym (commits (clean_if_sound sound)).is)) (seen (clean_if_sound sound)),
        λ is_open. subst (EndsBefore first next) (ap (λ (v : View). v.committed) (sym (commits (clean_if_open is_open)).is)) (seen (clean_if_open is_open)),
      )

  pub sees_undone : (next : ℕ) → KeepsRecords first old next → IsRolledBack old new → SeesRecords first new next × KeepsRecords first new next
  sees_undone next keeps undone =
      let was = λ (h : IsTrue new.is_open). let kept = undone.kept (clean_if_open h) in keeps (kept.was_open h) in (
        λ sound. let h = open_if_sound sound in subst (EndsBefore first next) (sym (undone.undone h).0) (was h),
        λ is_open. subst (EndsBefore first next) (sym ((undone.kept (clean_if_open is_open)).committed is_open)) (was is_open),
      )

  pub was_open_rolled_back : IsRolledBack old new → IsTrue new.is_open → IsTrue old.is_open
  was_open_rolled_back undone is_open = (undone.kept (clean_if_open is_open)).was_open is_open

  pub was_open_committed : (IsClean new → Commits old new) → IsTrue new.is_open → IsTrue old.is_open
  was_open_committed commits is_open = ap (λ (v : View). v.is_open) (sym (commits (clean_if_open is_open)).is) ∙ is_open

  pub was_open_written : (IsClean new → OnlyWrites old new) → IsTrue new.is_open → IsTrue old.is_open
  was_open_written only is_open = ap (λ (v : View). v.is_open) (sym (only (clean_if_open is_open))) ∙ is_open

  pub committed_kept : IsRolledBack old new → IsTrue new.is_open → new.committed ≡ old.committed
  committed_kept undone is_open = (undone.kept (clean_if_open is_open)).committed is_open

  pub opened_sees : (next : ℕ) → (IsClean new → OnlyReads old new) → (IsClean new → EndsBefore first next old.trees) → SeesRecords first new next
  opened_sees next only holds sound =
      let h = clean_if_sound sound in
      subst (EndsBefore first next) (ap (λ (v : View). v.trees) (sym (only h))) (holds h)

  pub opened_keeps : (given : View) (next : ℕ) → IsRolledBack given old → (IsClean new → OnlyReads old new) → (IsClean new → EndsBefore first next old.trees) → KeepsRecords first new next
  opened_keeps given next undone only holds is_open =
      let h = clean_if_open is_open in
      let same = only h in
      let was_open : IsTrue old.is_open = ap (λ (v : View). v.is_open) (sym same) ∙ is_open in
      let was_clean : IsClean old = ap (λ (v : View). doubt v.is_clean) (sym same) ∙ h in
      let rolled : old.committed ≡ old.trees = (undone.kept was_clean).committed was_open ∙ sym (undone.undone was_open).0 in
      subst (EndsBefore first next) (sym (ap (λ (v : View). v.committed) same ∙ rolled)) (holds h)

  pub opened_leaves : (recovers : Trees → Type 0) (next : ℕ) → ((db : Trees) → IsTrue new.is_open → recovers db → db ≡ new.committed) → KeepsRecords first new next → (IsClean new → old.is_broken ≡ false) → (IsClean new → OnlyReads old new)
      → LeavesRecords first new recovers
  opened_leaves recovers next settled keeps sound only clean db left =
      let is_open = open_if_sound (ap (λ (v : View). v.is_broken) (only clean) ∙ sound clean) in
      subst (HoldsRecords first) (sym (settled db is_open left)) (keeps is_open).0
