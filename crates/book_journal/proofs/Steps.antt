-- What a journal holds, from step to step.
use Rattle.std.proofs.Common.{◌≡◌, ◌≤◌, ◌+◌, Bool, true, false, IsTrue, true≢false, List, [], ◌∷◌, ◌++◌, map, length, refl, sym, ap, subst, ◌∙◌, arith, append_assoc, length-append}
use Rattle.std.proofs.lemmas.List.{append-nil, map-append, length-map}
use Rattle.sqlite_trees.specs.Tree.{Trees}
use Rattle.sqlite_trees.specs.View.{View, IsClean, doubt}
use Rattle.event_log.specs.History.{History}
use Rattle.event_store.specs.Records.{AreDurable, Record as Row, records_in}
use Rattle.book_lock.specs.declared.copied.Copied.{Copied}
use Rattle.book_lock.specs.Durable.{changes_of}
use Rattle.book_lock.specs.Journal.{Copies, change_copied}
use Rattle.book_lock.specs.Log.{IsLegalLog, Log, Looks, SeatView}
use Rattle.book_journal.specs.inner.Held.{AreHeld, HasRows}
use Rattle.book_journal.specs.inner.Order.{HasCopied, IsInOrder, MayBeUsed}
use Rattle.book_journal.specs.inner.Rows.{IsRolledBack}
use Rattle.book_journal.proofs.Rows.{has_joined}

-- ---- copies

pub nothing_copied : (opening : History) (seat : SeatView) (unwritten : List Copied) → HasCopied opening seat seat unwritten unwritten
nothing_copied opening seat unwritten = record {
  number = refl;
  others = [];
  none_own = refl;
  seen = sym (append-nil seat.seen);
  legal = λ legal. legal;
  more = [];
  copied = sym (append-nil unwritten);
  changes = sym (append-nil (changes_of seat.seen));
}

pub all_copied : (opening : History) (old new : SeatView) (before copies : List Copied) → before ≡ [] → Copies opening old new copies → HasCopied opening old new before copies
all_copied opening old new before copies none c = record {
  number = c.number;
  others = c.others;
  none_own = c.none_own;
  seen = c.seen;
  legal = λ _. c.legal;
  more = copies;
  copied = ap (λ l. l ++ copies) (sym none);
  changes = c.changes;
}

pub looked : (opening : History) (old new : SeatView) (before after : List Copied) → IsLegalLog opening old.seen → HasCopied opening old new before after → Looks opening old new
looked opening old new before after legal c =
    record { number = c.number; others = c.others; none_own = c.none_own; seen = c.seen; legal = c.legal legal }

pub counted : (opening : History) (old new : SeatView) (before after : List Copied) → HasCopied opening old new before after
    → length (changes_of new.seen) + length before ≡ length (changes_of old.seen) + length after
counted opening old new before after c =
    let longer : length after ≡ length before + length c.more = ap length c.copied ∙ length-append before c.more in
    let changes : length (changes_of new.seen) ≡ length (changes_of old.seen) + length c.more =
    ap length c.changes ∙ length-append (changes_of old.seen) (map change_copied c.more) ∙ ap (λ k. length (changes_of old.seen) + k) (length-map c.more change_copied) in
    omega arith

-- ---- the order

pub in_order_first : (opening : History) (before : List Row) (v : View) (recovers : Trees → Type 0) (seen : Log) → seen ≡ [] → AreDurable v recovers before
    → (IsClean v → records_in v.trees ≡ before) → IsInOrder opening before v recovers seen [] false false
in_order_first opening before v recovers seen none durable sees =
    subst (λ (l : Log). IsInOrder opening before v recovers l [] false false) (sym none) (record {
      held = [];
      split = refl;
      legal = record { each = λ k x got. absurd cc };
      sees = λ _ _ clean. none_behind (records_in v.trees) (sees clean);
      leaves = λ _ _. record { each = λ clean db left. none_behind (records_in db) (durable clean db left) };
      whole = λ _ _. refl;
    })
  where
    none_behind : (all : List Row) → all ≡ before → HasRows before all []
    none_behind all is = record { rows = []; behind = is ∙ sym (append-nil before); are = tt }

none_before : (xs ys zs : List Copied) → zs ≡ xs ++ ys → zs ≡ [] → xs ≡ []
none_before [] ys zs is none = refl
none_before (x ∷ xs) ys zs is none = absurd cc

may_be_used : (no_room : Bool) (v : View) → IsTrue v.is_open → MayBeUsed no_room v
may_be_used true v is_open = is_open
may_be_used false v is_open = tt

was_clean : (v : View) → (v.is_clean ≡ false → v.is_open ≡ false) → IsTrue v.is_open → IsClean v
unfolding doubt
was_clean v shut is_open = by v.is_clean refl
  where
    by : (b : Bool) → v.is_clean ≡ b → doubt b ≡ 0
    by true is = refl
    by false is = absurd (true≢false (sym is_open ∙ shut is))

module _ (opening : History) (before : List Row) where
  pub in_order_copied : (v : View) (recovers : Trees → Type 0) (old new : SeatView) (unwritten after : List Copied) (failed no_room : Bool)
      → IsInOrder opening before v recovers old.seen unwritten failed no_room → HasCopied opening old new unwritten after
      → IsInOrder opening before v recovers new.seen after failed no_room
  in_order_copied v recovers old new unwritten after failed no_room o c = record {
    held = o.held;
    split =
        c.changes ∙ ap (λ l. l ++ map change_copied c.more) o.split ∙ append_assoc o.held (map change_copied unwritten) (map change_copied c.more)
        ∙ ap (λ l. o.held ++ l) (sym (map-append change_copied unwritten c.more)) ∙ ap (λ l. o.held ++ map change_copied l) (sym c.copied);
    legal = c.legal o.legal;
    sees = o.sees;
    leaves = o.leaves;
    whole = λ sound none. o.whole sound (none_before unwritten c.more after c.copied none);
  }

  pub in_order_failed : (v w : View) (recovers left : Trees → Type 0) (seen : Log) (unwritten : List Copied) (failed no_room : Bool)
      → IsInOrder opening before v recovers seen unwritten failed no_room → IsInOrder opening before w left seen unwritten true no_room
  in_order_failed v w recovers left seen unwritten failed no_room o = record {
    held = o.held;
    split = o.split;
    legal = o.legal;
    sees = λ (no : true ≡ false). absurd (true≢false no);
    leaves = λ (no : true ≡ false). absurd (true≢false no);
    whole = λ (no : true ≡ false). absurd (true≢false no);
  }

  pub in_order_without_room : (v w : View) (recovers left : Trees → Type 0) (seen : Log) (unwritten : List Copied) (no_room : Bool)
      → IsInOrder opening before v recovers seen unwritten false no_room → (unwritten ≡ [] → ⊥)
      → (IsTrue w.is_open → IsRolledBack v w) → (v.is_clean ≡ false → v.is_open ≡ false)
      → (IsTrue v.is_open → recovers v.committed) → ((db : Trees) → IsTrue w.is_open → left db → db ≡ w.committed)
      → IsInOrder opening before w left seen unwritten false true
  in_order_without_room v w recovers left seen unwritten no_room o some back shut stays settled = record {
    held = o.held;
    split = o.split;
    legal = o.legal;
    sees = λ _ is_open _. subst (λ (t : Trees). HasRows before (records_in t) o.held) (sym (back is_open).trees) (rows (back is_open).was_open);
    leaves = λ _ is_open. record {
      each = λ _ db is_left.
          subst (λ (t : Trees). HasRows before (records_in t) o.held) (sym (settled db is_open is_left ∙ (back is_open).committed))
          (rows (back is_open).was_open);
    };
    whole = λ _ none. absurd (some none);
  }
    where
      rows : IsTrue v.is_open → HasRows before (records_in v.committed) o.held
      rows was_open = (o.leaves refl (may_be_used no_room v was_open)).each (was_clean v shut was_open) v.committed (stays was_open)

  pub in_order_written : (v w : View) (recovers left : Trees → Type 0) (seen : Log) (unwritten : List Copied) (no_room : Bool)
      → IsInOrder opening before v recovers seen unwritten false no_room → doubt v.is_clean ≤ doubt w.is_clean
      → (IsClean w → IsTrue v.is_open)
      → (IsClean w → HasRows (records_in v.trees) (records_in w.trees) (map change_copied unwritten))
      → (IsClean w → (db : Trees) → left db → HasRows (records_in v.trees) (records_in db) (map change_copied unwritten))
      → IsInOrder opening before w left seen [] false false
  in_order_written v w recovers left seen unwritten no_room o clean was_open adds leaves = record {
    held = o.held ++ map change_copied unwritten;
    split = o.split ∙ sym (append-nil (o.held ++ map change_copied unwritten));
    legal = o.legal;
    sees = λ _ _ is_clean. has_joined before (records_in v.trees) (records_in w.trees) o.held (map change_copied unwritten) (seen_before is_clean) (adds is_clean);
    leaves = λ _ _. record {
      each = λ is_clean db is_left.
          has_joined before (records_in v.trees) (records_in db) o.held (map change_copied unwritten) (seen_before is_clean) (leaves is_clean db is_left);
    };
    whole = λ _ _. refl;
  }
    where
      was : IsClean w → IsClean v
      was is_clean = omega (arith, is_clean, clean)

      seen_before : IsClean w → HasRows before (records_in v.trees) o.held
      seen_before is_clean = o.sees refl (may_be_used no_room v (was_open is_clean)) (was is_clean)

  pub held_all : (v : View) (recovers : Trees → Type 0) (seen : Log) (unwritten : List Copied) (failed no_room : Bool)
      → IsInOrder opening before v recovers seen unwritten failed no_room
      → failed ≡ false → length unwritten ≡ 0 → AreHeld v recovers before (changes_of seen)
  held_all v recovers seen [] failed no_room o sound none =
      subst (AreHeld v recovers before) (sym (o.split ∙ append-nil o.held)) (o.leaves sound (subst (λ (b : Bool). MayBeUsed b v) (sym (o.whole sound refl)) tt))
  held_all v recovers seen (c ∷ more) failed no_room o sound none = absurd (omega (arith, none))

  pub in_order_after : (v w : View) (recovers left : Trees → Type 0) (old new : SeatView) (unwritten after : List Copied) (failed no_room : Bool)
      → IsInOrder opening before v recovers old.seen unwritten failed no_room → HasCopied opening old new unwritten after → failed ≡ false
      → doubt v.is_clean ≤ doubt w.is_clean
      → (IsClean w → IsTrue v.is_open)
      → (IsClean w → HasRows (records_in v.trees) (records_in w.trees) (map change_copied after))
      → (IsClean w → (db : Trees) → left db → HasRows (records_in v.trees) (records_in db) (map change_copied after))
      → IsInOrder opening before w left new.seen [] false false
  in_order_after v w recovers left old new unwritten after failed no_room o c sound clean was_open adds leaves =
      let copied = in_order_copied v recovers old new unwritten after failed no_room o c in
      in_order_written v w recovers left new.seen after no_room (subst (λ (b : Bool). IsInOrder opening before v recovers new.seen after b no_room) sound copied) clean was_open adds leaves
