-- Lemmas on copies of changes that are kept for a journal.
use Rattle.std.specs.Prelude.{IfSome}
use Rattle.std.proofs.Common.{◌≡◌, ◌⊎◌, inl, inr, ℕ, ◌-◌, [], ◌∷◌, ◌++◌, Option, None, Some, refl, sym, ap, subst, ◌∙◌, arith, append_assoc, length, length-append, map, drop}
use Rattle.std.proofs.lemmas.List.{append-nil, map-append, nil_from_length}
use Rattle.event_log.specs.History.{History, next_place, of_snapshot}
use Rattle.event_log.specs.Folding.{pruned}
use Rattle.ghost_log.specs.Seats.{Agrees}
use Rattle.ghost_log.proofs.Seats.{rest_none}
use Rattle.book_lock.specs.declared.copied.Copied.TheVariants.{Prune}
use Rattle.book_lock.specs.declared.log_entry.LogEntry.{LogEntry}
use Rattle.book_lock.specs.declared.log_entry.LogEntry.TheVariants as log
use Rattle.book_lock.specs.declared.unread.Position.{Position}
use Rattle.book_lock.specs.declared.unread.UnreadChanges.{UnreadChanges}
use Rattle.book_lock.specs.Durable.{changes_of}
use Rattle.book_lock.specs.Journal.{Copies, change_copied}
use Rattle.book_lock.specs.Log.{IsBookOf, IsLegalLog, Log, SeatView, after_log}
use Rattle.book_lock.specs.inner.Unread.{AreSame, AreUnread, BeginsAt, HasAdded, HasPruning, IsAtEnd, IsNoneUnread, IsUnread}
use Rattle.book_lock.proofs.Copying.{behind, changes-append, goes}
use Rattle.book_lock.proofs.Planning.{after_both}

-- ---- two prefixes of a log

heads : (x y : ℕ × LogEntry) (xs ys : Log) → x ∷ xs ≡ y ∷ ys → x ≡ y
heads x y xs ys e = cc

tails : (x y : ℕ × LogEntry) (xs ys : Log) → x ∷ xs ≡ y ∷ ys → xs ≡ ys
tails x y xs ys e = cc

-- one prefix is longer than another
record IsLonger (short rest long end : Log) : Type 0 where
  more : Log
  is : long ≡ short ++ more
  rests : rest ≡ more ++ end

which_is_longer : (a b c d : Log) → a ++ b ≡ c ++ d → IsLonger a b c d ⊎ IsLonger c d a b
which_is_longer [] b c d e = inl (record { more = c; is = refl; rests = e })
which_is_longer (x ∷ a) b [] d e = inr (record { more = x ∷ a; is = refl; rests = sym e })
which_is_longer (x ∷ a) b (y ∷ c) d e =
    let same : x ≡ y = heads x y (a ++ b) (c ++ d) e in
    elim (which_is_longer a b c d (tails x y (a ++ b) (c ++ d) e)) [
      | inl p ↦ inl (record { more = p.more; is = ap (λ w. w ∷ c) (sym same) ∙ ap (λ l. x ∷ l) p.is; rests = p.rests })
      | inr p ↦ inr (record { more = p.more; is = ap (λ w. w ∷ a) same ∙ ap (λ l. y ∷ l) p.is; rests = p.rests })
    ]

-- ---- what is between positions

-- where no pruning was made, the changes are the entries that the book has more
since : (h : History) (start rest : Log) (book : History) (next prunings : ℕ) → book ≡ after_log h (start ++ rest) → IsAtEnd h start next prunings → prunings ≡ book.opening.prunings
    → changes_of rest ≡ map log.Booked (drop (next - book.opening.places) book.entries)
since h start rest book next prunings is at same =
    let there : History = after_log h start in
    let book_is : book ≡ after_log there rest = is ∙ after_both h start rest in
    let grown = (goes there rest).stays (ap (λ (b : History). b.opening.prunings) (sym book_is) ∙ (sym same ∙ at.made)) in
    let now_is : book ≡ of_snapshot there.opening (there.entries ++ grown.es) = book_is ∙ grown.is in
    let left : drop (next - book.opening.places) book.entries ≡ grown.es =
    ap (λ (b : History). drop (next - b.opening.places) b.entries) now_is ∙ behind there grown.es next at.next in
    grown.are ∙ ap (map log.Booked) (sym left)

-- between two positions that are the same there is no change
still : (h : History) (start rest : Log) (next prunings : ℕ) → IsAtEnd h start next prunings → IsAtEnd h (start ++ rest) next prunings → changes_of rest ≡ []
still h start rest next prunings at then =
    let there : History = after_log h start in
    let both : after_log h (start ++ rest) ≡ after_log there rest = after_both h start rest in
    let grown = (goes there rest).stays (ap (λ (b : History). b.opening.prunings) (sym both) ∙ (sym then.made ∙ at.made)) in
    let now_is : after_log h (start ++ rest) ≡ of_snapshot there.opening (there.entries ++ grown.es) = both ∙ grown.is in
    let none : length grown.es ≡ 0 = omega (arith, at.next, then.next, ap next_place now_is, length-append there.entries grown.es) in
    grown.are ∙ ap (map log.Booked) (nil_from_length grown.es none)

-- behind two prefixes at one position a log has the same changes
same_changes : (h : History) (a b c d : Log) (next prunings : ℕ) → a ++ b ≡ c ++ d → IsAtEnd h a next prunings → IsAtEnd h c next prunings → changes_of b ≡ changes_of d
same_changes h a b c d next prunings e at_a at_c =
    elim (which_is_longer a b c d e) [
      | inl p ↦
          let none = still h a p.more next prunings at_a (subst (λ (l : Log). IsAtEnd h l next prunings) p.is at_c) in
          ap changes_of p.rests ∙ (changes-append p.more d ∙ ap (λ l. l ++ changes_of d) none)
      | inr p ↦
          let none = still h c p.more next prunings at_c (subst (λ (l : Log). IsAtEnd h l next prunings) p.is at_a) in
          sym (ap changes_of p.rests ∙ (changes-append p.more b ∙ ap (λ l. l ++ changes_of b) none))
    ]

at_same : (h : History) (l : Log) (p q : Position) → AreSame q p → IsAtEnd h l p.next p.prunings → IsAtEnd h l q.next q.prunings
at_same h l p q same at = record { next = same.next ∙ at.next; made = same.prunings ∙ at.made }

at_end : (h : History) (entries : Log) (book : History) (p : Position) → IsBookOf h entries book → p.next ≡ next_place book → p.prunings ≡ book.opening.prunings → IsAtEnd h entries p.next p.prunings
at_end h entries book p was next prunings = record { next = next ∙ ap next_place was.is; made = prunings ∙ ap (λ (b : History). b.opening.prunings) was.is }

-- ---- what is kept

-- after one more entry of the log
pub unread_more : (h : History) (entries : Log) (x : ℕ × LogEntry) (kept : Option UnreadChanges) → IsUnread h entries kept → IsUnread h (entries ++ x ∷ []) kept
unread_more h entries x None was = tt
unread_more h entries x (Some u) was = record {
  before = was.before;
  between = was.between;
  after = was.after ++ x ∷ [];
  is = ap (λ l. l ++ x ∷ []) was.is ∙ (append_assoc was.before (was.between ++ was.after) (x ∷ []) ∙ ap (λ l. was.before ++ l) (append_assoc was.between was.after (x ∷ [])));
  starts = was.starts;
  ends = was.ends;
  are = was.are;
}

-- no copies, from the position of a seat on
none_unread : (h : History) (number : ℕ) (seen entries : Log) (at : Position) (new : UnreadChanges) → Agrees number seen entries → IsAtEnd h seen at.next at.prunings → IsNoneUnread at new
    → AreUnread h entries new.from new.to new.copies.items
none_unread h number seen entries at new agreed here none = record {
  before = seen;
  between = [];
  after = agreed.begins.0;
  is = sym agreed.begins.1;
  starts = at_same h seen at new.from none.from here;
  ends = subst (λ (l : Log). IsAtEnd h l new.to.next new.to.prunings) (sym (append-nil seen)) (at_same h seen at new.to none.to here);
  are = ap (map change_copied) (sym none.copies);
}

some_is : (u v : UnreadChanges) → ◌≡◌ {A = Option UnreadChanges} (Some u) (Some v) → u ≡ v
some_is u v e = cc

pub is_kept : (h : History) (entries : Log) (kept : Option UnreadChanges) (u : UnreadChanges) → kept ≡ Some u → IsUnread h entries kept → AreUnread h entries u.from u.to u.copies.items
is_kept h entries None u e was = absurd cc
is_kept h entries (Some v) u e was = subst (λ (w : UnreadChanges). AreUnread h entries w.from w.to w.copies.items) (some_is v u e) was

-- the copies for a reader
record AreFrom (h : History) (entries : Log) (at : Position) (new : UnreadChanges) : Type 0 where
  from : AreSame new.from at
  unread : AreUnread h entries new.from new.to new.copies.items

begins : (h : History) (number : ℕ) (seen entries : Log) (at : Position) (kept : Option UnreadChanges) (new : UnreadChanges) → IsUnread h entries kept → Agrees number seen entries → IsAtEnd h seen at.next at.prunings
    → BeginsAt at kept new → AreFrom h entries at new
begins h number seen entries at kept new was agreed here (inl p) = record { from = p.1; unread = is_kept h entries kept new p.0 was }
begins h number seen entries at kept new was agreed here (inr none) = record { from = none.from; unread = none_unread h number seen entries at new agreed here none }

-- with copies of the entries of the book behind them
pub unread_added : (h : History) (entries : Log) (book : History) (old new : UnreadChanges) → IsBookOf h entries book → AreUnread h entries old.from old.to old.copies.items → HasAdded book old new
    → AreUnread h entries new.from new.to new.copies.items
unread_added h entries book old new was u has =
    elim has.added [
      | inl same ↦ record {
        before = u.before;
        between = u.between;
        after = u.after;
        is = u.is;
        starts = at_same h u.before old.from new.from has.from u.starts;
        ends = at_same h (u.before ++ u.between) old.to new.to same.to u.ends;
        are = u.are ∙ ap (map change_copied) (sym same.copies);
      }
      | inr more ↦
          let start : Log = u.before ++ u.between in
          let whole : entries ≡ start ++ u.after = u.is ∙ sym (append_assoc u.before u.between u.after) in
          let rest = since h start u.after book old.to.next old.to.prunings (was.is ∙ ap (after_log h) whole) u.ends more.same in
          record {
            before = u.before;
            between = u.between ++ u.after;
            after = [];
            is = u.is ∙ ap (λ l. u.before ++ l) (sym (append-nil (u.between ++ u.after)));
            starts = at_same h u.before old.from new.from has.from u.starts;
            ends = subst (λ (l : Log). IsAtEnd h l new.to.next new.to.prunings) u.is (at_end h entries book new.to was more.next (more.prunings ∙ more.same));
            are = changes-append u.between u.after ∙ ((λ i. u.are i ++ rest i) ∙ sym more.copies);
          }
    ]

-- with a pruning behind them
pub unread_pruned : (h : History) (entries entries' : Log) (number before prunings : ℕ) (book book' : History) (at : Position) (kept new : Option UnreadChanges)
    → IsBookOf h entries book → IsBookOf h entries' book' → IsUnread h entries kept → at.next ≡ next_place book → at.prunings ≡ book.opening.prunings
    → book' ≡ pruned before book → prunings ≡ book'.opening.prunings → entries' ≡ entries ++ (number, log.Pruned before) ∷ []
    → IfSome new (HasPruning at before prunings kept) → IsUnread h entries' new
unread_pruned h entries entries' number before prunings book book' at kept None was then unread next made is now added has = tt
unread_pruned h entries entries' number before prunings book book' at kept (Some v) was then unread next made is now added has =
    let u = is_kept h entries kept has.old has.is unread in
    let x : ℕ × LogEntry = (number, log.Pruned before) in
    let start : Log = u.before ++ u.between in
    let whole : entries ≡ start ++ u.after = u.is ∙ sym (append_assoc u.before u.between u.after) in
    let here : IsAtEnd h start at.next at.prunings = at_same h start has.old.to at (record { next = sym has.ends.next; prunings = sym has.ends.prunings }) u.ends in
    let quiet : changes_of u.after ≡ [] = still h start u.after at.next at.prunings here (subst (λ (l : Log). IsAtEnd h l at.next at.prunings) whole (at_end h entries book at was next made)) in
    let index : next_place book' ≡ next_place (pruned before book) = ap next_place is in
    let same_index : v.to.next ≡ next_place book' = omega (arith, has.next, next, index) in
    let all : entries' ≡ u.before ++ (u.between ++ (u.after ++ x ∷ [])) =
    added ∙ (ap (λ l. l ++ x ∷ []) u.is ∙ (append_assoc u.before (u.between ++ u.after) (x ∷ []) ∙ ap (λ l. u.before ++ l) (append_assoc u.between u.after (x ∷ [])))) in
    let changes : changes_of (u.after ++ x ∷ []) ≡ log.Pruned before ∷ [] = changes-append u.after (x ∷ []) ∙ ap (λ l. l ++ log.Pruned before ∷ []) quiet in
    record {
      before = u.before;
      between = u.between ++ (u.after ++ x ∷ []);
      after = [];
      is = all ∙ ap (λ l. u.before ++ l) (sym (append-nil (u.between ++ (u.after ++ x ∷ []))));
      starts = at_same h u.before has.old.from v.from has.from u.starts;
      ends = subst (λ (l : Log). IsAtEnd h l v.to.next v.to.prunings) all (at_end h entries' book' v.to then same_index (has.made ∙ now));
      are =
          changes-append u.between (u.after ++ x ∷ [])
          ∙ ((λ i. u.are i ++ changes i)
          ∙ sym (ap (map change_copied) has.copies ∙ map-append change_copied has.old.copies.items (Prune before ∷ [])));
    }

-- ---- what is copied

-- copies for a reader up to the end of the book are those of what others added to the log
pub copied_all : (h : History) (old new : SeatView) (entries : Log) (book : History) (at : Position) (kept : Option UnreadChanges) (first last : UnreadChanges) → IsBookOf h entries book → Agrees old.number old.seen entries
    → new ≡ record { number = old.number; seen = entries } → IsAtEnd h old.seen at.next at.prunings → IsUnread h entries kept → BeginsAt at kept first → HasAdded book first last
    → last.to.next ≡ next_place book → last.to.prunings ≡ book.opening.prunings
    → Copies h old new last.copies.items
copied_all h old new entries book at kept first last was agreed is here unread begun has next made =
    let from = begins h old.number old.seen entries at kept first unread agreed here begun in
    let u = unread_added h entries book first last was from.unread has in
    let rest : Log = agreed.begins.0 in
    let whole : old.seen ++ rest ≡ entries = agreed.begins.1 in
    let start : Log = u.before ++ u.between in
    let there : IsAtEnd h u.before at.next at.prunings =
    at_same h u.before last.from at (record { next = sym (has.from.next ∙ from.from.next); prunings = sym (has.from.prunings ∙ from.from.prunings) }) u.starts in
    let quiet : changes_of u.after ≡ [] =
    still h start u.after last.to.next last.to.prunings u.ends (subst (λ (l : Log). IsAtEnd h l last.to.next last.to.prunings) (u.is ∙ sym (append_assoc u.before u.between u.after)) (at_end h entries book last.to was next made)) in
    let are : changes_of rest ≡ map change_copied last.copies.items =
    same_changes h old.seen rest u.before (u.between ++ u.after) at.next at.prunings (whole ∙ u.is) here there
    ∙ (changes-append u.between u.after ∙ ((λ i. changes_of u.between ++ quiet i) ∙ (append-nil (changes_of u.between) ∙ u.are))) in
    let seen : new.seen ≡ entries = ap (λ (s : SeatView). s.seen) is in record {
      number = ap (λ (s : SeatView). s.number) is;
      others = rest;
      none_own = rest_none old.number old.seen entries agreed.begins (ap length (sym agreed.own));
      seen = seen ∙ sym whole;
      legal = subst (IsLegalLog h) (sym seen) was.legal;
      are = are;
      changes = ap changes_of (seen ∙ sym whole) ∙ (changes-append old.seen rest ∙ ap (λ l. changes_of old.seen ++ l) are);
    }

-- what is kept where memory for the rest was refused, or a pruning is between
pub kept_still : (h : History) (number : ℕ) (seen entries : Log) (book : History) (at : Position) (kept : Option UnreadChanges) (first last : UnreadChanges) → IsBookOf h entries book → Agrees number seen entries
    → IsAtEnd h seen at.next at.prunings → IsUnread h entries kept → BeginsAt at kept first → HasAdded book first last → IsUnread h entries (Some last)
kept_still h number seen entries book at kept first last was agreed here unread begun has = unread_added h entries book first last was (begins h number seen entries at kept first unread agreed here begun).unread has

-- nothing is kept from the end on
pub kept_anew : (h : History) (entries : Log) (book : History) (at : Position) (new : UnreadChanges) → IsBookOf h entries book → at.next ≡ next_place book → at.prunings ≡ book.opening.prunings → BeginsAt at None new → IsUnread h entries (Some new)
kept_anew h entries book at new was next made (inl p) = absurd (let e = p.0 in cc)
kept_anew h entries book at new was next made (inr none) =
    let here = at_end h entries book at was next made in record {
      before = entries;
      between = [];
      after = [];
      is = sym (append-nil entries);
      starts = at_same h entries at new.from none.from here;
      ends = subst (λ (l : Log). IsAtEnd h l new.to.next new.to.prunings) (sym (append-nil entries)) (at_same h entries at new.to none.to here);
      are = ap (map change_copied) (sym none.copies);
    }
