-- Copies of changes that are kept for a journal until its reader takes them.
use Rattle.std.specs.Prelude.{◌≡◌, ◌⊎◌, ℕ, ◌-◌, List, [], ◌∷◌, ◌++◌, Option, Some, IfSome, drop, map}
use Rattle.event_log.specs.History.{History, next_place}
use Rattle.book_lock.specs.declared.copied.Copied.{Copied}
use Rattle.book_lock.specs.declared.copied.Copied.TheVariants.{Prune}
use Rattle.book_lock.specs.declared.log_entry.LogEntry.TheVariants.{Booked}
use Rattle.book_lock.specs.declared.unread.Position.{Position}
use Rattle.book_lock.specs.declared.unread.UnreadChanges.{UnreadChanges}
use Rattle.book_lock.specs.Durable.{changes_of}
use Rattle.book_lock.specs.Journal.{change_copied}
use Rattle.book_lock.specs.Log.{Log, after_log}

-- the index of the next entry, and the number of prunings, after what was seen of a log
pub record IsAtEnd (opening : History) (seen : Log) (index prunings : ℕ) : Type 0 where
  pub next : index ≡ next_place (after_log opening seen)
  pub made : prunings ≡ (after_log opening seen).opening.prunings

-- two positions are the same
pub record AreSame (p q : Position) : Type 0 where
  pub next : p.next ≡ q.next
  pub prunings : p.prunings ≡ q.prunings

-- copies of the changes of a log between two of its positions, in order
pub record AreUnread (opening : History) (entries : Log) (from to : Position) (copied : List Copied) : Type 0 where
  pub before : Log
  pub between : Log
  pub after : Log
  pub is : entries ≡ before ++ (between ++ after)
  pub starts : IsAtEnd opening before from.next from.prunings
  pub ends : IsAtEnd opening (before ++ between) to.next to.prunings
  pub are : changes_of between ≡ map change_copied copied

-- the copies that are kept, if any are, are such copies
abbrev pub IsUnread : History → Log → Option UnreadChanges → Type 0
IsUnread opening entries kept = IfSome kept (λ u. AreUnread opening entries u.from u.to u.copies.items)

-- no copies, from a position on
pub record IsNoneUnread (at : Position) (new : UnreadChanges) : Type 0 where
  pub from : AreSame new.from at
  pub to : AreSame new.to at
  pub copies : new.copies.items ≡ []

-- the copies that were kept for a reader at a position, or none
abbrev pub BeginsAt : Position → Option UnreadChanges → UnreadChanges → Type 0
BeginsAt at kept new = ((kept ≡ Some new) × AreSame new.from at) ⊎ IsNoneUnread at new

-- copies of the entries of a book were added
pub record IsMore (h : History) (old new : UnreadChanges) : Type 0 where
  pub same : old.to.prunings ≡ h.opening.prunings
  pub next : new.to.next ≡ next_place h
  pub prunings : new.to.prunings ≡ old.to.prunings
  pub copies : map change_copied new.copies.items
      ≡ map change_copied old.copies.items ++ map Booked (drop (old.to.next - h.opening.places) h.entries)

-- the same copies
pub record IsUnchanged (old new : UnreadChanges) : Type 0 where
  pub to : AreSame new.to old.to
  pub copies : new.copies.items ≡ old.copies.items

-- copies of the entries of a book were added, or nothing was
pub record HasAdded (h : History) (old new : UnreadChanges) : Type 0 where
  pub from : AreSame new.from old.from
  pub added : IsUnchanged old new ⊎ IsMore h old new

-- a pruning was added to the copies that were kept, which end where it was made
pub record HasPruning (at : Position) (before prunings : ℕ) (kept : Option UnreadChanges) (new : UnreadChanges) : Type 0 where
  pub old : UnreadChanges
  pub is : kept ≡ Some old
  pub ends : AreSame old.to at
  pub from : AreSame new.from old.from
  pub next : new.to.next ≡ at.next
  pub made : new.to.prunings ≡ prunings
  pub copies : new.copies.items ≡ old.copies.items ++ Prune before ∷ []
