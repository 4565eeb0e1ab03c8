-- Where no pruning was made, a book has grown by what was booked.
use Rattle.std.proofs.Common.{◌≡◌, false, cond, ltb, ℕ, ◌+◌, ◌-◌, ◌≤◌, zero, suc, List, [], ◌∷◌, ◌++◌, None, Some, refl, sym, ap, ◌∙◌, arith, append_assoc, length, map, take, drop}
use Rattle.std.specs.List.{slice_get}
use Rattle.std.proofs.lemmas.Bool.{le-ltb}
use Rattle.std.proofs.lemmas.List.{append-nil, drop_at, length-drop, map-append, nil_from_length}
use Rattle.event_log.specs.declared.entry.Entry.{Entry}
use Rattle.event_log.specs.History.{History, entry_at, followed_by, next_place, of_snapshot}
use Rattle.event_log.proofs.Replaying.{take-more}
use Rattle.book_lock.specs.declared.copied.Copied.{Copied}
use Rattle.book_lock.specs.declared.log_entry.LogEntry.TheVariants as log_entry
use Rattle.book_lock.specs.Log.{Log, after_log, with_entry}
use Rattle.book_lock.specs.Journal.{change_copied}
use Rattle.book_lock.specs.Durable.{changes_of}

-- a log without a pruning: what it booked, which the book has more
pub record Grows (h k : History) (log : Log) : Type 0 where
  pub es : List Entry
  pub are : changes_of log ≡ map log_entry.Booked es
  pub is : k ≡ of_snapshot h.opening (h.entries ++ es)

pub record Goes (h k : History) (log : Log) : Type 0 where
  pub more : h.opening.prunings ≤ k.opening.prunings
  pub stays : k.opening.prunings ≡ h.opening.prunings → Grows h k log

pub goes : (h : History) (log : Log) → Goes h (after_log h log) log
goes h [] = record {
  more = omega arith;
  stays = λ _. record { es = []; are = refl; is = ap (of_snapshot h.opening) (sym (append-nil h.entries)) };
}
goes h ((n, log_entry.Booked e) ∷ xs) =
    let k = followed_by h e in
    let rest = goes k xs in
    record {
      more = rest.more;
      stays = λ same.
          let grown = rest.stays same in
          record {
            es = e ∷ grown.es;
            are = ap (λ l. log_entry.Booked e ∷ l) grown.are;
            is = grown.is ∙ ap (of_snapshot h.opening) (append_assoc h.entries (e ∷ []) grown.es);
          };
    }
goes h ((n, log_entry.Pruned before) ∷ xs) =
    let rest = goes (with_entry h (log_entry.Pruned before)) xs in
    record { more = omega (arith, rest.more); stays = λ same. absurd (omega (arith, rest.more, same)) }
goes h ((n, log_entry.Durable below) ∷ xs) =
    let rest = goes h xs in
    record {
      more = rest.more;
      stays = λ same. let grown = rest.stays same in record { es = grown.es; are = grown.are; is = grown.is };
    }

pub changes-append : (xs ys : Log) → changes_of (xs ++ ys) ≡ changes_of xs ++ changes_of ys
changes-append [] ys = refl
changes-append ((n, log_entry.Booked e) ∷ xs) ys = ap (λ l. log_entry.Booked e ∷ l) (changes-append xs ys)
changes-append ((n, log_entry.Pruned before) ∷ xs) ys = ap (λ l. log_entry.Pruned before ∷ l) (changes-append xs ys)
changes-append ((n, log_entry.Durable below) ∷ xs) ys = changes-append xs ys

-- the entries behind those that a book had
pub behind : (h : History) (es : List Entry) (place : ℕ) → place ≡ next_place h → drop (place - h.opening.places) (h.entries ++ es) ≡ es
behind h es place at = drop_at h.entries es (place - h.opening.places) (omega (arith, at))

-- ---- a loop over entries

-- the copies so far are of the entries from a place on, up to another
pub record IsCopiedUpTo (h : History) (from to : ℕ) (copied : List Copied) : Type 0 where
  pub copies : map change_copied copied ≡ map log_entry.Booked (take (to - from) (drop (from - h.opening.places) h.entries))

drop-got : {A : Type 0} (n : ℕ) (xs : List A) (i : ℕ) → slice_get (drop n xs) i ≡ slice_get xs (n + i)
drop-got zero xs i =
    let e : i ≡ 0 + i = omega arith in
    ap (slice_get xs) e
drop-got (suc n) [] i = refl
drop-got (suc n) (x ∷ xs) i =
    let e : suc (n + i) ≡ suc n + i = omega arith in
    drop-got n xs i ∙ ap (slice_get (x ∷ xs)) e

take-all : {A : Type 0} (xs : List A) (n : ℕ) → length xs ≤ n → take n xs ≡ xs
take-all [] zero le = refl
take-all [] (suc n) le = refl
take-all (x ∷ xs) zero le = absurd (omega (arith, le))
take-all (x ∷ xs) (suc n) le = ap (λ l. x ∷ l) (take-all xs n (omega (arith, le)))

map-more : (copied : List Copied) (c : Copied) → map change_copied (copied ++ c ∷ []) ≡ map change_copied copied ++ change_copied c ∷ []
map-more [] c = refl
map-more (x ∷ xs) c = ap (λ l. change_copied x ∷ l) (map-more xs c)

pub none_copied : (h : History) (from : ℕ) → IsCopiedUpTo h from from []
none_copied h from = record { copies = let nothing : from - from ≡ 0 = omega arith in rw nothing refl }

-- a test for a place that is not passed
pub one_more : (h : History) (from place : ℕ) (copied : List Copied) (e : Entry) (c : Copied) → h.opening.places ≤ from → from ≤ place → entry_at h place ≡ Some e → change_copied c ≡ log_entry.Booked e
    → IsCopiedUpTo h from place copied → IsCopiedUpTo h from (place + 1) (copied ++ c ∷ [])
one_more h from place copied e c held past got is so_far =
    let old : ltb place h.opening.places ≡ false = le-ltb _ _ (omega (arith, held, past)) in
    let there : slice_get h.entries (place - h.opening.places) ≡ Some e =
    ap (λ b. cond b None (slice_get h.entries (place - h.opening.places))) (sym old) ∙ got in
    let at : (from - h.opening.places) + (place - from) ≡ place - h.opening.places = omega (arith, held, past) in
    let found : slice_get (drop (from - h.opening.places) h.entries) (place - from) ≡ Some e =
    drop-got (from - h.opening.places) h.entries (place - from) ∙ (ap (slice_get h.entries) at ∙ there) in
    let next : place + 1 - from ≡ suc (place - from) = omega (arith, past) in
    record {
      copies =
          map-more copied c
          ∙ (ap (λ l. l ++ change_copied c ∷ []) so_far.copies
          ∙ (ap (λ x. map log_entry.Booked (take (place - from) (drop (from - h.opening.places) h.entries)) ++ x ∷ []) is
          ∙ (sym (map-append log_entry.Booked (take (place - from) (drop (from - h.opening.places) h.entries)) (e ∷ []))
          ∙ (ap (map log_entry.Booked) (sym (take-more (drop (from - h.opening.places) h.entries) (place - from) e found))
          ∙ ap (λ n. map log_entry.Booked (take n (drop (from - h.opening.places) h.entries))) (sym next)))));
    }

-- at the end all are copied
pub all_copied : (h : History) (from to : ℕ) (copied : List Copied) → h.opening.places ≤ from → next_place h ≤ to → IsCopiedUpTo h from to copied
    → map change_copied copied ≡ map log_entry.Booked (drop (from - h.opening.places) h.entries)
all_copied h from to copied held end so_far =
    so_far.copies ∙ ap (map log_entry.Booked) (take-all (drop (from - h.opening.places) h.entries) (to - from) (omega (arith, held, end, length-drop (from - h.opening.places) h.entries)))

-- a loop from a place behind the end makes no turn
pub no_turn : (h : History) (from : ℕ) → h.opening.places ≤ from → next_place h ≤ from → [] ≡ map log_entry.Booked (drop (from - h.opening.places) h.entries)
no_turn h from held end = ap (map log_entry.Booked) (sym (nil_from_length (drop (from - h.opening.places) h.entries) (omega (arith, held, end, length-drop (from - h.opening.places) h.entries))))
