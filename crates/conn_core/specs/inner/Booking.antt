-- What proofs use beside the page Booking.
use Rattle.std.specs.Prelude.{◌≡◌, ℕ, ◌+◌, zero, suc, List, [], ◌∷◌, ◌++◌, length, map, Result, Ok, Err, refl}
use Rattle.std.specs.List.{filter_map, range_with_len}
use Rattle.std.proofs.Common.{sym, ap, ◌∙◌, subst, append_assoc, append-nil, length-append, arith}
use Rattle.std.proofs.lemmas.List.{map-append}
use Rattle.conn_core.specs.declared.booking.Unbooked.{Unbooked}
use Rattle.book_core.specs.declared.receipt.Receipt.{Receipt}
use Rattle.event_log.specs.History.{History, deployed_by, next_place, plan_in_force}
use Rattle.event_log.specs.declared.entry.Entry.{Entry}
use Rattle.event_log.specs.declared.entry.Told.{Told}
use Rattle.event_log.proofs.Following.{plan-kept_all}
use Rattle.judge_core.specs.Judging.{Judgement}
use Rattle.plan_text.specs.Entries.{PlanEntry}
use Rattle.conn_core.specs.Booking.{arrival_by, Books, OutcomeAtBook}

-- the receipt that an outcome brings, if it brings one
abbrev pub receipts_of : Result Receipt Unbooked → List Receipt
receipts_of (Ok r) = r ∷ []
receipts_of (Err unbooked) = []

range-append : (a m n : ℕ) → range_with_len a (m + n) ≡ range_with_len a m ++ range_with_len (a + m) n
range-append a zero n = ap (range_with_len a) (omega arith) ∙ ap (λ b. range_with_len b n) (omega arith)
range-append a (suc m) n =
    let one : suc m + n ≡ suc (m + n) = omega arith in
    let next : (a + 1) + m ≡ a + suc m = omega arith in
    ap (range_with_len a) one
    ∙ ap (λ l. a ∷ l) (range-append (a + 1) m n)
    ∙ ap (λ b. a ∷ (range_with_len (a + 1) m ++ range_with_len b n)) next

length-map : {X Y : Type 0} (f : X → Y) (xs : List X) → length (map f xs) ≡ length xs
length-map f [] = refl
length-map f (x ∷ xs) = ap (λ n. suc n) (length-map f xs)

abbrev with_entries : History → List Entry → History
with_entries book entries = record book { entries = entries }

pub books_none : (book : History) → Books book book []
books_none book = record { history = ap (with_entries book) (sym (append-nil book.entries)); places = refl }

pub books_trans : (a b c : History) (xs ys : List Receipt) → Books a b xs → Books b c ys → Books a c (xs ++ ys)
books_trans a b c xs ys one two =
    let place : Receipt → ℕ = λ r. r.entry in
    let size : next_place b ≡ next_place a + length xs = omega (arith, ap next_place one.history, length-append a.entries (map arrival_by xs), length-map arrival_by xs) in
    record {
      history =
          two.history
          ∙ ap (λ (l : History). with_entries l (l.entries ++ map arrival_by ys)) one.history
          ∙ ap (with_entries a) (append_assoc a.entries (map arrival_by xs) (map arrival_by ys) ∙ ap (λ l. a.entries ++ l) (sym (map-append arrival_by xs ys)));
      places =
          map-append (λ (r : Receipt). r.entry) xs ys
          ∙ ap (λ l. l ++ map (λ (r : Receipt). r.entry) ys) one.places
          ∙ ap (λ l. range_with_len (next_place a) (length xs) ++ l) (two.places ∙ ap (λ n. range_with_len n (length ys)) size)
          ∙ sym (range-append (next_place a) (length xs) (length ys))
          ∙ ap (range_with_len (next_place a)) (sym (length-append xs ys));
    }

pub books_one : (old new : History) (r : Receipt) → new ≡ record old { entries = old.entries ++ arrival_by r ∷ [] } → r.entry ≡ next_place old → Books old new (r ∷ [])
books_one old new r grown place = record { history = grown; places = ap (λ n. n ∷ []) place }

-- arrivals deploy no plan
pub books_deploy_none : (rs : List Receipt) → filter_map deployed_by (map arrival_by rs) ≡ []
books_deploy_none [] = refl
books_deploy_none (r ∷ rs) = books_deploy_none rs

-- the plan in force stays
pub books_same_channels : (old new : History) (rs : List Receipt) → Books old new rs → length (plan_in_force new).channels ≡ length (plan_in_force old).channels
books_same_channels old new rs more =
    ap (λ (h : History). length (plan_in_force h).channels) more.history
    ∙ ap (λ (p : PlanEntry). length p.channels) (plan-kept_all old.opening.plan old.entries (map arrival_by rs) (books_deploy_none rs))

-- where nothing was booked the same may become of a message
pub books_same_outcomes : (old new : History) (judged : Judgement) (outcome : Result Told Unbooked) → Books old new [] → OutcomeAtBook new judged outcome → OutcomeAtBook old judged outcome
books_same_outcomes old new judged outcome none at =
    let same : new ≡ old = none.history ∙ ap (with_entries old) (append-nil old.entries) in
    subst (λ (h : History). OutcomeAtBook h judged outcome) same at
