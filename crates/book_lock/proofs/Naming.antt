-- Which receipts of a history name a place.
use Rattle.std.proofs.Common.{◌≡◌, ◌≢◌, ℕ, ◌+◌, ◌<◌, ◌≤◌, zero, suc, Bool, true, false, not, ◌&&◌, cond, nat_lt, eqb, ltb, List, [], ◌∷◌, Option, Some, None, length, get_or, map, slice_index, All, sym, ap, refl, ◌∙◌, arith, option_to_list, ◌-◌, ◌⊎◌, ◌↔◌, inl, inr, Result, Ok, Err, OnOk, IfErr, IsOk}
use Rattle.std.specs.Prelude.{IsTrue, is_some, option_and_then}
use Rattle.std.specs.Prelude.{slice_get}
use Rattle.std.specs.List.{filter, filter_map, cons_option, range_with_len}
use Rattle.std.specs.List.Sorted.{IsPermutation}
use Rattle.std.proofs.lemmas.Bool.{eqb-true, eq-eqb, false≢true}
use Rattle.std.proofs.lemmas.List.Elements.{All-tail}
use Rattle.std.proofs.lemmas.Bool.Decides.{nat_tests}
use Rattle.std.proofs.lemmas.List.{get_or-map}
use Rattle.std.proofs.lemmas.Option.{slice_get_past}
use Rattle.event_log.specs.declared.entry.Entry.{Entry}
use Rattle.event_log.specs.declared.entry.Entry.TheVariants.{Arrival, Take, Settle, Cancel, Deploy}
use Rattle.event_log.specs.History.{entry_at, next_place}
use Rattle.book_core.specs.declared.receipt.Receipt.{Receipt}
use Rattle.book_lock.specs.Auditing.{receipt_at, receipt_due, receipts_due, naming, IsRightAt, IsFault, IsFirstFault, IsUnfolded, is_folded, unfolded}
use Rattle.book_lock.specs.Rises.{SharedBook}
use Rattle.book_lock.specs.declared.receipt_audit.AuditFault.{AuditFault}
use Rattle.book_lock.specs.declared.receipt_audit.AuditFault.TheVariants.{Missing, Doubled, Differs}
use Rattle.book_lock.proofs.Permuting.{permutation_from_alike, alike_from_permutation}

differ_at : (a b : ℕ) → a ≢ b → (t : Bool) → eqb a b ≡ t → eqb a b ≡ false
differ_at a b h true e = absurd (h (eqb-true a b e))
differ_at a b h false e = e

-- numbers that differ aren't equal by the test
pub differ : (a b : ℕ) → a ≢ b → eqb a b ≡ false
differ a b h = differ_at a b h (eqb a b) refl

cons_here : (o : Option Receipt) (p : ℕ) (rest : List Receipt) → ((r : Receipt) → o ≡ Some r → r.entry ≡ p) → naming p rest ≡ [] → naming p (cons_option o rest) ≡ option_to_list o
cons_here None p rest own none = none
cons_here (Some r) p rest own none = rw (eq-eqb r.entry p (own r refl)) (ap (λ w. r ∷ w) none)

cons_other : (o : Option Receipt) (p : ℕ) (rest : List Receipt) → ((r : Receipt) → o ≡ Some r → r.entry ≢ p) → naming p (cons_option o rest) ≡ naming p rest
cons_other None p rest own = refl
cons_other (Some r) p rest own = rw (differ r.entry p (own r refl)) refl

-- each receipt that is given for a place names it
abbrev Owns : (ℕ → Option Receipt) → Type 0
Owns g = (q : ℕ) (r : Receipt) → g q ≡ Some r → r.entry ≡ q

given_before : (g : ℕ → Option Receipt) → Owns g → (p a n : ℕ) → p < a → naming p (filter_map g (range_with_len a n)) ≡ []
given_before g own p a zero before = refl
given_before g own p a (suc n) before =
    cons_other (g a) p (filter_map g (range_with_len (a + 1) n)) (λ r is same. absurd (omega (arith, before, own a r is, same))) ∙ given_before g own p (a + 1) n (omega arith)

given_past : (g : ℕ → Option Receipt) → Owns g → (p a n : ℕ) → a + n ≤ p → naming p (filter_map g (range_with_len a n)) ≡ []
given_past g own p a zero past = refl
given_past g own p a (suc n) past =
    cons_other (g a) p (filter_map g (range_with_len (a + 1) n)) (λ r is same. absurd (omega (arith, past, own a r is, same))) ∙ given_past g own p (a + 1) n (omega arith)

given_here : (g : ℕ → Option Receipt) → Owns g → (k p a n : ℕ) → p ≡ a + k → k < n → naming p (filter_map g (range_with_len a n)) ≡ option_to_list (g p)
given_here g own k p a zero at inside = absurd (omega arith)
given_here g own zero p a (suc n) at inside =
    let q : a ≡ p = omega (arith, at) in
    cons_here (g a) p (filter_map g (range_with_len (a + 1) n)) (λ r is. own a r is ∙ q) (given_before g own p (a + 1) n (omega (arith, q))) ∙ ap (λ w. option_to_list (g w)) q
given_here g own (suc k) p a (suc n) at inside =
    cons_other (g a) p (filter_map g (range_with_len (a + 1) n)) (λ r is same. absurd (omega (arith, at, own a r is, same))) ∙ given_here g own k p (a + 1) n (omega (arith, at)) (omega arith)

receipt_names : (p : ℕ) (e : Entry) (r : Receipt) → receipt_at p e ≡ Some r → r.entry ≡ p
receipt_names p (Arrival conn channel raw told) r is = cc
receipt_names p (Take ticket now) r is = cc
receipt_names p (Settle outcome ticket now state) r is = cc
receipt_names p (Cancel number among mask) r is = cc
receipt_names p (Deploy plan) r is = cc

due_names : (o : Option Entry) (p : ℕ) (r : Receipt) → option_and_then (receipt_at p) o ≡ Some r → r.entry ≡ p
due_names None p r is = cc
due_names (Some e) p r is = receipt_names p e r is

owned : (h : SharedBook) → Owns (receipt_due h)
owned h q r is = due_names (entry_at h.book q) q r is

pub split_by : (m p : ℕ) (t : Bool) → ltb p m ≡ t → (m ≤ p) ⊎ (p < m)
split_by m p true e = inr (grind (arith, nat_tests))
split_by m p false e = inl (grind (arith, nat_tests))

-- nothing is due before the book was shared
pub due_before : (h : SharedBook) (p : ℕ) → p < h.first → naming p (receipts_due h) ≡ []
due_before h p before = given_before (receipt_due h) (owned h) p h.first (next_place h.book - h.first) before

-- nothing is due past the history
pub due_past : (h : SharedBook) (p : ℕ) → h.first ≤ next_place h.book → next_place h.book ≤ p → naming p (receipts_due h) ≡ []
due_past h p within past = given_past (receipt_due h) (owned h) p h.first (next_place h.book - h.first) (omega arith)

none_past : (h : SharedBook) (p : ℕ) → next_place h.book ≤ p → receipt_due h p ≡ None
none_past h p past =
    let since : nat_lt p h.book.opening.places ≡ false = grind (arith, nat_tests) in
    ap (λ b. option_and_then (receipt_at p) (cond b None (slice_get h.book.entries (p - h.book.opening.places)))) since
    ∙ ap (λ o. option_and_then (receipt_at p) o) (slice_get_past h.book.entries (p - h.book.opening.places) (omega arith))

-- what is due at a place since the book was shared
pub due_here : (h : SharedBook) (p : ℕ) → h.first ≤ next_place h.book → h.first ≤ p → naming p (receipts_due h) ≡ option_to_list (receipt_due h p)
due_here h p within after =
    elim (split_by (next_place h.book) p (ltb p (next_place h.book)) refl) [
      | inl past ↦ due_past h p within past ∙ sym (ap option_to_list (none_past h p past))
      | inr before ↦ given_here (receipt_due h) (owned h) (p - h.first) p h.first (next_place h.book - h.first) (omega arith) (omega arith)
    ]

option_short : {X : Type 0} (o : Option X) → length (option_to_list o) ≤ 1
option_short None = omega arith
option_short (Some x) = omega arith

-- no place has two receipts that are due
pub due_once : (h : SharedBook) → h.first ≤ next_place h.book → (p : ℕ) → length (naming p (receipts_due h)) ≤ 1
due_once h within p =
    elim (split_by h.first p (ltb p h.first) refl) [
      | inl after ↦ rw (due_here h p within after) (option_short (receipt_due h p))
      | inr before ↦ rw (due_before h p before) (omega arith)
    ]

both : (a b : Bool) → a && b ≡ true → (a ≡ true) × (b ≡ true)
both true true is = (refl, refl)
both true false is = absurd (false≢true is)
both false true is = absurd (false≢true is)
both false false is = absurd (false≢true is)

not_either : (a : Bool) → a && false ≡ false
not_either true = refl
not_either false = refl

not_true : (a : Bool) → not a ≡ true → a ≡ false
not_true true is = absurd (false≢true is)
not_true false is = refl

-- a folded place is below those that are held, and not below the first
folded_is : (h : SharedBook) (p : ℕ) → is_folded h p ≡ true → (h.first ≤ p) × (p < h.book.opening.places) × (nat_lt p h.book.opening.places ≡ true)
folded_is h p is =
    let tests = both (not (nat_lt p h.first)) (nat_lt p h.book.opening.places) is in
    let after = not_true (nat_lt p h.first) tests.0 in
    let below = tests.1 in (grind (arith, nat_tests), grind (arith, nat_tests), below)

-- nothing is due at a folded place
pub due_folded : (h : SharedBook) (p : ℕ) → is_folded h p ≡ true → naming p (receipts_due h) ≡ []
due_folded h p is =
    let at = folded_is h p is in
    let after : h.first ≤ p = at.0 in
    let below : p < h.book.opening.places = at.1 in
    due_here h p (omega arith) after
    ∙ ap (λ b. option_to_list (option_and_then (receipt_at p) (cond b None (slice_get h.book.entries (p - h.book.opening.places))))) at.2

-- a place past the history is not folded
pub open_past : (h : SharedBook) (p : ℕ) → next_place h.book ≤ p → is_folded h p ≡ false
open_past h p past =
    let test : nat_lt p h.book.opening.places ≡ false = grind (arith, nat_tests) in
    ap (λ b. not (nat_lt p h.first) && b) test ∙ not_either (not (nat_lt p h.first))

-- the receipts that name a place that isn't folded are still there without the others
naming_open : (f : ℕ → Bool) (receipts : List Receipt) (p : ℕ) → f p ≡ false → naming p (filter (λ r. not (f r.entry)) receipts) ≡ naming p receipts
naming_open f [] p stays = refl
naming_open f (r ∷ rs) p stays = by (f r.entry) refl (naming_open f rs p stays)
  where
    by : (b : Bool) → f r.entry ≡ b → naming p (filter (λ w. not (f w.entry)) rs) ≡ naming p rs → naming p (filter (λ w. not (f w.entry)) (r ∷ rs)) ≡ naming p (r ∷ rs)
    by true is rest =
        let other : eqb r.entry p ≡ false = differ r.entry p (λ same. absurd (false≢true (sym stays ∙ ap f (sym same) ∙ is))) in
        rw (is, other) rest
    by false is rest = rw is (ap (λ l. cond (eqb r.entry p) (r ∷ l) l) rest)

-- and none names one that is
naming_folded : (f : ℕ → Bool) (receipts : List Receipt) (p : ℕ) → f p ≡ true → naming p (filter (λ r. not (f r.entry)) receipts) ≡ []
naming_folded f [] p folded = refl
naming_folded f (r ∷ rs) p folded = by (f r.entry) refl (naming_folded f rs p folded)
  where
    by : (b : Bool) → f r.entry ≡ b → naming p (filter (λ w. not (f w.entry)) rs) ≡ [] → naming p (filter (λ w. not (f w.entry)) (r ∷ rs)) ≡ []
    by true is rest = rw is rest
    by false is rest =
        let other : eqb r.entry p ≡ false = differ r.entry p (λ same. absurd (false≢true (sym is ∙ ap f same ∙ folded))) in
        rw (is, other) rest

-- the receipts are a permutation of those that are due, folded places aside, exactly where they are right at each place
permuted : (h : SharedBook) (receipts : List Receipt) → ((p : ℕ) → IsRightAt h receipts p) → IsPermutation (unfolded h receipts) (receipts_due h)
permuted h receipts right = permutation_from_alike (λ r. r.entry) (receipts_due h) (unfolded h receipts) (λ p. by p (is_folded h p) refl)
  where
    by : (p : ℕ) (b : Bool) → is_folded h p ≡ b → naming p (unfolded h receipts) ≡ naming p (receipts_due h)
    by p true folded = naming_folded (is_folded h) receipts p folded ∙ sym (due_folded h p folded)
    by p false stays = naming_open (is_folded h) receipts p stays ∙ right p stays

named_alike : (h : SharedBook) (receipts : List Receipt) → h.first ≤ next_place h.book → IsPermutation (unfolded h receipts) (receipts_due h) → (p : ℕ) → IsRightAt h receipts p
named_alike h receipts within all p stays =
    sym (naming_open (is_folded h) receipts p stays) ∙ alike_from_permutation (λ r. r.entry) (unfolded h receipts) (receipts_due h) (due_once h within) all p

-- no receipt of places below `m` names one at `m` or past it
naming_none : (m p : ℕ) (receipts : List Receipt) → All (λ r. r.entry < m) receipts → m ≤ p → naming p receipts ≡ []
naming_none m p [] all h = refl
naming_none m p (r ∷ rs) all h =
    let here : r.entry < m = all 0 r (omega arith) in
    let other : eqb r.entry p ≡ false = differ r.entry p (λ same. absurd (omega (arith, same))) in
    rw other (naming_none m p rs (All-tail (λ (w : Receipt). w.entry < m) r rs all) h)

-- a place past the history and before the least one that is named there
naming_between : (from place p : ℕ) (receipts : List Receipt) → All (λ r. from ≤ r.entry → place ≤ r.entry) receipts → from ≤ p → p < place → naming p receipts ≡ []
naming_between from place p [] all after below = refl
naming_between from place p (r ∷ rs) all after below =
    let here : from ≤ r.entry → place ≤ r.entry = all 0 r (omega arith) in
    let other : eqb r.entry p ≡ false = differ r.entry p (λ same. absurd (omega (arith, same, here (omega (arith, same))))) in
    rw other (naming_between from place p rs (All-tail (λ (w : Receipt). from ≤ w.entry → place ≤ w.entry) r rs all) after below)

option_one : {X : Type 0} (o : Option X) (x : X) → x ∷ [] ≡ option_to_list o → o ≡ Some x
option_one None x h = cc
option_one (Some y) x h = cc

-- a receipt is not due where none is
pub not_due : (h : SharedBook) (r : Receipt) → naming r.entry (receipts_due h) ≡ [] → IsTrue false ↔ (r ∷ [] ≡ naming r.entry (receipts_due h))
not_due h r none = (λ f. absurd (false≢true f), λ same. let e : r ∷ [] ≡ [] = same ∙ none in cc)

-- a receipt is due at its place exactly where it is that of the entry there
pub due_if : (h : SharedBook) (r : Receipt) (e : Entry) (t : Bool) → h.first ≤ next_place h.book → h.first ≤ r.entry → entry_at h.book r.entry ≡ Some e
    → IsTrue t ↔ (receipt_at r.entry e ≡ Some r) → IsTrue t ↔ (r ∷ [] ≡ naming r.entry (receipts_due h))
due_if h r e t within after at says =
    let here : naming r.entry (receipts_due h) ≡ option_to_list (receipt_at r.entry e) =
    due_here h r.entry within after ∙ ap (λ o. option_to_list (option_and_then (receipt_at r.entry) o)) at in (
      λ yes. sym (here ∙ ap option_to_list (says.0 yes)),
      λ same. says.1 (option_one (receipt_at r.entry e) r (same ∙ here)),
    )

-- none is due where there is no entry
pub due_none : (h : SharedBook) (p : ℕ) → h.first ≤ next_place h.book → h.first ≤ p → entry_at h.book p ≡ None → naming p (receipts_due h) ≡ []
due_none h p within after at = due_here h p within after ∙ ap (λ o. option_to_list (option_and_then (receipt_at p) o)) at

some_due : (o : Option Receipt) (t : Bool) → is_some o ≡ t → IsTrue t ↔ (option_to_list o ≢ [])
some_due None t is = (λ yes. absurd (false≢true (is ∙ yes)), λ some. absurd (some refl))
some_due (Some r) t is = (λ yes none. cc, λ some. sym is)

-- one is due exactly where the entry is an arrival
pub due_if_arrival : (h : SharedBook) (p : ℕ) (e : Entry) (t : Bool) → h.first ≤ next_place h.book → h.first ≤ p → entry_at h.book p ≡ Some e
    → is_some (receipt_at p e) ≡ t → IsTrue t ↔ (naming p (receipts_due h) ≢ [])
due_if_arrival h p e t within after at is =
    let here : naming p (receipts_due h) ≡ option_to_list (receipt_at p e) = due_here h p within after ∙ ap (λ o. option_to_list (option_and_then (receipt_at p) o)) at in
    let says = some_due (receipt_at p e) t is in (λ yes none. says.0 yes (sym here ∙ none), λ some. says.1 (λ none. some (here ∙ none)))

pub none_due : (h : SharedBook) (p : ℕ) → naming p (receipts_due h) ≡ [] → IsTrue false ↔ (naming p (receipts_due h) ≢ [])
none_due h p none = (λ f. absurd (false≢true f), λ some. absurd (some none))

-- where no receipt names a place past the history, all places are right
pub all_right : (h : SharedBook) (receipts : List Receipt) → h.first ≤ next_place h.book → ((p : ℕ) → p < next_place h.book → IsRightAt h receipts p) → All (λ r. r.entry < next_place h.book) receipts → (p : ℕ) → IsRightAt h receipts p
all_right h receipts within below none p =
    elim (split_by (next_place h.book) p (ltb p (next_place h.book)) refl) [
      | inl past ↦ λ stays. naming_none (next_place h.book) p receipts none past ∙ sym (due_past h p within past)
      | inr before ↦ below p before
    ]

-- all places before the least that is named past the history are right
pub right_before : (h : SharedBook) (receipts : List Receipt) (place : ℕ) → h.first ≤ next_place h.book → ((p : ℕ) → p < next_place h.book → IsRightAt h receipts p) → All (λ r. next_place h.book ≤ r.entry → place ≤ r.entry) receipts → (p : ℕ) → p < place → IsRightAt h receipts p
right_before h receipts place within below least p before =
    elim (split_by (next_place h.book) p (ltb p (next_place h.book)) refl) [
      | inl past ↦ λ stays. naming_between (next_place h.book) place p receipts least past before ∙ sym (due_past h p within past)
      | inr here ↦ below p here
    ]

-- a receipt that names a place past the history is not due
pub stray : (h : SharedBook) (receipts : List Receipt) (place : ℕ) → h.first ≤ next_place h.book → next_place h.book ≤ place → 0 < length (naming place receipts) → naming place receipts ≢ naming place (receipts_due h)
stray h receipts place within past some same = omega (arith, ap length (same ∙ due_past h place within past))

fault_differs : (h : SharedBook) (receipts : List Receipt) (f : AuditFault) → h.first ≤ next_place h.book → IsFault h receipts f → IsUnfolded h f → IsPermutation (unfolded h receipts) (receipts_due h) → ⊥
fault_differs h receipts (Missing p) within fault stays all = fault.1 (sym (named_alike h receipts within all p stays) ∙ fault.0)
fault_differs h receipts (Doubled p) within fault stays all = omega (arith, fault, due_once h within p, ap length (named_alike h receipts within all p stays))
fault_differs h receipts (Differs p) within fault stays all = fault.1 (named_alike h receipts within all p stays)

-- the answer is Ok exactly where the receipts are those that are due, in any order, folded places aside
pub audit_ok : (h : SharedBook) (receipts : List Receipt) (r : Result Unit AuditFault) → h.first ≤ next_place h.book
    → OnOk r ((p : ℕ) → IsRightAt h receipts p)
    → IfErr r (IsFirstFault h receipts)
    → IsOk r ↔ IsPermutation (unfolded h receipts) (receipts_due h)
audit_ok h receipts (Ok u) within right fault = (λ _. permuted h receipts right, λ _. refl)
audit_ok h receipts (Err f) within right fault = (λ e. cc, λ all. absurd (fault_differs h receipts f within fault.0.0 fault.0.1 all))

-- one more place that rises
pub rises_more : (xs : List ℕ) (i : ℕ) → 1 ≤ i → ((k : ℕ) → k + 1 < i → slice_index xs k < slice_index xs (k + 1)) → slice_index xs (i - 1) < slice_index xs i → (k : ℕ) → k + 1 < i + 1 → slice_index xs k < slice_index xs (k + 1)
rises_more xs i some below here k h =
    elim (split_by i (k + 1) (ltb (k + 1) i) refl) [
      | inl last ↦
          let e : i - 1 ≡ k = omega arith in
          let f : i ≡ k + 1 = omega arith in
          omega (arith, here, ap (λ (j : ℕ). slice_index xs j) e, ap (λ (j : ℕ). slice_index xs j) f)
      | inr before ↦ below k before
    ]

-- the place of a receipt that was read
pub place_at : (receipts : List Receipt) (i : ℕ) (r : Receipt) → i < length receipts → slice_index (map (λ x. x.entry) receipts) i ≡ (get_or receipts i r).entry
place_at receipts i r h = get_or-map (λ (x : Receipt). x.entry) receipts i r 0 h
