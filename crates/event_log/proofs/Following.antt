-- What one more entry changes.
use Rattle.std.proofs.Common.{◌≡◌, ◌≢◌, ℕ, ◌+◌, ◌-◌, ◌<◌, ◌≤◌, ◌⊎◌, inl, inr, Bool, true, false, cond, not, ◌==◌, nat_lt, List, [], ◌∷◌, ◌++◌, length, take, Option, None, Some, refl, sym, ◌∙◌, ap, subst, arith, suc, zero, length-append}
use Rattle.std.specs.Prelude.{filter, is_some, slice_get, option_to_list, if◌then◌else◌}
use Rattle.std.specs.List.{filter_map, cons_option, position, position_or_len, range_with_len}
use Rattle.std.specs.Option.{option_map, option_map_or}
use Rattle.std.proofs.lemmas.Bool.Decides.{eqb_tells, nat_tests}
use Rattle.std.proofs.lemmas.List.{append-nil}
use Rattle.std.proofs.lemmas.List.Elements.{filter-append, filter_map-append}
use Rattle.std.proofs.lemmas.List.Folds.{position_or_len_push}
use Rattle.std.proofs.lemmas.List.Sums.{prefix_len-le-length}
use Rattle.std.proofs.lemmas.Option.{slice_get_past, same_Some}
use Rattle.judge_core.specs.Delivering.{destinations_of}
use Rattle.event_log.specs.declared.entry.Entry.{Entry}
use Rattle.event_log.specs.declared.entry.Told.TheVariants as told
use Rattle.event_log.specs.declared.entry.Entry.TheVariants.{Arrival, Take, Settle, Cancel, Deploy}
use Rattle.plan_text.specs.Entries.{PlanEntry}
use Rattle.event_log.specs.History.{Accepted, History, Snapshot, accepted, accepted_by, accepted_from, before, deliveries, deployed, deployed_by, entry_at, first_state, followed_by, last_from, message_at, message_count, accepted_of, names, next_place, numbers, plan_after, plan_in_force, remaining, remembered_as, slot, state, state_by}
use Rattle.event_log.specs.inner.History.{named}
use Rattle.event_log.specs.Answers.{keeps, known, known_before}
use Rattle.event_log.specs.inner.Counting.{is_acceptance}
use Rattle.event_log.specs.Deployment.{deployments}
use Rattle.event_log.specs.Legal.{IsLegal, MayFollow}
use Rattle.event_log.proofs.Masks.{range-push}

-- functions that agree everywhere are equal
pub funext : {A B : Type 0} (f g : A → B) → ((x : A) → f x ≡ g x) → f ≡ g
funext f g same = λ i x. same x i

-- an item before the new one
pub get-below : {A : Type 0} (xs ys : List A) (k : ℕ) → k < length xs → slice_get (xs ++ ys) k ≡ slice_get xs k
get-below [] ys k below = absurd (omega arith)
get-below (x ∷ xs) ys zero below = refl
get-below (x ∷ xs) ys (suc k) below = get-below xs ys k (omega arith)

-- the new item
pub get-last : {A : Type 0} (xs : List A) (x : A) → slice_get (xs ++ x ∷ []) (length xs) ≡ Some x
get-last [] x = refl
get-last (y ∷ xs) x = get-last xs x

-- the items before the new ones
pub take-below : {A : Type 0} (xs ys : List A) (k : ℕ) → k ≤ length xs → take k (xs ++ ys) ≡ take k xs
take-below xs ys zero below = refl
take-below [] ys (suc k) below = absurd (omega arith)
take-below (x ∷ xs) ys (suc k) below = ap (λ zs. x ∷ zs) (take-below xs ys k (omega arith))

-- all the items
pub take-whole : {A : Type 0} (xs : List A) → take (length xs) xs ≡ xs
take-whole [] = refl
take-whole (x ∷ xs) = ap (λ zs. x ∷ zs) (take-whole xs)

-- below, at the end, or past it
trichotomy : (a b : ℕ) → (a < b) ⊎ ((a ≡ b) ⊎ (b < a))
trichotomy zero zero = inr (inl refl)
trichotomy zero (suc b) = inl (omega arith)
trichotomy (suc a) zero = inr (inr (omega arith))
trichotomy (suc a) (suc b) = elim (trichotomy a b) [
  | inl w ↦ inl (omega arith)
  | inr w ↦ elim w [ inl e ↦ inr (inl (ap (λ n. suc n) e)) | inr l ↦ inr (inr (omega arith)) ]
]

-- an entry that stands at a place is held there
held : (folded : Bool) (o : Option Entry) (x : Entry) → cond folded None o ≡ Some x → (folded ≡ false) × (o ≡ Some x)
held true o x is = absurd cc
held false o x is = (refl, is)

pub entry-held : (h : History) (place : ℕ) (x : Entry) → entry_at h place ≡ Some x → (nat_lt place h.opening.places ≡ false) × (slice_get h.entries (place - h.opening.places) ≡ Some x)
entry-held h place x got = held (nat_lt place h.opening.places) (slice_get h.entries (place - h.opening.places)) x got

-- the entries that are held have the places after those that were folded
pub entry-since : (h : History) (k : ℕ) → entry_at h (h.opening.places + k) ≡ slice_get h.entries k
entry-since h k =
    let past : nat_lt (h.opening.places + k) h.opening.places ≡ false = grind (arith, nat_tests) in
    let own : h.opening.places + k - h.opening.places ≡ k = omega arith in
    rw (past, own) refl

pub before-since : (h : History) (k : ℕ) → before h (h.opening.places + k) ≡ record { opening = h.opening; entries = take k h.entries }
before-since h k = let own : h.opening.places + k - h.opening.places ≡ k = omega arith in rw own refl

-- each entry that is held may follow those before it
pub follows-since : (h : History) → IsLegal h → (k : ℕ) (e : Entry) → slice_get h.entries k ≡ Some e → MayFollow (record { opening = h.opening; entries = take k h.entries }) e
follows-since h legal k e got = subst (λ g. MayFollow g e) (before-since h k) (legal.follows (h.opening.places + k) e (entry-since h k ∙ got))

-- and a history in which each may is legal
pub legal-since : (h : History) → ((k : ℕ) (e : Entry) → slice_get h.entries k ≡ Some e → MayFollow (record { opening = h.opening; entries = take k h.entries }) e) → IsLegal h
legal-since h follows = record { follows = λ place x got. follows (place - h.opening.places) x (entry-held h place x got).1 }

-- a legal history stays legal with an entry that may follow
pub legal-followed_by : (h : History) (e : Entry) → IsLegal h → MayFollow h e → IsLegal (followed_by h e)
legal-followed_by h e legal may = legal-since (followed_by h e) (λ place x got. elim (trichotomy place (length h.entries)) [
  | inl below ↦
      subst (λ es. MayFollow (record { opening = h.opening; entries = es }) x) (sym (take-below h.entries (e ∷ []) place (omega arith)))
      (follows-since h legal place x (sym (get-below h.entries (e ∷ []) place below) ∙ got))
  | inr w ↦ elim w [
    | inl same ↦
        let last : slice_get (h.entries ++ e ∷ []) place ≡ Some e = rw same (get-last h.entries e) in
        let is : e ≡ x = same_Some e x (sym last ∙ got) in
        let whole : take place (h.entries ++ e ∷ []) ≡ h.entries = rw same (take-below h.entries (e ∷ []) (length h.entries) (omega arith) ∙ take-whole h.entries) in
        subst (λ y. MayFollow (record { opening = h.opening; entries = take place (h.entries ++ e ∷ []) }) y) is
        (subst (λ es. MayFollow (record { opening = h.opening; entries = es }) e) (sym whole) may)
    | inr past ↦
        let none = slice_get_past (h.entries ++ e ∷ []) place (simp length-append (omega arith)) in absurd cc
  ]
])

-- the one item of an option
cons-none : {A : Type 0} (o : Option A) → cons_option o [] ≡ option_to_list o
cons-none None = refl
cons-none (Some x) = refl

-- the plan in force after an entry and others
pub last-after : (plan : PlanEntry) (e : Entry) (es : List Entry) → last_from plan (filter_map deployed_by (e ∷ es)) ≡ last_from (plan_after plan e) (filter_map deployed_by es)
last-after plan e es = by (deployed_by e)
  where
    by : (o : Option PlanEntry) → last_from plan (cons_option o (filter_map deployed_by es)) ≡ last_from (option_map_or (λ p. p) o plan) (filter_map deployed_by es)
    by None = refl
    by (Some p) = refl

-- the last of some values and one more
last-push : {A : Type 0} (x : A) (xs : List A) (o : Option A) → last_from x (xs ++ option_to_list o) ≡ option_map_or (λ y. y) o (last_from x xs)
last-push x [] None = refl
last-push x [] (Some y) = refl
last-push x (z ∷ xs) o = last-push z xs o

-- the plan in force after entries and one more
pub plan-push : (plan : PlanEntry) (es : List Entry) (e : Entry) → last_from plan (filter_map deployed_by (es ++ e ∷ [])) ≡ plan_after (last_from plan (filter_map deployed_by es)) e
plan-push plan es e =
    ap (last_from plan) (filter_map-append deployed_by es (e ∷ []) ∙ ap (λ ps. filter_map deployed_by es ++ ps) (cons-none (deployed_by e)))
    ∙ last-push plan (filter_map deployed_by es) (deployed_by e)

-- the plans that were deployed are those before, and that which the entry deploys
pub deployed-followed_by : (h : History) (e : Entry) → deployed (followed_by h e) ≡ deployed h ++ option_to_list (deployed_by e)
deployed-followed_by h e = filter_map-append deployed_by h.entries (e ∷ []) ∙ ap (λ ps. deployed h ++ ps) (cons-none (deployed_by e))

-- an entry that deploys none leaves as many
pub deployments-kept : (h : History) (e : Entry) → deployed_by e ≡ None → deployments (followed_by h e) ≡ deployments h
deployments-kept h e none = ap (λ ps. h.opening.deployments + length ps) (deployed-followed_by h e ∙ (ap (λ o. deployed h ++ option_to_list o) none ∙ append-nil (deployed h)))

-- a deployment is one more
pub deployments-more : (h : History) (plan : PlanEntry) → deployments (followed_by h (Deploy plan)) ≡ deployments h + 1
deployments-more h plan =
    ap (λ ps. h.opening.deployments + length ps) (deployed-followed_by h (Deploy plan))
    ∙ omega (arith, length-append (deployed h) (plan ∷ []))

-- the plan in force is the one that an entry deploys, or as it was
pub plan-followed_by : (h : History) (e : Entry) → plan_in_force (followed_by h e) ≡ plan_after (plan_in_force h) e
plan-followed_by h e = plan-push h.opening.plan h.entries e

-- an entry that deploys none leaves the plan in force
pub plan-kept : (h : History) (e : Entry) → deployed_by e ≡ None → plan_in_force (followed_by h e) ≡ plan_in_force h
plan-kept h e none = plan-followed_by h e ∙ ap (λ o. option_map_or (λ p. p) o (plan_in_force h)) none

-- entries of which none deploys a plan leave the plan in force
pub plan-kept_all : (plan : PlanEntry) (es more : List Entry) → filter_map deployed_by more ≡ [] → last_from plan (filter_map deployed_by (es ++ more)) ≡ last_from plan (filter_map deployed_by es)
plan-kept_all plan es more none =
    ap (last_from plan) (filter_map-append deployed_by es more ∙ (ap (λ ps. filter_map deployed_by es ++ ps) none ∙ append-nil (filter_map deployed_by es)))

-- one more entry brings its message by the plan in force after those before it
accepted-push : (plan : PlanEntry) (es : List Entry) (e : Entry)
    → accepted_from plan (es ++ e ∷ []) ≡ accepted_from plan es ++ option_to_list (accepted_by (last_from plan (filter_map deployed_by es)) e)
accepted-push plan [] e = cons-none (accepted_by plan e)
accepted-push plan (x ∷ es) e =
    ap (cons_option (accepted_by plan x)) (accepted-push (plan_after plan x) es e)
    ∙ (joined (accepted_by plan x) (accepted_from (plan_after plan x) es) (option_to_list (accepted_by (last_from (plan_after plan x) (filter_map deployed_by es)) e))
    ∙ ap (λ p. cons_option (accepted_by plan x) (accepted_from (plan_after plan x) es) ++ option_to_list (accepted_by p e)) (sym (last-after plan x es)))
  where
    joined : (o : Option Accepted) (ms ns : List Accepted) → cons_option o (ms ++ ns) ≡ cons_option o ms ++ ns
    joined None ms ns = refl
    joined (Some m) ms ns = refl

-- the messages are those before, and that which the entry brings
pub accepted-followed_by : (h : History) (e : Entry) → accepted (followed_by h e) ≡ accepted h ++ option_to_list (accepted_by (plan_in_force h) e)
accepted-followed_by h e = accepted-push h.opening.plan h.entries e

-- there are as many as before, and that which the entry brings
pub message_count-push : (h : History) (e : Entry) → message_count (followed_by h e) ≡ message_count h + option_map_or (λ m. 1) (accepted_by (plan_in_force h) e) 0
message_count-push h e = ap (λ ms. h.opening.messages + length ms) (accepted-followed_by h e) ∙ by (accepted_by (plan_in_force h) e)
  where
    by : (o : Option Accepted) → h.opening.messages + length (accepted h ++ option_to_list o) ≡ message_count h + option_map_or (λ m. 1) o 0
    by None = omega (arith, length-append (accepted h) [])
    by (Some m) = omega (arith, length-append (accepted h) (m ∷ []))

-- only the arrival of an accepted message brings one
pub accepts-one : (plan : PlanEntry) (e : Entry) → ◌≡◌ {A = ℕ} (option_map_or (λ m. 1) (accepted_by plan e) 0) (cond (is_acceptance e) 1 0)
accepts-one plan (Arrival conn channel raw (told.Accepted number)) = refl
accepts-one plan (Arrival conn channel raw told.Filtered) = refl
accepts-one plan (Arrival conn channel raw (told.Refused cause)) = refl
accepts-one plan (Arrival conn channel raw (told.Repeat place)) = refl
accepts-one plan (Take ticket now) = refl
accepts-one plan (Settle outcome ticket now after) = refl
accepts-one plan (Cancel number among mask) = refl
accepts-one plan (Deploy next) = refl

-- an entry that brings no message leaves the messages as they are
pub accepted-kept : (h : History) (e : Entry) → accepted_by (plan_in_force h) e ≡ None → accepted (followed_by h e) ≡ accepted h
accepted-kept h e none = accepted-followed_by h e ∙ (ap (λ o. accepted h ++ option_to_list o) none ∙ append-nil (accepted h))

-- a slot's state is as the entry leaves it, or as it was
pub state-followed_by : (h : History) (e : Entry) (n d : ℕ) → state (followed_by h e) n d ≡ option_map_or (λ s. s) (state_by n d e) (state h n d)
state-followed_by h e n d =
    ap (last_from (first_state h.opening n d)) (filter_map-append (state_by n d) h.entries (e ∷ []) ∙ ap (λ ss. filter_map (state_by n d) h.entries ++ ss) (cons-none (state_by n d e)))
    ∙ last-push (first_state h.opening n d) (filter_map (state_by n d) h.entries) (state_by n d e)

-- the place found in a longer list
place-push : (q n : ℕ) (b : Bool) → q ≤ n → cond (nat_lt (cond (q == n) (n + cond b 0 1) q) (n + 1)) (Some (cond (q == n) (n + cond b 0 1) q)) None ≡ option_map_or (λ place. Some place) (cond (nat_lt q n) (Some q) None) (cond b (Some n) None)
place-push q n b within = elim (eqb_tells q n) [
  | inl w ↦ let past : nat_lt q n ≡ false = grind (arith, nat_tests) in rw (w.0, past) (last b)
  | inr w ↦
      let before : nat_lt q n ≡ true = let apart = w.1 in grind (arith, nat_tests) in
      let inside : nat_lt q (n + 1) ≡ true = grind (arith, nat_tests) in rw (w.0, before, inside) refl
]
  where
    last : (b : Bool) → cond (nat_lt (n + cond b 0 1) (n + 1)) (Some (n + cond b 0 1)) None ≡ cond b (Some n) None
    last true = let inside : nat_lt (n + 0) (n + 1) ≡ true = grind (arith, nat_tests) in let same : n + 0 ≡ n = omega arith in rw (inside, same) refl
    last false = let past : nat_lt (n + 1) (n + 1) ≡ false = grind (arith, nat_tests) in rw past refl

-- the first entry that keeps a key is where it was, or the new one
position-push : (key : List ℕ) (es : List Entry) (e : Entry) → position (keeps key) (es ++ e ∷ []) ≡ option_map_or (λ place. Some place) (position (keeps key) es) (cond (keeps key e) (Some (length es)) None)
position-push key es e =
    let longer : length (es ++ e ∷ []) ≡ length es + 1 = omega (arith, length-append es (e ∷ [])) in
    ap (λ q. cond (nat_lt q (length (es ++ e ∷ []))) (Some q) None) (position_or_len_push (keeps key) es e)
    ∙ (ap (λ m. cond (nat_lt (cond (position_or_len (keeps key) es == length es) (length es + cond (keeps key e) 0 1) (position_or_len (keeps key) es)) m)
    (Some (cond (position_or_len (keeps key) es == length es) (length es + cond (keeps key e) 0 1) (position_or_len (keeps key) es))) None) longer
    ∙ place-push (position_or_len (keeps key) es) (length es) (keeps key e) (prefix_len-le-length (λ x. not (keeps key x)) es))

-- a key is known where it was, and else by the entry
pub known-followed_by : (h : History) (e : Entry) (key : List ℕ) → known (followed_by h e) key ≡ option_map_or (λ place. Some place) (known h key) (cond (keeps key e) (Some (next_place h)) None)
known-followed_by h e key =
    ap (λ o. option_map_or (λ place. Some place) (known_before h.opening key) (option_map (λ k. h.opening.places + k) o)) (position-push key h.entries e)
    ∙ by (known_before h.opening key) (position (keeps key) h.entries) (keeps key e)
  where
    by : (o p : Option ℕ) (b : Bool) → option_map_or (λ place. Some place) o (option_map (λ k. h.opening.places + k) (option_map_or (λ place. Some place) p (cond b (Some (length h.entries)) None)))
        ≡ option_map_or (λ place. Some place) (option_map_or (λ place. Some place) o (option_map (λ k. h.opening.places + k) p)) (cond b (Some (h.opening.places + length h.entries)) None)
    by (Some place) p b = refl
    by None (Some k) b = refl
    by None None true = refl
    by None None false = refl

-- an entry that keeps no key leaves what is known
pub known-kept : (h : History) (e : Entry) (key : List ℕ) → keeps key e ≡ false → known (followed_by h e) key ≡ known h key
known-kept h e key none = known-followed_by h e key ∙ (ap (λ b. option_map_or (λ place. Some place) (known h key) (cond b (Some (next_place h)) None)) none ∙ same-place (known h key))
  where
    same-place : (o : Option ℕ) → option_map_or (λ place. Some place) o None ≡ o
    same-place None = refl
    same-place (Some place) = refl

-- histories that go on from one opening with the same messages have the same numbers, and their messages go the same ways
module _ (h h' : History) (opening : h'.opening ≡ h.opening) (same : accepted h' ≡ accepted h) where
  -- as many
  pub message_count-same : message_count h' ≡ message_count h
  message_count-same = ap (λ o. o.messages + length (accepted h')) opening ∙ ap (λ ms. h.opening.messages + length ms) same

  -- their numbers
  pub numbers-same : numbers h' ≡ numbers h
  numbers-same = ap (λ k. range_with_len 0 k) message_count-same

  -- each of them
  pub message-same : (n : ℕ) → message_at h' n ≡ message_at h n
  message-same n =
      ap (λ o. if nat_lt n o.messages then option_map accepted_of (remembered_as o n) else slice_get (accepted h') (n - o.messages)) opening
      ∙ ap (λ ms. if nat_lt n h.opening.messages then option_map accepted_of (remembered_as h.opening n) else slice_get ms (n - h.opening.messages)) same

  -- those that are not forgotten
  pub remaining-same : remaining h' ≡ remaining h
  remaining-same = ap (filter (λ n. is_some (message_at h' n))) numbers-same ∙ ap (λ p. filter p (numbers h)) (funext (λ n. is_some (message_at h' n)) (λ n. is_some (message_at h n)) (λ n. ap is_some (message-same n)))

  -- where each goes
  pub deliveries-same : (n : ℕ) → deliveries h' n ≡ deliveries h n
  deliveries-same n = ap (λ o. option_map_or (λ m. m.deliveries) o []) (message-same n)

  -- the destinations that each names
  pub named-same : (n : ℕ) → named h' n ≡ named h n
  named-same n = ap destinations_of (deliveries-same n)

  -- the slots, each in its new state
  pub slot-same : (n d : ℕ) → slot h' n d ≡ cond (names d (deliveries h n)) (Some (state h' n d)) None
  slot-same n d = ap (λ ds. cond (names d ds) (Some (state h' n d)) None) (deliveries-same n)

-- ---- one message more

-- a place other than that of the new item
get-other : {A : Type 0} (xs : List A) (x : A) (k : ℕ) → k ≢ length xs → slice_get (xs ++ x ∷ []) k ≡ slice_get xs k
get-other [] x zero apart = absurd (apart refl)
get-other [] x (suc k) apart = refl
get-other (y ∷ xs) x zero apart = refl
get-other (y ∷ xs) x (suc k) apart = get-other xs x k (λ same. apart (ap suc same))

-- other messages than the new one are as they were
other-message : (m n : ℕ) (old : Option Accepted) (ms : List Accepted) (a : Accepted) → n ≢ m + length ms
    → (if nat_lt n m then old else slice_get (ms ++ a ∷ []) (n - m)) ≡ (if nat_lt n m then old else slice_get ms (n - m))
other-message m n old ms a apart = elim (nat_lt n m) as (λ b. nat_lt n m ≡ b → cond b old (slice_get (ms ++ a ∷ []) (n - m)) ≡ cond b old (slice_get ms (n - m))) [
  | true ↦ λ before. refl
  | false ↦ λ since. let past : m ≤ n = grind (arith, nat_tests) in get-other ms a (n - m) (λ same. apart (omega arith))
] refl

-- and the new one has the next number
new-message : (m n : ℕ) (old : Option Accepted) (ms : List Accepted) (a : Accepted) → n ≡ m + length ms → (if nat_lt n m then old else slice_get (ms ++ a ∷ []) (n - m)) ≡ Some a
new-message m n old ms a next =
    let since : nat_lt n m ≡ false = grind (arith, nat_tests) in
    let own : n - m ≡ length ms = omega arith in
    rw (since, own) (get-last ms a)

-- a test that agrees at each number leaves the same of them
filter-alike : (p q : ℕ → Bool) (a k : ℕ) → ((n : ℕ) → a ≤ n → n < a + k → p n ≡ q n) → filter p (range_with_len a k) ≡ filter q (range_with_len a k)
filter-alike p q a zero alike = refl
filter-alike p q a (suc k) alike =
    let rest = filter-alike p q (a + 1) k (λ n low high. alike n (omega arith) (omega arith)) in
    rw (alike a (omega arith) (omega arith)) (ap (λ ns. cond (q a) (a ∷ ns) ns) rest)

-- a history that goes on from the same opening with one message more
module _ (h h' : History) (opening : h'.opening ≡ h.opening) (m : Accepted) (longer : accepted h' ≡ accepted h ++ m ∷ []) where
  -- there is one more
  pub message_count-longer : message_count h' ≡ message_count h + 1
  message_count-longer =
      ap (λ o. o.messages + length (accepted h')) opening ∙ (ap (λ ms. h.opening.messages + length ms) longer
      ∙ omega (arith, length-append (accepted h) (m ∷ [])))

  -- message n, with these messages since the opening
  abbrev since : ℕ → Snapshot → List Accepted → Option Accepted
  since n o ms = if nat_lt n o.messages then option_map accepted_of (remembered_as o n) else slice_get ms (n - o.messages)

  -- the others are as they were
  pub message-older : (n : ℕ) → n ≢ message_count h → message_at h' n ≡ message_at h n
  message-older n apart =
      ap (λ o. since n o (accepted h')) opening ∙ (ap (since n h.opening) longer
      ∙ other-message h.opening.messages n (option_map accepted_of (remembered_as h.opening n)) (accepted h) m apart)

  -- the new one has the next number
  pub message-newest : message_at h' (message_count h) ≡ Some m
  message-newest =
      ap (λ o. since (message_count h) o (accepted h')) opening ∙ (ap (since (message_count h) h.opening) longer
      ∙ new-message h.opening.messages (message_count h) (option_map accepted_of (remembered_as h.opening (message_count h))) (accepted h) m refl)

  -- it is not forgotten
  pub remaining-longer : remaining h' ≡ remaining h ++ message_count h ∷ []
  remaining-longer =
      ap (λ k. filter (λ n. is_some (message_at h' n)) (range_with_len 0 k)) message_count-longer
      ∙ (ap (filter (λ n. is_some (message_at h' n))) (range-push (message_count h))
      ∙ (filter-append (λ n. is_some (message_at h' n)) (range_with_len 0 (message_count h)) (message_count h ∷ [])
      ∙ (ap (λ ns. ns ++ filter (λ n. is_some (message_at h' n)) (message_count h ∷ []))
      (filter-alike (λ n. is_some (message_at h' n)) (λ n. is_some (message_at h n)) 0 (message_count h) (λ n low below. ap is_some (message-older n (λ same. omega arith))))
      ∙ ap (λ o. remaining h ++ cond (is_some o) (message_count h ∷ []) []) message-newest)))
