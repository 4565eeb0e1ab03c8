-- What holds of every plan that was read: its destinations.
use Rattle.std.proofs.Common.{◌≡◌, ◌≢◌, ℕ, pos, negsuc, ◌+◌, ◌≤◌, ◌<◌, List, [], ◌∷◌, ◌++◌, length, get_or, Bool, true, false, nat_le, if◌then◌else◌, Option, Some, None, Result, Ok, Err, All, AllPairs, codes, refl, sym, ap, subst, ◌∙◌, arith, lit≤}
use Rattle.std.specs.List.{list_any}
use Rattle.std.specs.Str.{bytes_eq}
use Rattle.std.proofs.lemmas.Bool.{and_parts}
use Rattle.std.proofs.lemmas.Bool.Decides.{nat_tests}
use Rattle.std.proofs.lemmas.List.{length-append}
use Rattle.std.proofs.lemmas.List.Elements.{All-push, All-nil}
use Rattle.std.proofs.lemmas.List.Folds.{list_any_at}
use Rattle.std.proofs.lemmas.List.Quantifiers.{all_pairs_push}
use Rattle.std.proofs.lemmas.Slice.Eq.{bytes_eq-Decides}
use Rattle.toml.specs.Data.{Data, Items, no_items, item, Members, string, integer, float, boolean, datetime, array, table, get_member}
use Rattle.plan_text.specs.declared.fault.PlanFaultKind.{PlanFaultKind}
use Rattle.plan_text.specs.declared.fault.PlanFaultKind.TheVariants as name
use Rattle.plan_text.specs.declared.fault.PlanFault.{PlanFault}
use Rattle.er7_tree.specs.Tree.{◌>>=◌}
use Rattle.plan_text.specs.Fault.{told}
use Rattle.plan_text.specs.Entries.{DestinationEntry, IsDestination}
use Rattle.plan_text.specs.Keys.{key, required, or_else, table_at, only_keys, list_within, item_count, each_after, member_path}
use Rattle.plan_text.specs.Kinds.{within, number_within, new_name, is_plan_name, text_within, text_as, await_word}
use Rattle.plan_text.specs.Destinations.{sending, destination, destinations, destination_keys, has_destination}
use Rattle.plan_text.specs.declared.destination.Await.TheVariants as await
use Rattle.plan_text.specs.declared.from_toml.destinations.Sending.{Sending}

-- the steps of a chain that came to an end
pub bound : {A B : Type 0} (r : Result A PlanFault) (f : A → Result B PlanFault) (y : B) → (r >>= f) ≡ Ok y → (x : A) × ((r ≡ Ok x) × (f x ≡ Ok y))
bound (Ok x) f y h = (x, (refl, h))
bound (Err e) f y h = cc

pub told_Ok : {A : Type 0} (at : List ℕ) (r : Result A PlanFaultKind) (x : A) → told at r ≡ Ok x → r ≡ Ok x
told_Ok at (Ok y) x h = let same : y ≡ x = cc in ap Ok same
told_Ok at (Err n) x h = cc

-- what holds of what a chain ends with holds of what was read
abbrev as_read : {A : Type 0} → A → Result A PlanFault
as_read x = Ok x

pub kept : {A : Type 0} (P : A → Type 0) (x y : A) → as_read x ≡ Ok y → P x → P y
kept P x y e p = let same : x ≡ y = cc in subst P same p

-- what a test that lets a value through says of it
pub passed : {A : Type 0} (b : Bool) (x y : A) (n : PlanFaultKind) (r : Result A PlanFaultKind) → r ≡ Ok y → r ≡ (if b then Ok x else Err n) → (b ≡ true) × (x ≡ y)
passed true x y n r h is = (refl, cc)
passed false x y n r h is = cc

within_is : (low high n : ℕ) → within low high n ≡ true → (low ≤ n) × (n ≤ high)
within_is low high n h =
    let parts = and_parts (nat_le low n) (nat_le n high) h in
    (grind (arith, nat_tests, parts.0), grind (arith, nat_tests, parts.1))

pub number_is : (default low high n : ℕ) (v : Option Data) → low ≤ default → default ≤ high → or_else default (number_within low high) v ≡ Ok n → (low ≤ n) × (n ≤ high)
number_is default low high n None a b h = let same : default ≡ n = cc in (rw (← same) a, rw (← same) b)
number_is default low high n (Some (integer (pos m))) a b h =
    let p = passed (within low high m) m n name.BadRange _ h refl in rw (← p.1) (within_is low high m p.0)
number_is default low high n (Some (integer (negsuc m))) a b h = cc
number_is default low high n (Some (string s)) a b h = cc
number_is default low high n (Some (float x)) a b h = cc
number_is default low high n (Some (boolean x)) a b h = cc
number_is default low high n (Some (datetime x)) a b h = cc
number_is default low high n (Some (array x)) a b h = cc
number_is default low high n (Some (table x)) a b h = cc

pub name_is : (taken : List ℕ → Bool) (v : Option Data) (s : List ℕ) → required (new_name taken) v ≡ Ok s → taken s ≡ false
name_is taken None s h = cc
name_is taken (Some (string t)) s h = by_tests (is_plan_name t) (taken t) refl h
  where
    by_tests : (a b : Bool) → taken t ≡ b → (if a then (if b then Err name.DoubleName else Ok t) else Err name.BadRange) ≡ Ok s → taken s ≡ false
    by_tests true true is h = cc
    by_tests true false is h = let same : t ≡ s = cc in rw (← same) is
    by_tests false b is h = cc
name_is taken (Some (integer z)) s h = cc
name_is taken (Some (float x)) s h = cc
name_is taken (Some (boolean x)) s h = cc
name_is taken (Some (datetime x)) s h = cc
name_is taken (Some (array x)) s h = cc
name_is taken (Some (table x)) s h = cc

pub list_is : (most : ℕ) (v : Option Data) (ds : Items) → required (list_within most) v ≡ Ok ds → item_count ds ≤ most
list_is most None ds h = cc
list_is most (Some (array es)) ds h =
    let p = passed (nat_le (item_count es) most) es ds name.TooMany _ h refl in rw (← p.1) (grind (arith, nat_tests, p.0))
list_is most (Some (string s)) ds h = cc
list_is most (Some (integer z)) ds h = cc
list_is most (Some (float x)) ds h = cc
list_is most (Some (boolean x)) ds h = cc
list_is most (Some (datetime x)) ds h = cc
list_is most (Some (table x)) ds h = cc

module _ {A : Type 0} (read : List A → List ℕ → Data → Result A PlanFault) (at : List ℕ) where
  -- as many are read as there are
  pub each_after-length : (before : List A) (ds : Items) (xs : List A) → each_after read at before ds ≡ Ok xs → length xs ≡ length before + item_count ds
  each_after-length before no_items xs h = let same : before ≡ xs = cc in rw (← same) (omega arith)
  each_after-length before (item d ds) xs h =
      let p = bound (read before (member_path at (length before)) d) (λ x. each_after read at (before ++ x ∷ []) ds) xs h in
      let more = each_after-length (before ++ p.0 ∷ []) ds xs p.1.1 in
      omega (arith, more, length-append before (p.0 ∷ []))

  -- what each step keeps holds of all
  pub each_after-keeps : (P : List A → Type 0) → ((before : List A) (path : List ℕ) (d : Data) (x : A) → P before → read before path d ≡ Ok x → P (before ++ x ∷ []))
      → (before : List A) (ds : Items) (xs : List A) → P before → each_after read at before ds ≡ Ok xs → P xs
  each_after-keeps P step before no_items xs p h = let same : before ≡ xs = cc in subst P same p
  each_after-keeps P step before (item d ds) xs p h =
      let q = bound (read before (member_path at (length before)) d) (λ x. each_after read at (before ++ x ∷ []) ds) xs h in
      each_after-keeps P step (before ++ q.0 ∷ []) ds xs (step before _ d q.0 p q.1.0) q.1.1

-- an element that no element passes the test for
pub differs : {X : Type 0} (f : X → List ℕ) (xs : List X) (s : List ℕ) → list_any (λ x. bytes_eq (f x) s) xs ≡ false → (k : ℕ) (d : X) → k < length xs → f (get_or xs k d) ≢ s
differs f xs s none k d lt same =
    let found : list_any (λ x. bytes_eq (f x) s) xs ≡ true = list_any_at (λ x. bytes_eq (f x) s) xs k d lt ((bytes_eq-Decides (f (get_or xs k d)) s).1 same) in
    let bad : true ≡ false = sym found ∙ none in cc

-- the numbers of a destination are within their bounds
record IsSent (s : Sending) : Type 0 where
  pub attempts : (1 ≤ s.attempts) × (s.attempts ≤ 100)
  pub interval : s.interval ≤ 86400
  pub timeout : (1 ≤ s.timeout) × (s.timeout ≤ 3600)

sending-is : (at : List ℕ) (t : Members) (x : Sending) → sending at t ≡ Ok x → IsSent x
unfolding sending
sending-is at t x h =
    let attempts = bound (key at t (codes "attempts") (or_else 3 (number_within 1 100))) _ x h in
    let interval = bound (key at t (codes "interval") (or_else 10 (number_within 0 86400))) _ x attempts.1.1 in
    let timeout = bound (key at t (codes "timeout") (or_else 30 (number_within 1 3600))) _ x interval.1.1 in
    let wait = bound (key at t (codes "await") (or_else await.Ack (text_as await_word))) _ x timeout.1.1 in
    kept IsSent (record { attempts = attempts.0; interval = interval.0; timeout = timeout.0; wait = wait.0 }) x wait.1.1 (record {
      attempts = number_is 3 1 100 attempts.0 (get_member (codes "attempts") t) (lit≤ tt) (lit≤ tt) (told_Ok _ _ _ attempts.1.0);
      interval = (number_is 10 0 86400 interval.0 (get_member (codes "interval") t) (lit≤ tt) (lit≤ tt) (told_Ok _ _ _ interval.1.0)).1;
      timeout = number_is 30 1 3600 timeout.0 (get_member (codes "timeout") t) (lit≤ tt) (lit≤ tt) (told_Ok _ _ _ timeout.1.0);
    })

pub destination-is : (before : List DestinationEntry) (at : List ℕ) (d : Data) (x : DestinationEntry) → destination before at d ≡ Ok x → IsDestination x × (has_destination before x.name ≡ false)
unfolding destination
destination-is before at d x h =
    let t = bound (table_at at d) _ x h in
    let known = bound (only_keys destination_keys at t.0) _ x t.1.1 in
    let name = bound (key at t.0 (codes "name") (required (new_name (has_destination before)))) _ x known.1.1 in
    let address = bound (key at t.0 (codes "address") (required (text_within 1 255))) _ x name.1.1 in
    let sent = bound (sending at t.0) _ x address.1.1 in
    let is = sending-is at t.0 sent.0 sent.1.0 in
    let free = name_is (has_destination before) (get_member (codes "name") t.0) name.0 (told_Ok _ _ _ name.1.0) in
    kept (λ z. IsDestination z × (has_destination before z.name ≡ false))
    (record { name = name.0; address = address.0; attempts = sent.0.attempts; interval = sent.0.interval; timeout = sent.0.timeout; wait = sent.0.wait }) x sent.1.1
    (record { tried = is.attempts.0; attempts = is.attempts.1; interval = is.interval; waited = is.timeout.0; timeout = is.timeout.1 }, free)

-- what holds of the destinations of every plan
pub record AreDestinations (ds : List DestinationEntry) : Type 0 where
  pub each : All IsDestination ds
  pub apart : AllPairs (λ d e. d.name ≢ e.name) ds

pub destinations-are : (t : Members) (ds : List DestinationEntry) → destinations t ≡ Ok ds → (length ds ≤ 32) × AreDestinations ds
unfolding destinations
destinations-are t ds h =
    let items = bound (key [] t (codes "destination") (required (list_within 32))) _ ds h in
    let few = list_is 32 (get_member (codes "destination") t) items.0 (told_Ok _ _ _ items.1.0) in
    let many = each_after-length destination (codes "destination") [] items.0 ds items.1.1 in
    (omega (arith, few, many), each_after-keeps destination (codes "destination") AreDestinations step [] items.0 ds (record { each = All-nil IsDestination; apart = λ i j d lt in'. absurd (omega arith) }) items.1.1)
  where
    step : (before : List DestinationEntry) (path : List ℕ) (d : Data) (x : DestinationEntry) → AreDestinations before → destination before path d ≡ Ok x → AreDestinations (before ++ x ∷ [])
    step before path d x is h =
        let new = destination-is before path d x h in
        record {
          each = All-push IsDestination before x is.each new.0;
          apart = all_pairs_push (λ d e. d.name ≢ e.name) before x is.apart (differs (λ d. d.name) before x.name new.1);
        }
