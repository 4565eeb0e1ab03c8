-- What holds of every plan that was read: its channels.
use Rattle.std.proofs.Common.{◌≡◌, ◌≢◌, ℕ, ◌≤◌, ◌<◌, List, [], ◌∷◌, ◌++◌, length, get_or, Bool, true, false, ◌==◌, nat_le, if◌then◌else◌, Option, Some, None, Result, Ok, Err, is_ok, All, AllPairs, codes, refl, sym, subst, ◌∙◌, arith}
use Rattle.std.specs.Str.{bytes_eq}
use Rattle.std.proofs.lemmas.Bool.{eq-eqb}
use Rattle.std.proofs.lemmas.List.Elements.{All-push, All-nil}
use Rattle.std.proofs.lemmas.List.Folds.{list_any_at, list_all-append}
use Rattle.std.proofs.lemmas.List.Quantifiers.{all_pairs_push, position-Some}
use Rattle.toml.specs.Data.{Data, Items, no_items, item, Members, string, integer, float, boolean, datetime, array, table, get_member}
use Rattle.hl7_filter.specs.Condition.{Condition}
use Rattle.plan_text.specs.declared.fault.PlanFaultKind.TheVariants as name
use Rattle.plan_text.specs.declared.fault.PlanFault.{PlanFault}
use Rattle.plan_text.specs.Fault.{told}
use Rattle.plan_text.specs.Entries.{DestinationEntry, RouteEntry, ChannelEntry, IsShallow, AllStand, IsChannel, IsPlan}
use Rattle.plan_text.specs.Keys.{key, key_path, required, table_at, only_keys, list, list_within, item_count, each, each_after}
use Rattle.plan_text.specs.Kinds.{new_name, text_within}
use Rattle.plan_text.specs.Conditions.{path, filter_at}
use Rattle.plan_text.specs.Steps.{checked_step, stands_at, step_key, step_by, step, steps_at}
use Rattle.hl7_transform.specs.declared.step_check.StepCheck.{StepCheck}
use Rattle.hl7_transform.specs.declared.step_check.StepCheck.TheVariants as check
use Rattle.hl7_transform.specs.Check.{check_step, may_stand}
use Rattle.hl7_transform.specs.Step.{Edit}
use Rattle.plan_text.specs.Destinations.{destinations}
use Rattle.plan_text.specs.Channels.{destination_index, leads_to, new_place, way_at, route_to, route, route_keys, routes_at, taken_at, channel, channel_keys, channel_has_name}
use Rattle.plan_text.specs.Document.{some_within}
use Rattle.plan_text.proofs.Deep.{filter-levels}
use Rattle.plan_text.proofs.Laws.{bound, told_Ok, kept, name_is, list_is, passed, each_after-length, each_after-keeps, differs, destinations-are}

shallow : (at : List ℕ) (v : Option Data) (filter : Option Condition) → filter_at at v ≡ Ok filter → IsShallow filter
shallow at v None h = tt
shallow at v (Some c) h = filter-levels at v (Some c) c h refl

-- a step that was told to stand stands
stands : (at : List ℕ) (s : Edit) (u : Unit {0}) → stands_at at s ≡ Ok u → may_stand s ≡ true
stands at s u h = by_check (check_step s) h
  where
    by_check : (r : Result (Unit {0}) StepCheck) → told at (checked_step r) ≡ Ok u → is_ok r ≡ true
    by_check (Ok x) h = refl
    by_check (Err check.BadPath) h = cc
    by_check (Err check.ForbiddenWrite) h = cc

-- a reader gives steps that may stand
abbrev Stands : Result Edit PlanFault → Type 0
Stands r = (s : Edit) → r ≡ Ok s → may_stand s ≡ true

step-stands : (at : List ℕ) (d : Data) → Stands (step at d)
unfolding step
step-stands at d s h =
    let t = bound (table_at at d) _ s h in
    let k = bound (step_key at t.0) _ s t.1.1 in
    let r = bound (step_by k.0 at t.0) _ s k.1.1 in
    let u = bound (stands_at (key_path at k.0) r.0) _ s r.1.1 in
    kept (λ x. may_stand x ≡ true) r.0 s u.1.1 (stands (key_path at k.0) r.0 u.0 u.1.0)

steps-stand : (at : List ℕ) (v : Option Data) (steps : List Edit) → steps_at at v ≡ Ok steps → AllStand steps
unfolding steps_at
steps-stand at None steps h = let same : [] ≡ steps = cc in subst AllStand same refl
steps-stand at (Some d) steps h =
    let items = bound (told at (list_within 256 d)) (each step at) steps h in
    each_after-keeps (λ before. step) at AllStand another [] items.0 steps refl items.1.1
  where
    another : (before : List Edit) (path : List ℕ) (d : Data) (x : Edit) → AllStand before → step path d ≡ Ok x → AllStand (before ++ x ∷ [])
    another before path d x all_stand h = rw (list_all-append may_stand before (x ∷ []), all_stand, step-stands path d x h) refl

-- a place is that of a destination, and no route before leads to it
place_is : (ds : List DestinationEntry) (before : List RouteEntry) (s : List ℕ) (n : ℕ) → new_place before (destination_index ds s) ≡ Ok n → (n < length ds) × (leads_to before n ≡ false)
place_is ds before s n h = by_place (destination_index ds s) refl h
  where
    by_test : (m : ℕ) (b : Bool) → leads_to before m ≡ b → m < length ds → (if b then Err name.DoubleName else Ok m) ≡ Ok n → (n < length ds) × (leads_to before n ≡ false)
    by_test m true is lt h = cc
    by_test m false is lt h = let same : m ≡ n = cc in rw (← same) (lt, is)

    by_place : (o : Option ℕ) → destination_index ds s ≡ o → new_place before o ≡ Ok n → (n < length ds) × (leads_to before n ≡ false)
    by_place None is h = cc
    by_place (Some m) is h = by_test m (leads_to before m) refl (within ds is) h
      where
        within : (xs : List DestinationEntry) → destination_index xs s ≡ Some m → m < length xs
        within [] is = cc
        within (x ∷ xs) is = (position-Some (λ d. bytes_eq d.name s) (x ∷ xs) m x is).0

route_to-is : (ds : List DestinationEntry) (before : List RouteEntry) (v : Option Data) (n : ℕ) → required (route_to ds before) v ≡ Ok n → (n < length ds) × (leads_to before n ≡ false)
route_to-is ds before None n h = cc
route_to-is ds before (Some (string s)) n h = place_is ds before s n h
route_to-is ds before (Some (integer z)) n h = cc
route_to-is ds before (Some (float x)) n h = cc
route_to-is ds before (Some (boolean x)) n h = cc
route_to-is ds before (Some (datetime x)) n h = cc
route_to-is ds before (Some (array x)) n h = cc
route_to-is ds before (Some (table x)) n h = cc

-- what holds of the routes of a channel
record AreRoutes (ds : List DestinationEntry) (routes : List RouteEntry) : Type 0 where
  pub lead : All (λ r. r.to < length ds) routes
  pub apart : AllPairs (λ r s. r.to ≢ s.to) routes
  pub shallow : All (λ r. IsShallow r.filter) routes
  pub stand : All (λ r. AllStand r.steps) routes

-- what holds of a route behind those before it
record IsNew (ds : List DestinationEntry) (before : List RouteEntry) (r : RouteEntry) : Type 0 where
  pub leads : r.to < length ds
  pub free : leads_to before r.to ≡ false
  pub shallow : IsShallow r.filter
  pub stand : AllStand r.steps

way-is : (at : List ℕ) (t : Members) (w : Option Condition × List Edit) → way_at at t ≡ Ok w → IsShallow w.0 × AllStand w.1
unfolding way_at
way-is at t w h =
    let filter = bound (filter_at (key_path at (codes "filter")) (get_member (codes "filter") t)) _ w h in
    let steps = bound (steps_at (key_path at (codes "steps")) (get_member (codes "steps") t)) _ w filter.1.1 in
    kept (λ (z : Option Condition × List Edit). IsShallow z.0 × AllStand z.1) (filter.0, steps.0) w steps.1.1
    (shallow (key_path at (codes "filter")) (get_member (codes "filter") t) filter.0 filter.1.0, steps-stand (key_path at (codes "steps")) (get_member (codes "steps") t) steps.0 steps.1.0)

route-is : (ds : List DestinationEntry) (before : List RouteEntry) (at : List ℕ) (d : Data) (x : RouteEntry) → route ds before at d ≡ Ok x → IsNew ds before x
unfolding route
route-is ds before at d x h =
    let t = bound (table_at at d) _ x h in
    let known = bound (only_keys route_keys at t.0) _ x t.1.1 in
    let to = bound (key at t.0 (codes "to") (required (route_to ds before))) _ x known.1.1 in
    let way = bound (way_at at t.0) _ x to.1.1 in
    let is = way-is at t.0 way.0 way.1.0 in
    let place = route_to-is ds before (get_member (codes "to") t.0) to.0 (told_Ok _ _ _ to.1.0) in
    kept (IsNew ds before) (record { to = to.0; filter = way.0.0; steps = way.0.1 }) x way.1.1 (record { leads = place.0; free = place.1; shallow = is.0; stand = is.1 })

no_routes : (ds : List DestinationEntry) → AreRoutes ds []
no_routes ds = record { lead = All-nil (λ r. r.to < length ds); apart = λ i j d lt in'. absurd (omega arith); shallow = All-nil (λ r. IsShallow r.filter); stand = All-nil (λ r. AllStand r.steps) }

another_route : (ds : List DestinationEntry) (before : List RouteEntry) (path : List ℕ) (d : Data) (x : RouteEntry) → AreRoutes ds before → route ds before path d ≡ Ok x → AreRoutes ds (before ++ x ∷ [])
another_route ds before path d x are h =
    let new = route-is ds before path d x h in
    record {
      lead = All-push (λ r. r.to < length ds) before x are.lead new.leads;
      apart = all_pairs_push (λ r s. r.to ≢ s.to) before x are.apart (elsewhere new.free);
      shallow = All-push (λ r. IsShallow r.filter) before x are.shallow new.shallow;
      stand = All-push (λ r. AllStand r.steps) before x are.stand new.stand;
    }
  where
    elsewhere : leads_to before x.to ≡ false → (k : ℕ) (d : RouteEntry) → k < length before → (get_or before k d).to ≢ x.to
    elsewhere none k d lt same =
        let found : leads_to before x.to ≡ true = list_any_at (λ r. r.to == x.to) before k d lt (eq-eqb _ _ same) in
        let bad : true ≡ false = sym found ∙ none in cc

routes-are : (ds : List DestinationEntry) (at : List ℕ) (v : Option Data) (routes : List RouteEntry) → routes_at ds at v ≡ Ok routes → AreRoutes ds routes
unfolding routes_at
routes-are ds at None routes h = let same : [] ≡ routes = cc in subst (AreRoutes ds) same (no_routes ds)
routes-are ds at (Some d) routes h =
    let items = bound (told at (list d)) (each_after (route ds) at []) routes h in
    each_after-keeps (route ds) at (AreRoutes ds) (another_route ds) [] items.0 routes (no_routes ds) items.1.1

channel-is : (ds : List DestinationEntry) (before : List ChannelEntry) (at : List ℕ) (d : Data) (x : ChannelEntry) → channel ds before at d ≡ Ok x → IsChannel ds x × (channel_has_name before x.name ≡ false)
unfolding channel
channel-is ds before at d x h =
    let t = bound (table_at at d) _ x h in
    let known = bound (only_keys channel_keys at t.0) _ x t.1.1 in
    let name = bound (key at t.0 (codes "name") (required (new_name (channel_has_name before)))) _ x known.1.1 in
    let listen = bound (key at t.0 (codes "listen") (required (text_within 1 255))) _ x name.1.1 in
    let taken = bound (taken_at at t.0) _ x listen.1.1 in
    let way = bound (way_at at t.0) _ x taken.1.1 in
    let is = way-is at t.0 way.0 way.1.0 in
    let routes = bound (routes_at ds (key_path at (codes "route")) (get_member (codes "route") t.0)) _ x way.1.1 in
    let are = routes-are ds (key_path at (codes "route")) (get_member (codes "route") t.0) routes.0 routes.1.0 in
    kept (λ z. IsChannel ds z × (channel_has_name before z.name ≡ false))
    (record { name = name.0; listen = listen.0; types = taken.0.0; processing = taken.0.1.0; versions = taken.0.1.1; filter = way.0.0; steps = way.0.1; routes = routes.0 }) x routes.1.1 (
      record {
        shallow = is.0;
        stand = is.1;
        routes_lead = are.lead;
        routes_apart = are.apart;
        routes_shallow = are.shallow;
        routes_stand = are.stand;
      },
      name_is (channel_has_name before) (get_member (codes "name") t.0) name.0 (told_Ok _ _ _ name.1.0),
    )

-- what holds of the channels of every plan
pub record AreChannels (ds : List DestinationEntry) (cs : List ChannelEntry) : Type 0 where
  pub each : All (IsChannel ds) cs
  pub apart : AllPairs (λ c d. c.name ≢ d.name) cs

another_channel : (ds : List DestinationEntry) (before : List ChannelEntry) (path : List ℕ) (d : Data) (x : ChannelEntry) → AreChannels ds before → channel ds before path d ≡ Ok x → AreChannels ds (before ++ x ∷ [])
another_channel ds before path d x are h =
    let new = channel-is ds before path d x h in
    record {
      each = All-push (IsChannel ds) before x are.each new.0;
      apart = all_pairs_push (λ c d. c.name ≢ d.name) before x are.apart (differs (λ c. c.name) before x.name new.1);
    }

some_is : (v : Option Data) (ds : Items) → required (some_within 64) v ≡ Ok ds → (1 ≤ item_count ds) × (item_count ds ≤ 64)
some_is None ds h = cc
some_is (Some (array no_items)) ds h = cc
some_is (Some (array (item d es))) ds h = (some d es ds (list_is 64 (Some (array (item d es))) ds h) h, list_is 64 (Some (array (item d es))) ds h)
  where
    some : (d : Data) (es ds : Items) → item_count ds ≤ 64 → list_within 64 (array (item d es)) ≡ Ok ds → 1 ≤ item_count ds
    some d es no_items few h = let bad : item d es ≡ no_items = (passed (nat_le (item_count (item d es)) 64) (item d es) no_items name.TooMany _ h refl).1 in cc
    some d es (item e fs) few h = omega arith
some_is (Some (string s)) ds h = cc
some_is (Some (integer z)) ds h = cc
some_is (Some (float x)) ds h = cc
some_is (Some (boolean x)) ds h = cc
some_is (Some (datetime x)) ds h = cc
some_is (Some (table x)) ds h = cc

-- what holds of the channels that are read after these destinations
pub channels-are : (ds : List DestinationEntry) (v : Option Data) (items : Items) (cs : List ChannelEntry) → told (codes "channel") (required (some_within 64) v) ≡ Ok items
    → each_after (channel ds) (codes "channel") [] items ≡ Ok cs → (1 ≤ length cs) × ((length cs ≤ 64) × AreChannels ds cs)
channels-are ds v items cs read h =
    let some = some_is v items (told_Ok _ _ _ read) in
    let many = each_after-length (channel ds) (codes "channel") [] items cs h in (
      omega (arith, some.0, many),
      (
        omega (arith, some.1, many),
        each_after-keeps (channel ds) (codes "channel") (AreChannels ds) (another_channel ds) [] items cs (record { each = All-nil (IsChannel ds); apart = λ i j d lt in'. absurd (omega arith) }) h,
      ),
    )

-- a plan of such destinations and channels
pub plan-is : (t : Members) (ds : List DestinationEntry) (v : Option Data) (items : Items) (cs : List ChannelEntry) → destinations t ≡ Ok ds
    → told (codes "channel") (required (some_within 64) v) ≡ Ok items → each_after (channel ds) (codes "channel") [] items ≡ Ok cs → IsPlan (record { destinations = ds; channels = cs })
plan-is t ds v items cs d read h =
    let first = destinations-are t ds d in
    let second = channels-are ds v items cs read h in
    record {
      few_destinations = first.0;
      some_channel = second.0;
      few_channels = second.1.0;
      each_destination = first.1.each;
      each_channel = second.1.1.each;
      destination_names = first.1.apart;
      channel_names = second.1.1.apart;
    }
