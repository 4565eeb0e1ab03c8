-- The routes of a channel make deliveries.
use Rattle.std.proofs.Common.{◌≡◌, ◌≢◌, ℕ, ◌<◌, Bool, List, [], ◌∷◌, length, Option, None, Some, Ok, Err, arith, refl, sym, ◌∙◌, ap, suc, zero}
use Rattle.std.specs.Prelude.{All, AllPairs, slice_get, IfOk, IsSome, is_some, option_copied, option_map}
use Rattle.std.specs.List.{filter_map, cons_option}
use Rattle.std.specs.Result.{result_ok}
use Rattle.hl7_transform.specs.Step.{after_steps}
use Rattle.std.specs.Borrow.{Bor}
use Rattle.std.proofs.lemmas.List.Elements.{All-nil, All-cons, All-head, All-tail, All-map, All-get_or, All-filter}
use Rattle.std.proofs.lemmas.List.Kept.{AllPairs-cons, AllPairs-filter}
use Rattle.std.proofs.lemmas.Option.{slice_get_within, get_or_from_slice_get}
use Rattle.er7_tree.specs.Tree.{Tree, tree, text_of}
use Rattle.mllp_frame.specs.Framing.{IsData}
use Rattle.plan_text.specs.Entries.{PlanEntry, ChannelEntry, RouteEntry, IsPlan, IsChannel}
use Rattle.judge_core.specs.declared.delivery.Delivery.{Delivery}
use Rattle.judge_core.specs.Delivering.{destinations_of}
use Rattle.judge_core.specs.inner.Delivering.{AreDeliveries}
use Rattle.judge_core.proofs.Printing.{printed_plain}
use Rattle.judge_core.specs.Judging.{deliveries_by, delivery_by, open_routes, passes}

AllPairs-nil : {A : Type 0} (R : A → A → Type 0) → AllPairs R []
AllPairs-nil R = λ i j d below inside. absurd (omega arith)

-- what holds of all that a partial function gives
All-filter_map : {A B : Type 0} (f : A → Option B) (P : B → Type 0) (Q : A → Type 0) → ((x : A) (y : B) → Q x → f x ≡ Some y → P y) → (xs : List A) → All Q xs → All P (filter_map f xs)
All-filter_map f P Q gives [] all = All-nil P
All-filter_map f P Q gives (x ∷ xs) all =
    let rest = All-filter_map f P Q gives xs (All-tail Q x xs all) in
    elim (f x) as (λ o. f x ≡ o → All P (cons_option o (filter_map f xs)))
    [ None ↦ λ e. rest | Some y ↦ λ e. All-cons P y (filter_map f xs) (gives x y (All-head Q x xs all) e) rest ] refl

AllPairs-filter_map : {A B : Type 0} (f : A → Option B) (R : B → B → Type 0) (Q : A → A → Type 0) → ((x z : A) (y w : B) → Q x z → f x ≡ Some y → f z ≡ Some w → R y w) → (xs : List A) → AllPairs Q xs → AllPairs R (filter_map f xs)
AllPairs-filter_map f R Q gives [] all = AllPairs-nil R
AllPairs-filter_map f R Q gives (x ∷ xs) all =
    let rest = AllPairs-filter_map f R Q gives xs (λ i j d below inside. all (suc i) (suc j) d (omega arith) (omega arith)) in
    elim (f x) as (λ o. f x ≡ o → AllPairs R (cons_option o (filter_map f xs))) [
      | None ↦ λ e. rest
      | Some y ↦ λ e. AllPairs-cons R y (filter_map f xs)
          (All-filter_map f (R y) (Q x) (λ z w rel g. gives x z y w rel e g) xs (λ k d inside. all 0 (suc k) d (omega arith) (omega arith))) rest
    ] refl

-- what holds of each holds of the one that was got
pub All-slice_get : {A : Type 0} (P : A → Type 0) (xs : List A) (k : ℕ) (x : A) → slice_get xs k ≡ Some x → All P xs → P x
All-slice_get P xs k x e all = rw (get_or_from_slice_get xs k x x e) at (All-get_or P xs k x (slice_get_within xs k x e) all)

some-within : {A : Type 0} (xs : List A) (k : ℕ) → k < length xs → IsSome (slice_get xs k)
some-within [] k inside = absurd (omega arith)
some-within (x ∷ xs) zero inside = refl
some-within (x ∷ xs) (suc k) inside = some-within xs k (omega arith)

some-copied : {A : Type 0} (o : Option (Bor A)) → is_some (option_copied o) ≡ is_some o
some-copied None = refl
some-copied (Some x) = refl

-- a place within the list has an element to borrow
pub some-borrowed : {A : Type 0} (o : Option (Bor A)) (xs : List A) (k : ℕ) → option_copied o ≡ slice_get xs k → k < length xs → IsSome o
some-borrowed o xs k e inside = sym (some-copied o) ∙ (ap is_some e ∙ some-within xs k inside)

-- what goes by a route
pub record IsSentBy (t : Tree) (r : RouteEntry) (y : Delivery) : Type 0 where
  pub to : y.destination ≡ r.to
  pub new : Tree
  pub made : after_steps r.steps t ≡ Ok new
  pub text : y.payload ≡ text_of new

pub sent-by : (t : Tree) (r : RouteEntry) (y : Delivery) → delivery_by t r ≡ Some y → IsSentBy t r y
sent-by t r y =
    elim (after_steps r.steps t) as (λ a. after_steps r.steps t ≡ a → option_map (λ u. record { destination = r.to; payload = text_of u }) (result_ok a) ≡ Some y → IsSentBy t r y) [
      | Ok u ↦ λ made e. let is : record { destination = r.to; payload = text_of u } ≡ y = cc in
          record { to = ap (λ (x : Delivery). x.destination) (sym is); new = u; made = made; text = ap (λ (x : Delivery). x.payload) (sym is) }
      | Err stop ↦ λ made e. absurd cc
    ] refl

-- the routes of a channel lead to at most 32 destinations, to each once
pub routes_are_deliveries : (plan : PlanEntry) (place : ℕ) (channel : ChannelEntry) (t : Tree) → IsPlan plan → slice_get plan.channels place ≡ Some channel → ((r : RouteEntry) (u : Tree) → after_steps r.steps t ≡ Ok u → IsData (text_of u)) → AreDeliveries (deliveries_by channel.routes t)
routes_are_deliveries plan place channel t rules found plain =
    let allowed : IsChannel plan.destinations channel = All-slice_get (IsChannel plan.destinations) plan.channels place channel found rules.each_channel in
    let few = rules.few_destinations in
    let lets : RouteEntry → Bool = λ r. passes t r.filter in
    let lead = All-filter lets (λ r. r.to < length plan.destinations) channel.routes allowed.routes_lead in
    record {
      within = All-filter_map (delivery_by t) (λ x. x.destination < 32) (λ r. r.to < length plan.destinations)
          (λ r y below e. let sent = sent-by t r y e in let to = sent.to in omega arith) (open_routes channel.routes t) lead;
      once = AllPairs-filter_map (delivery_by t) (λ x y. x.destination ≢ y.destination) (λ r s. r.to ≢ s.to)
          (λ r s x y apart e g same. apart (sym (sent-by t r x e).to ∙ (same ∙ (sent-by t s y g).to)))
          (open_routes channel.routes t) (AllPairs-filter (λ r s. r.to ≢ s.to) lets channel.routes allowed.routes_apart);
      plain = All-filter_map (delivery_by t) (λ x. IsData x.payload) (λ r. r.to < length plan.destinations)
          (λ r y below e. let sent = sent-by t r y e in rw sent.text (plain r sent.new sent.made)) (open_routes channel.routes t) lead;
    }

pub routes_lead : (plan : PlanEntry) (place : ℕ) (channel : ChannelEntry) (t : Tree) → IsPlan plan → slice_get plan.channels place ≡ Some channel → All (λ d. d < length plan.destinations) (destinations_of (deliveries_by channel.routes t))
routes_lead plan place channel t rules found =
    let allowed : IsChannel plan.destinations channel = All-slice_get (IsChannel plan.destinations) plan.channels place channel found rules.each_channel in
    All-map (λ d. d < length plan.destinations) (λ x. x.destination) (deliveries_by channel.routes t)
    (All-filter_map (delivery_by t) (λ (x : Delivery). x.destination < length plan.destinations) (λ r. r.to < length plan.destinations)
    (λ r y below e. let sent = sent-by t r y e in let to = sent.to in omega arith) (open_routes channel.routes t)
    (All-filter (λ r. passes t r.filter) (λ r. r.to < length plan.destinations) channel.routes allowed.routes_lead))

-- a channel of a plan is one that a plan may have
pub allowed-channel : (plan : PlanEntry) (place : ℕ) (channel : ChannelEntry) → IsPlan plan → slice_get plan.channels place ≡ Some channel → IsChannel plan.destinations channel
allowed-channel plan place channel rules found = All-slice_get (IsChannel plan.destinations) plan.channels place channel found rules.each_channel

-- what a channel's steps make of a message goes to deliveries
pub goes-after : (plan : PlanEntry) (place : ℕ) (channel : ChannelEntry) (text : List ℕ) (t : Tree) → IsPlan plan → slice_get plan.channels place ≡ Some channel → tree text ≡ Ok t → IsData text → IfOk (after_steps channel.steps t) (λ u. AreDeliveries (deliveries_by channel.routes u))
goes-after plan place channel text t rules found read plain =
    elim (after_steps channel.steps t) as (λ r. after_steps channel.steps t ≡ r → IfOk r (λ u. AreDeliveries (deliveries_by channel.routes u))) [
      | Ok u ↦ λ made. routes_are_deliveries plan place channel u rules found (λ r v sent. printed_plain text t u v channel.steps r.steps read plain made sent)
      | Err stop ↦ λ made. tt
    ] refl
