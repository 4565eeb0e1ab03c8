-- What is decided of a text, by what it says.
use Rattle.std.proofs.Common.{◌≡◌, ℕ, true, false, not, cond, List, [], ◌∷◌, Option, None, Some, Result, Ok, Err, refl, ap, ◌<◌, length, arith}
use Rattle.std.specs.Prelude.{slice_get, IfOk}
use Rattle.std.specs.Result.{result_ok}
use Rattle.std.specs.Option.{option_map_or}
use Rattle.er7_tree.specs.declared.refusal.Refusal.{Refusal}
use Rattle.er7_tree.specs.Tree.{Tree, tree}
use Rattle.hl7_head.specs.declared.ack.Cause.TheVariants.{UnsupportedType, SourceTransform, RouteTransform}
use Rattle.hl7_head.specs.Header.{Msh, header, header_of, header_where}
use Rattle.hl7_transform.specs.declared.fault.StepFault.{StepFault}
use Rattle.hl7_transform.specs.Step.{after_steps}
use Rattle.hl7_transform.specs.declared.step.Step.{Step}
use Rattle.hl7_transform.specs.inner.View.{steps_view}
use Rattle.std.specs.List.{list_any}
use Rattle.plan_text.specs.Entries.{PlanEntry, ChannelEntry, RouteEntry}
use Rattle.judge_core.specs.declared.delivery.Delivery.{Delivery}
use Rattle.judge_core.specs.inner.Delivering.{AreDeliveries}
use Rattle.judge_core.specs.declared.judged.Verdict.TheVariants.{Unreadable, Stray, Refuse, Filtered, Accept}
use Rattle.judge_core.specs.Judging.{verdict, verdict_where, verdict_of, decided_by, header_fault, sent_to, deliveries_by, filtered_by, is_stopped, open_routes, passes, routed, stepped, is_acknowledgment, is_bookable, key_of, key_by}
use Rattle.judge_core.specs.inner.Judging.{is_booked}

-- a text that says nothing
pub record SaysNothing (plan : PlanEntry) (channel : ℕ) (text : List ℕ) : Type 0 where
  pub header_is : None ≡ header_of text
  pub key_is : [] ≡ key_of channel text
  pub verdict_is : Unreadable ≡ verdict plan channel text

nothing-where : (place : ℕ) (channel : Option ChannelEntry) (r : Result Tree Refusal) → None ≡ result_ok r → (None ≡ header_where r) × ([] ≡ option_map_or (key_by place) (header_where r) []) × (Unreadable ≡ verdict_where channel r)
nothing-where place channel (Ok t) e = absurd cc
nothing-where place channel (Err refusal) e = (refl, refl, refl)

pub says-nothing : (plan : PlanEntry) (channel : ℕ) (text : List ℕ) → None ≡ result_ok (tree text) → SaysNothing plan channel text
unfolding verdict key_of
says-nothing plan channel text e =
    let known = nothing-where channel (slice_get plan.channels channel) (tree text) e in
    record { header_is = known.0; key_is = known.1; verdict_is = known.2 }

-- a text that says a message
pub record Says (plan : PlanEntry) (channel : ℕ) (text : List ℕ) (t : Tree) : Type 0 where
  pub read : tree text ≡ Ok t
  pub header_is : Some (header t) ≡ header_of text
  pub key_is : key_by channel (header t) ≡ key_of channel text
  pub verdict_is : verdict_of (slice_get plan.channels channel) (header t) t ≡ verdict plan channel text

something-where : (place : ℕ) (channel : Option ChannelEntry) (r : Result Tree Refusal) (t : Tree) → r ≡ Ok t → (Some (header t) ≡ header_where r) × (key_by place (header t) ≡ option_map_or (key_by place) (header_where r) []) × (verdict_of channel (header t) t ≡ verdict_where channel r)
something-where place channel r t e = rw e (refl, refl, refl)

read-ok : (r : Result Tree Refusal) (t : Tree) → Some t ≡ result_ok r → r ≡ Ok t
read-ok (Ok u) t e = cc
read-ok (Err refusal) t e = absurd cc

pub says : (plan : PlanEntry) (channel : ℕ) (text : List ℕ) (t : Tree) → Some t ≡ result_ok (tree text) → Says plan channel text t
unfolding verdict key_of
says plan channel text t e =
    let read = read-ok (tree text) t e in
    let known = something-where channel (slice_get plan.channels channel) (tree text) t read in
    record { read = read; header_is = known.0; key_is = known.1; verdict_is = known.2 }

booked-sent : (deliveries : List Delivery) → is_booked (sent_to deliveries) ≡ true
booked-sent [] = refl
booked-sent (delivery ∷ deliveries) = refl

booked-routed : (routes : List RouteEntry) (t : Tree) → is_booked (routed routes t) ≡ true
booked-routed routes t =
    elim (list_any (is_stopped t) (open_routes routes t)) as (λ b. is_booked (cond b (Refuse RouteTransform) (sent_to (deliveries_by routes t))) ≡ true)
    [ true ↦ refl | false ↦ booked-sent (deliveries_by routes t) ]

booked-stepped : (routes : List RouteEntry) (r : Result Tree StepFault) → is_booked (stepped routes r) ≡ true
booked-stepped routes (Err stop) = refl
booked-stepped routes (Ok t) = booked-routed routes t

booked-filtered : (channel : ChannelEntry) (t : Tree) → is_booked (filtered_by channel t) ≡ true
booked-filtered channel t =
    elim (passes t channel.filter) as (λ b. is_booked (cond b (stepped channel.routes (after_steps channel.steps t)) Filtered) ≡ true)
    [ true ↦ booked-stepped channel.routes (after_steps channel.steps t) | false ↦ refl ]

booked-decided : (channel : ChannelEntry) (h : Msh) (t : Tree) → is_booked (decided_by channel h t) ≡ true
booked-decided channel h t =
    elim (header_fault channel h) as (λ o. is_booked (option_map_or Refuse o (filtered_by channel t)) ≡ true)
    [ None ↦ booked-filtered channel t | Some cause ↦ refl ]

-- a channel's decision is booked
pub booked-of : (channel : Option ChannelEntry) (h : Msh) (t : Tree) → is_booked (option_map_or (λ c. decided_by c h t) channel (Refuse UnsupportedType)) ≡ true
booked-of None h t = refl
booked-of (Some channel) h t = booked-decided channel h t

booked-where : (channel : Option ChannelEntry) (r : Result Tree Refusal) → is_booked (verdict_where channel r) ≡ option_map_or (λ h. not (is_acknowledgment h)) (header_where r) false
booked-where channel (Err refusal) = refl
booked-where channel (Ok t) =
    elim (is_acknowledgment (header t)) as (λ b. is_booked (cond b Stray (option_map_or (λ c. decided_by c (header t) t) channel (Refuse UnsupportedType))) ≡ not b)
    [ true ↦ refl | false ↦ booked-of channel (header t) t ]

pub booked-verdict : (plan : PlanEntry) (channel : ℕ) (text : List ℕ) → is_booked (verdict plan channel text) ≡ is_bookable text
unfolding verdict
booked-verdict plan channel text = booked-where (slice_get plan.channels channel) (tree text)

-- a message that its channel lets pass goes on by the channel's steps
pub verdict-stepped : (channel : ChannelEntry) (h : Msh) (t : Tree) → is_acknowledgment h ≡ false → header_fault channel h ≡ None → passes t channel.filter ≡ true → verdict_of (Some channel) h t ≡ stepped channel.routes (after_steps channel.steps t)
verdict-stepped channel h t new good lets = rw (new, good, lets) refl

-- what the steps make of it goes on by the routes
pub stepped-routed : (routes : List RouteEntry) (r : Result Tree StepFault) (t : Tree) → Some t ≡ result_ok r → stepped routes r ≡ routed routes t
stepped-routed routes (Ok u) t made = let same : u ≡ t = cc in ap (routed routes) same
stepped-routed routes (Err stop) t made = absurd cc

-- no steps change no message
pub stepped-as-is : (steps : List Step) (t : Tree) → length steps ≡ 0 → Some t ≡ result_ok (after_steps (steps_view steps) t)
stepped-as-is [] t none = refl
stepped-as-is (step ∷ steps) t none = absurd (omega (arith, none))

-- a message that they can't change as they say
pub stepped-stopped : (routes : List RouteEntry) (r : Result Tree StepFault) → None ≡ result_ok r → stepped routes r ≡ Refuse SourceTransform
stepped-stopped routes (Ok t) made = absurd cc
stepped-stopped routes (Err stop) made = refl

-- the verdict of routes of which one stops
pub routed-stopped : (routes : List RouteEntry) (t : Tree) → list_any (is_stopped t) (open_routes routes t) ≡ true → routed routes t ≡ Refuse RouteTransform
routed-stopped routes t stopped = rw stopped refl

sent-some : (deliveries : List Delivery) → 0 < length deliveries → sent_to deliveries ≡ Accept deliveries
sent-some [] some = absurd (omega arith)
sent-some (delivery ∷ deliveries) some = refl

-- and of routes that give deliveries
pub routed-sent : (routes : List RouteEntry) (t : Tree) (deliveries : List Delivery) → list_any (is_stopped t) (open_routes routes t) ≡ false → deliveries ≡ deliveries_by routes t → 0 < length deliveries → routed routes t ≡ Accept deliveries
routed-sent routes t deliveries goes is some = rw (goes, ← is) (sent-some deliveries some)

sent-none : (deliveries : List Delivery) → length deliveries ≡ 0 → sent_to deliveries ≡ Filtered
sent-none [] none = refl
sent-none (delivery ∷ deliveries) none = absurd (omega arith)

-- and of routes that give none
pub routed-nowhere : (routes : List RouteEntry) (t : Tree) (deliveries : List Delivery) → list_any (is_stopped t) (open_routes routes t) ≡ false → deliveries ≡ deliveries_by routes t → length deliveries ≡ 0 → routed routes t ≡ Filtered
routed-nowhere routes t deliveries goes is none = rw (goes, ← is) (sent-none deliveries none)

-- what holds of the deliveries of what the channel's steps give holds of these
pub stepped-goes : (routes : List RouteEntry) (r : Result Tree StepFault) (t : Tree) → IfOk r (λ u. AreDeliveries (deliveries_by routes u)) → Some t ≡ result_ok r → AreDeliveries (deliveries_by routes t)
stepped-goes routes (Ok u) t goes made = let same : t ≡ u = cc in rw same goes
stepped-goes routes (Err stop) t goes made = absurd cc
