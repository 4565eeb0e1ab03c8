-- The laws of verdicts.
use Rattle.std.proofs.Common.{◌≡◌, ◌<◌, ℕ, Bool, true, false, cond, List, [], ◌∷◌, length, Option, None, Some, Result, Ok, Err, refl, sym, ◌∙◌, ap, arith}
use Rattle.std.specs.Prelude.{◌↔◌, All, IsTrue, is_none, slice_get}
use Rattle.std.specs.Option.{option_map_or}
use Rattle.std.proofs.lemmas.List.Elements.{All-nil}
use Rattle.mllp_frame.specs.Framing.{IsData}
use Rattle.er7_tree.specs.declared.refusal.Refusal.{Refusal}
use Rattle.er7_tree.specs.Tree.{Tree, tree}
use Rattle.hl7_head.specs.declared.ack.Cause.TheVariants.{UnsupportedType, RouteTransform}
use Rattle.hl7_head.specs.Header.{Msh, header, header_of, header_where}
use Rattle.hl7_transform.specs.declared.fault.StepFault.{StepFault}
use Rattle.hl7_transform.specs.Step.{after_steps}
use Rattle.std.specs.List.{list_any}
use Rattle.plan_text.specs.Entries.{PlanEntry, ChannelEntry, RouteEntry, IsPlan}
use Rattle.judge_core.specs.declared.delivery.Delivery.{Delivery}
use Rattle.judge_core.specs.declared.judged.Verdict.{Verdict}
use Rattle.judge_core.specs.declared.judged.Verdict.TheVariants.{Unreadable, Stray, Refuse, Filtered, Accept}
use Rattle.judge_core.specs.Delivering.{destinations_of}
use Rattle.judge_core.specs.inner.Delivering.{AreDeliveries}
use Rattle.judge_core.specs.Judging.{verdict, verdict_where, verdict_of, decided_by, header_fault, sent_to, deliveries_by, deliveries_of, filtered_by, is_stopped, open_routes, passes, routed, stepped, is_acknowledgment, is_stray, is_unreadable, named}
use Rattle.judge_core.specs.inner.Judging.{is_booked}
use Rattle.judge_core.proofs.Judgements.{booked-of}
use Rattle.judge_core.proofs.Printing.{printed_plain}
use Rattle.judge_core.proofs.Routing.{routes_are_deliveries, routes_lead}

-- what holds of the deliveries by a channel's routes holds of those of every verdict
module _ (P : List Delivery → Type 0) (none : P []) where
  of-sent : (deliveries : List Delivery) → P deliveries → P (deliveries_of (sent_to deliveries))
  of-sent [] p = none
  of-sent (delivery ∷ deliveries) p = p

  of-routed : (routes : List RouteEntry) (t : Tree) → P (deliveries_by routes t) → P (deliveries_of (routed routes t))
  of-routed routes t p =
      elim (list_any (is_stopped t) (open_routes routes t)) as (λ b. P (deliveries_of (cond b (Refuse RouteTransform) (sent_to (deliveries_by routes t)))))
      [ true ↦ none | false ↦ of-sent (deliveries_by routes t) p ]

  of-stepped : (routes : List RouteEntry) (r : Result Tree StepFault) → ((t : Tree) → r ≡ Ok t → P (deliveries_by routes t)) → P (deliveries_of (stepped routes r))
  of-stepped routes (Err stop) each = none
  of-stepped routes (Ok t) each = of-routed routes t (each t refl)

  of-decided : (channel : ChannelEntry) (h : Msh) (t : Tree) → ((u : Tree) → after_steps channel.steps t ≡ Ok u → P (deliveries_by channel.routes u)) → P (deliveries_of (decided_by channel h t))
  of-decided channel h t each =
      elim (header_fault channel h) as (λ o. P (deliveries_of (option_map_or Refuse o (filtered_by channel t)))) [
        | None ↦ elim (passes t channel.filter) as (λ b. P (deliveries_of (cond b (stepped channel.routes (after_steps channel.steps t)) Filtered)))
            [ true ↦ of-stepped channel.routes (after_steps channel.steps t) each | false ↦ none ]
        | Some cause ↦ none
      ]

  of-found : (o : Option ChannelEntry) (h : Msh) (t : Tree) → ((c : ChannelEntry) (u : Tree) → o ≡ Some c → after_steps c.steps t ≡ Ok u → P (deliveries_by c.routes u)) → P (deliveries_of (verdict_of o h t))
  of-found o h t each =
      elim (is_acknowledgment h) as (λ b. P (deliveries_of (cond b Stray (option_map_or (λ c. decided_by c h t) o (Refuse UnsupportedType))))) [
        | true ↦ none
        | false ↦ elim o as (λ x. x ≡ o → P (deliveries_of (option_map_or (λ c. decided_by c h t) x (Refuse UnsupportedType))))
            [ None ↦ λ e. none | Some c ↦ λ e. of-decided c h t (λ u made. each c u (sym e) made) ] refl
      ]

  pub of-verdict : (plan : PlanEntry) (channel : ℕ) (text : List ℕ) → ((c : ChannelEntry) (t u : Tree) → slice_get plan.channels channel ≡ Some c → tree text ≡ Ok t → after_steps c.steps t ≡ Ok u → P (deliveries_by c.routes u)) → P (deliveries_of (verdict plan channel text))
  unfolding verdict
  of-verdict plan channel text each =
      elim (tree text) as (λ r. r ≡ tree text → P (deliveries_of (verdict_where (slice_get plan.channels channel) r)))
      [ Err refusal ↦ λ e. none | Ok t ↦ λ e. of-found (slice_get plan.channels channel) (header t) t (λ c u found made. each c t u found (sym e) made) ] refl

pub deliveries-verdict : (plan : PlanEntry) (channel : ℕ) (text : List ℕ) → IsPlan plan → IsData text → AreDeliveries (deliveries_of (verdict plan channel text))
deliveries-verdict plan channel text rules plain =
    of-verdict AreDeliveries (record { within = All-nil _; once = λ i j d below inside. absurd (omega arith); plain = All-nil _ }) plan channel text
    (λ c t u found read made. routes_are_deliveries plan channel c u rules found (λ r v sent. printed_plain text t u v c.steps r.steps read plain made sent))

pub lead-named : (plan : PlanEntry) (channel : ℕ) (text : List ℕ) → IsPlan plan → All (λ d. d < length plan.destinations) (named plan channel text)
lead-named plan channel text rules =
    of-verdict (λ ds. All (λ d. d < length plan.destinations) (destinations_of ds)) (All-nil _) plan channel text
    (λ c t u found read made. routes_lead plan channel c u rules found)

-- whether a verdict is one of the two that aren't answered
abbrev is_noise : Verdict → Bool
is_noise Unreadable = true
is_noise Stray = false
is_noise (Refuse cause) = false
is_noise Filtered = false
is_noise (Accept deliveries) = false

abbrev is_reply : Verdict → Bool
is_reply Unreadable = false
is_reply Stray = true
is_reply (Refuse cause) = false
is_reply Filtered = false
is_reply (Accept deliveries) = false

noise-is : (v : Verdict) → is_noise v ≡ true → v ≡ Unreadable
noise-is Unreadable e = refl
noise-is Stray e = absurd cc
noise-is (Refuse cause) e = absurd cc
noise-is Filtered e = absurd cc
noise-is (Accept deliveries) e = absurd cc

reply-is : (v : Verdict) → is_reply v ≡ true → v ≡ Stray
reply-is Unreadable e = absurd cc
reply-is Stray e = refl
reply-is (Refuse cause) e = absurd cc
reply-is Filtered e = absurd cc
reply-is (Accept deliveries) e = absurd cc

-- a verdict that is booked is neither
booked-noise : (v : Verdict) → is_booked v ≡ true → is_noise v ≡ false
booked-noise Unreadable e = absurd cc
booked-noise Stray e = absurd cc
booked-noise (Refuse cause) e = refl
booked-noise Filtered e = refl
booked-noise (Accept deliveries) e = refl

booked-reply : (v : Verdict) → is_booked v ≡ true → is_reply v ≡ false
booked-reply Unreadable e = absurd cc
booked-reply Stray e = absurd cc
booked-reply (Refuse cause) e = refl
booked-reply Filtered e = refl
booked-reply (Accept deliveries) e = refl

noise-where : (o : Option ChannelEntry) (r : Result Tree Refusal) → is_noise (verdict_where o r) ≡ option_map_or (λ h. false) (header_where r) true
noise-where o (Err refusal) = refl
noise-where o (Ok t) =
    elim (is_acknowledgment (header t)) as (λ b. is_noise (cond b Stray (option_map_or (λ c. decided_by c (header t) t) o (Refuse UnsupportedType))) ≡ false)
    [ true ↦ refl | false ↦ booked-noise (option_map_or (λ c. decided_by c (header t) t) o (Refuse UnsupportedType)) (booked-of o (header t) t) ]

none-where : (o : Option Msh) → option_map_or (λ h. false) o true ≡ is_none o
none-where None = refl
none-where (Some h) = refl

reply-where : (o : Option ChannelEntry) (r : Result Tree Refusal) → is_reply (verdict_where o r) ≡ option_map_or is_acknowledgment (header_where r) false
reply-where o (Err refusal) = refl
reply-where o (Ok t) =
    elim (is_acknowledgment (header t)) as (λ b. is_reply (cond b Stray (option_map_or (λ c. decided_by c (header t) t) o (Refuse UnsupportedType))) ≡ b)
    [ true ↦ refl | false ↦ booked-reply (option_map_or (λ c. decided_by c (header t) t) o (Refuse UnsupportedType)) (booked-of o (header t) t) ]

noise-verdict : (plan : PlanEntry) (channel : ℕ) (text : List ℕ) → is_noise (verdict plan channel text) ≡ is_unreadable text
unfolding verdict
noise-verdict plan channel text = noise-where (slice_get plan.channels channel) (tree text) ∙ none-where (header_of text)

reply-verdict : (plan : PlanEntry) (channel : ℕ) (text : List ℕ) → is_reply (verdict plan channel text) ≡ is_stray text
unfolding verdict
reply-verdict plan channel text = reply-where (slice_get plan.channels channel) (tree text)

pub unreadable-verdict : (plan : PlanEntry) (channel : ℕ) (text : List ℕ) → (verdict plan channel text ≡ Unreadable) ↔ IsTrue (is_unreadable text)
unreadable-verdict plan channel text =
    (λ e. sym (noise-verdict plan channel text) ∙ ap is_noise e, λ t. noise-is (verdict plan channel text) (noise-verdict plan channel text ∙ t))

pub stray-verdict : (plan : PlanEntry) (channel : ℕ) (text : List ℕ) → (verdict plan channel text ≡ Stray) ↔ IsTrue (is_stray text)
stray-verdict plan channel text =
    (λ e. sym (reply-verdict plan channel text) ∙ ap is_reply e, λ t. reply-is (verdict plan channel text) (reply-verdict plan channel text ∙ t))
