-- What is decided of a text that arrives on a channel, under a plan.
use Rattle.std.specs.Prelude.{ℕ, Bool, true, false, not, nat_lt, if◌then◌else◌, List, [], ◌∷◌, ◌++◌, length, slice_get, Option, None, Some, is_none, Result, Ok, Err, codes, filter, is_err, option_map}
use Rattle.std.specs.List.{filter_map, list_any}
use Rattle.std.specs.Result.{result_ok}
use Rattle.std.specs.Option.{option_map_or}
use Rattle.std.specs.Str.{bytes_eq}
use Rattle.er7_tree.specs.declared.refusal.Refusal.{Refusal}
use Rattle.er7_tree.specs.Pieces.{is_vacant}
use Rattle.er7_tree.specs.Tree.{Tree, tree, text_of}
use Rattle.hl7_filter.specs.Condition.{Condition, truth}
use Rattle.hl7_head.specs.declared.ack.Cause.{Cause}
use Rattle.hl7_head.specs.declared.ack.Cause.TheVariants.{UnsupportedType, UnsupportedProcessing, UnsupportedVersion, MissingControlId, BadControlId, SourceTransform, RouteTransform}
use Rattle.hl7_head.specs.Header.{Msh, header, header_of}
use Rattle.hl7_transform.specs.declared.fault.StepFault.{StepFault}
use Rattle.hl7_transform.specs.Step.{after_steps}
use Rattle.plan_text.specs.Entries.{PlanEntry, ChannelEntry, RouteEntry, takes_type, takes_processing, takes_version}
use Rattle.judge_core.specs.declared.delivery.Delivery.{Delivery}
use Rattle.judge_core.specs.declared.judged.Verdict.{Verdict}
use Rattle.judge_core.specs.declared.judged.Verdict.TheVariants.{Unreadable, Stray, Refuse, Filtered, Accept}
use Rattle.judge_core.specs.Delivering.{destinations_of}

-- a text that was judged: under which plan and for which channel
pub record Judgement : Type 0 where
  pub plan : PlanEntry
  pub channel : ℕ
  pub raw : List ℕ

-- an acknowledgment is recognised by its message code
abbrev pub is_acknowledgment : Msh → Bool
is_acknowledgment h = bytes_eq h.message_code (codes "ACK")

-- the first fault of a header: a type, processing id or version that the channel doesn't take, a control id that is missing or of over 199 bytes
unfoldable pub header_fault : ChannelEntry → Msh → Option Cause
header_fault channel h =
    if not (takes_type channel h.message_code h.trigger_event) then Some UnsupportedType
    else (if not (takes_processing channel h.processing_code) then Some UnsupportedProcessing
    else (if not (takes_version channel h.version_code) then Some UnsupportedVersion
    else (if is_vacant h.control_id then Some MissingControlId
    else (if nat_lt 199 (length h.control_id) then Some BadControlId
    else None))))

-- whether a message passes a filter; where there is none each message does
abbrev pub passes : Tree → Option Condition → Bool
passes t None = true
passes t (Some condition) = truth t condition

-- the routes whose filter a message passes
abbrev pub open_routes : List RouteEntry → Tree → List RouteEntry
open_routes routes t = filter (λ r. passes t r.filter) routes

-- whether a route's steps can't be taken at a message
abbrev pub is_stopped : Tree → RouteEntry → Bool
is_stopped t r = is_err (after_steps r.steps t)

-- what goes by a route: the message after the route's steps, as it is printed
abbrev pub delivery_by : Tree → RouteEntry → Option Delivery
delivery_by t r = option_map (λ u. record { destination = r.to; payload = text_of u }) (result_ok (after_steps r.steps t))

-- what goes by the routes whose filter a message passes
abbrev pub deliveries_by : List RouteEntry → Tree → List Delivery
deliveries_by routes t = filter_map (delivery_by t) (open_routes routes t)

-- a message that goes nowhere is filtered
abbrev pub sent_to : List Delivery → Verdict
sent_to [] = Filtered
sent_to (delivery ∷ deliveries) = Accept (delivery ∷ deliveries)

-- what becomes of a message by routes; where the steps of one can't be taken, the whole message is refused
abbrev pub routed : List RouteEntry → Tree → Verdict
routed routes t = if list_any (is_stopped t) (open_routes routes t) then Refuse RouteTransform else sent_to (deliveries_by routes t)

-- what becomes of what a channel's steps made of a message
abbrev pub stepped : List RouteEntry → Result Tree StepFault → Verdict
stepped routes (Err stop) = Refuse SourceTransform
stepped routes (Ok t) = routed routes t

-- what a channel decides of a message whose header it takes
abbrev pub filtered_by : ChannelEntry → Tree → Verdict
filtered_by channel t = if passes t channel.filter then stepped channel.routes (after_steps channel.steps t) else Filtered

-- what a channel decides of a message that is no acknowledgment
abbrev pub decided_by : ChannelEntry → Msh → Tree → Verdict
decided_by channel h t = option_map_or Refuse (header_fault channel h) (filtered_by channel t)

-- what is decided of a message with this header; a channel that the plan lacks takes no type
abbrev pub verdict_of : Option ChannelEntry → Msh → Tree → Verdict
verdict_of channel h t =
    if is_acknowledgment h then Stray
    else option_map_or (λ c. decided_by c h t) channel (Refuse UnsupportedType)

-- what is decided of what a text says
abbrev pub verdict_where : Option ChannelEntry → Result Tree Refusal → Verdict
verdict_where channel (Err refusal) = Unreadable
verdict_where channel (Ok t) = verdict_of channel (header t) t

-- what is decided of a text that arrives on a channel, by the first case that applies
unfoldable pub verdict : PlanEntry → ℕ → List ℕ → Verdict
verdict plan channel text = verdict_where (slice_get plan.channels channel) (tree text)

-- where a message goes; nowhere where it isn't accepted
abbrev pub deliveries_of : Verdict → List Delivery
deliveries_of (Accept deliveries) = deliveries
deliveries_of Unreadable = []
deliveries_of Stray = []
deliveries_of (Refuse cause) = []
deliveries_of Filtered = []

-- the destinations that a channel names for a text
abbrev pub named : PlanEntry → ℕ → List ℕ → List ℕ
named plan channel text = destinations_of (deliveries_of (verdict plan channel text))

-- a text that is no message
abbrev pub is_unreadable : List ℕ → Bool
is_unreadable text = is_none (header_of text)

-- a text that is an acknowledgment
abbrev pub is_stray : List ℕ → Bool
is_stray text = option_map_or is_acknowledgment (header_of text) false

-- a text whose arrival is booked: a message that is no acknowledgment
abbrev pub is_bookable : List ℕ → Bool
is_bookable text = option_map_or (λ h. not (is_acknowledgment h)) (header_of text) false

-- the key of a message: channel, sending application, sending facility and control id, the last three apart by 0x0D
abbrev pub key_by : ℕ → Msh → List ℕ
key_by channel h = channel ∷ h.sending_application ++ 13 ∷ h.sending_facility ++ 13 ∷ h.control_id

-- the key of a text; empty where it is no message
unfoldable pub key_of : ℕ → List ℕ → List ℕ
key_of channel text = option_map_or (key_by channel) (header_of text) []
