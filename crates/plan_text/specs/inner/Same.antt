-- When two plans say the same: the test that `==` is, and that it decides equality.
use Rattle.std.specs.Prelude.{◌≡◌, refl, List, Option, Some, None, Bool, true, false, ◌&&◌, ◌==◌}
use Rattle.std.specs.Bool.{Decides}
use Rattle.std.specs.Cmp.{IsPartialEquivalence}
use Rattle.std.specs.Cmp.Lexicographic.{pointwise}
use Rattle.std.specs.Option.{option_eq}
use Rattle.std.specs.Str.{bytes_eq}
use Rattle.hl7_filter.specs.Condition.{Condition}
use Rattle.hl7_filter.specs.inner.ByView.{by_view_laws}
use Rattle.hl7_filter.specs.inner.Same.{same_condition, same_condition-Decides}
use Rattle.std.proofs.Common.{ap}
use Rattle.std.proofs.lemmas.Bool.Decides.{Decides-and, Decides-like, Decides-eqb}
use Rattle.std.proofs.lemmas.Slice.Eq.{bytes_eq-Decides, slice_eq-Decides}
use Rattle.hl7_transform.specs.inner.Same.{same_edit, same_edit-Decides}
use Rattle.plan_text.specs.declared.destination.Await.{Await}
use Rattle.plan_text.specs.declared.destination.Await.TheVariants as await
use Rattle.plan_text.specs.declared.channel.MessageType.{MessageType}
use Rattle.plan_text.specs.declared.channel.MessageType.TheVariants as type
use Rattle.plan_text.specs.declared.channel.ProcessingId.{ProcessingId}
use Rattle.plan_text.specs.declared.channel.ProcessingId.TheVariants as processing
use Rattle.plan_text.specs.declared.channel.VersionId.{VersionId}
use Rattle.plan_text.specs.declared.channel.VersionId.TheVariants as version
use Rattle.plan_text.specs.Entries.{DestinationEntry, RouteEntry, ChannelEntry, PlanEntry}

-- the laws of `==` of a test that decides equality
laws : {A : Type 0} (same : A → A → Bool) → ((x y : A) → Decides (same x y) (x ≡ y)) → IsPartialEquivalence same
laws same d = by_view_laws (λ x. x) same d

pub text_laws : IsPartialEquivalence bytes_eq
text_laws = laws bytes_eq bytes_eq-Decides

-- what a delivery waits for
abbrev pub same_wait : Await → Await → Bool
same_wait await.Ack await.Ack = true
same_wait await.None await.None = true
same_wait _ _ = false

abbrev pub same_destination : DestinationEntry → DestinationEntry → Bool
same_destination d e =
    bytes_eq d.name e.name && (bytes_eq d.address e.address
    && ((d.attempts == e.attempts) && ((d.interval == e.interval) && ((d.timeout == e.timeout) && same_wait d.wait e.wait))))

abbrev pub same_type : MessageType → MessageType → Bool
same_type type.Any type.Any = true
same_type (type.Code c) (type.Code d) = bytes_eq c d
same_type (type.CodeAndEvent c e) (type.CodeAndEvent d f) = bytes_eq c d && bytes_eq e f
same_type _ _ = false

abbrev pub same_processing : ProcessingId → ProcessingId → Bool
same_processing processing.Production processing.Production = true
same_processing processing.Training processing.Training = true
same_processing processing.Debugging processing.Debugging = true
same_processing _ _ = false

abbrev pub same_version : VersionId → VersionId → Bool
same_version version.Any version.Any = true
same_version (version.Exactly v) (version.Exactly w) = bytes_eq v w
same_version _ _ = false

abbrev pub same_route : RouteEntry → RouteEntry → Bool
same_route r s = (r.to == s.to) && (option_eq same_condition r.filter s.filter && pointwise same_edit r.steps s.steps)

abbrev pub same_channel : ChannelEntry → ChannelEntry → Bool
same_channel c d =
    bytes_eq c.name d.name && (bytes_eq c.listen d.listen
    && (pointwise same_type c.types d.types && (pointwise same_processing c.processing d.processing && (pointwise same_version c.versions d.versions
    && (option_eq same_condition c.filter d.filter && (pointwise same_edit c.steps d.steps && pointwise same_route c.routes d.routes))))))

abbrev pub same_plan : PlanEntry → PlanEntry → Bool
same_plan p q = pointwise same_destination p.destinations q.destinations && pointwise same_channel p.channels q.channels

pub same_wait-Decides : (x y : Await) → Decides (same_wait x y) (x ≡ y)
same_wait-Decides await.Ack await.Ack = (λ _. refl, λ _. refl)
same_wait-Decides await.None await.None = (λ _. refl, λ _. refl)
same_wait-Decides x y = (λ h. cc, λ h. cc)

pub same_processing-Decides : (x y : ProcessingId) → Decides (same_processing x y) (x ≡ y)
same_processing-Decides processing.Production processing.Production = (λ _. refl, λ _. refl)
same_processing-Decides processing.Training processing.Training = (λ _. refl, λ _. refl)
same_processing-Decides processing.Debugging processing.Debugging = (λ _. refl, λ _. refl)
same_processing-Decides x y = (λ h. cc, λ h. cc)

pub same_version-Decides : (x y : VersionId) → Decides (same_version x y) (x ≡ y)
same_version-Decides version.Any version.Any = (λ _. refl, λ _. refl)
same_version-Decides (version.Exactly v) (version.Exactly w) = Decides-like _ (λ h. ap version.Exactly h) (λ h. cc) (bytes_eq-Decides v w)
same_version-Decides x y = (λ h. cc, λ h. cc)

pub same_type-Decides : (x y : MessageType) → Decides (same_type x y) (x ≡ y)
same_type-Decides type.Any type.Any = (λ _. refl, λ _. refl)
same_type-Decides (type.Code c) (type.Code d) = Decides-like _ (λ h. ap type.Code h) (λ h. cc) (bytes_eq-Decides c d)
same_type-Decides (type.CodeAndEvent c e) (type.CodeAndEvent d f) =
    Decides-like _ (λ h. λ i. type.CodeAndEvent (h.0 i) (h.1 i)) (λ h. (cc, cc)) (Decides-and _ _ (bytes_eq-Decides c d) (bytes_eq-Decides e f))
same_type-Decides x y = (λ h. cc, λ h. cc)

-- of a list of such
lists : {A : Type 0} {same : A → A → Bool} → ((x y : A) → Decides (same x y) (x ≡ y)) → (xs ys : List A) → Decides (pointwise same xs ys) (xs ≡ ys)
lists {same = same} d xs ys = slice_eq-Decides d xs ys (pointwise same xs ys) refl

pub same_destination-Decides : (x y : DestinationEntry) → Decides (same_destination x y) (x ≡ y)
same_destination-Decides x y = Decides-like _
    (λ h. λ i. record {
      name = h.0 i;
      address = h.1.0 i;
      attempts = h.1.1.0 i;
      interval = h.1.1.1.0 i;
      timeout = h.1.1.1.1.0 i;
      wait = h.1.1.1.1.1 i;
    })
    (λ h. (
      ap (λ d. d.name) h,
      (
        ap (λ d. d.address) h,
        (
          ap (λ d. d.attempts) h,
          (ap (λ d. d.interval) h, (ap (λ d. d.timeout) h, ap (λ d. d.wait) h)),
        ),
      ),
    ))
    (Decides-and _ _ (bytes_eq-Decides x.name y.name) (Decides-and _ _ (bytes_eq-Decides x.address y.address)
    (Decides-and _ _ (Decides-eqb x.attempts y.attempts) (Decides-and _ _ (Decides-eqb x.interval y.interval)
    (Decides-and _ _ (Decides-eqb x.timeout y.timeout) (same_wait-Decides x.wait y.wait))))))

pub same_filter-Decides : (x y : Option Condition) → Decides (option_eq same_condition x y) (x ≡ y)
same_filter-Decides None None = (λ _. refl, λ _. refl)
same_filter-Decides None (Some d) = (λ h. cc, λ h. cc)
same_filter-Decides (Some c) None = (λ h. cc, λ h. cc)
same_filter-Decides (Some c) (Some d) = Decides-like _ (λ h. ap Some h) (λ h. cc) (same_condition-Decides c d)

pub same_route-Decides : (x y : RouteEntry) → Decides (same_route x y) (x ≡ y)
same_route-Decides x y =
    Decides-like _ (λ h. λ i. record { to = h.0 i; filter = h.1.0 i; steps = h.1.1 i })
    (λ h. (ap (λ r. r.to) h, (ap (λ r. r.filter) h, ap (λ r. r.steps) h)))
    (Decides-and _ _ (Decides-eqb x.to y.to) (Decides-and _ _ (same_filter-Decides x.filter y.filter) (lists same_edit-Decides x.steps y.steps)))

pub same_channel-Decides : (x y : ChannelEntry) → Decides (same_channel x y) (x ≡ y)
same_channel-Decides x y = Decides-like _
    (λ h. λ i. record {
      name = h.0 i;
      listen = h.1.0 i;
      types = h.1.1.0 i;
      processing = h.1.1.1.0 i;
      versions = h.1.1.1.1.0 i;
      filter = h.1.1.1.1.1.0 i;
      steps = h.1.1.1.1.1.1.0 i;
      routes = h.1.1.1.1.1.1.1 i;
    })
    (λ h. (
      ap (λ c. c.name) h,
      (
        ap (λ c. c.listen) h,
        (
          ap (λ c. c.types) h,
          (
            ap (λ c. c.processing) h,
            (ap (λ c. c.versions) h, (ap (λ c. c.filter) h, (ap (λ c. c.steps) h, ap (λ c. c.routes) h))),
          ),
        ),
      ),
    ))
    (Decides-and _ _ (bytes_eq-Decides x.name y.name) (Decides-and _ _ (bytes_eq-Decides x.listen y.listen)
    (Decides-and _ _ (lists same_type-Decides x.types y.types) (Decides-and _ _ (lists same_processing-Decides x.processing y.processing)
    (Decides-and _ _ (lists same_version-Decides x.versions y.versions)
    (Decides-and _ _ (same_filter-Decides x.filter y.filter)
    (Decides-and _ _ (lists same_edit-Decides x.steps y.steps) (lists same_route-Decides x.routes y.routes))))))))

pub same_plan-Decides : (x y : PlanEntry) → Decides (same_plan x y) (x ≡ y)
same_plan-Decides x y = Decides-like _
    (λ h. λ i. record { destinations = h.0 i; channels = h.1 i })
    (λ h. (ap (λ p. p.destinations) h, ap (λ p. p.channels) h))
    (Decides-and _ _ (lists same_destination-Decides x.destinations y.destinations) (lists same_channel-Decides x.channels y.channels))

pub type_laws : IsPartialEquivalence same_type
type_laws = laws same_type same_type-Decides

pub version_laws : IsPartialEquivalence same_version
version_laws = laws same_version same_version-Decides

pub destination_laws : IsPartialEquivalence same_destination
destination_laws = laws same_destination same_destination-Decides

pub route_laws : IsPartialEquivalence same_route
route_laws = laws same_route same_route-Decides

pub channel_laws : IsPartialEquivalence same_channel
channel_laws = laws same_channel same_channel-Decides

pub plan_laws : IsPartialEquivalence same_plan
plan_laws = laws same_plan same_plan-Decides
