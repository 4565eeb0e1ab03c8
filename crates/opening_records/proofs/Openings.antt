-- Bytes are those of one opening at most.
use Rattle.std.proofs.Common.{◌≡◌, ◌+◌, ◌^◌, ◌<◌, ◌≤◌, ℕ, Bool, true, false, ◌||◌, List, [], ◌∷◌, length, nat_le, Result, Ok, refl, sym, ap, subst, ◌∙◌, arith}
use Rattle.std.specs.List.{All, AllByRecursion, list_all, list_any}
use Rattle.std.proofs.lemmas.Bool.{and_from, eq-eqb, lt-leb, lt-ltb}
use Rattle.stat_count.specs.declared.ChannelCounts.{ChannelCounts}
use Rattle.stat_count.specs.declared.DestinationCounts.{DestinationCounts}
use Rattle.stat_count.specs.Statistics.{Statistics}
use Rattle.stat_count.specs.inner.Statistics.{IsStatistics, are_statistics, can_be, is_sum, slots_of}
use Rattle.plan_text.specs.Entries.{PlanEntry}
use Rattle.plan_text.specs.Document.{plan_in}
use Rattle.plan_text.specs.declared.fault.PlanFault.{PlanFault}
use Rattle.judge_core.specs.declared.delivery.Delivery.{Delivery}
use Rattle.event_log.specs.History.{Remembered, Snapshot}
use Rattle.opening_records.specs.inner.Encoding.{Written, opening_bytes, own_text}
use Rattle.opening_records.specs.inner.Openings.{Fits, IsDeliveryOf, IsDocumentOf, IsEncoding, IsEncodingBy, IsRemembered, written}
use Rattle.opening_records.specs.inner.Decoding.{opening_in}
use Rattle.opening_records.specs.inner.Lengths.{has_long, is_long, is_too_long}
use Rattle.opening_records.specs.inner.Reading.{IsSnapshotOf}
use Rattle.event_records.proofs.Only.{got}
use Rattle.opening_records.proofs.Back.{opening_back}
use Rattle.opening_records.proofs.Deliveries.{test_of}

-- ---- counters

pub statistics_are : (s : Statistics) → IsStatistics s → are_statistics s ≡ true
statistics_are s is =
    and_from _ _ (
    and_from _ _ (
    and_from _ _ (eq-eqb _ _ is.all_channels) (eq-eqb _ _ is.all_destinations)
    ) (test_of is_sum (λ c. c.received ≡ c.filtered + c.accepted + c.refused) (λ c e. eq-eqb _ _ e) s.channels is.received_is_sum)
    ) (can_all s.destinations is.were_taken is.slots_fit)
  where
    can_all : (ds : List DestinationCounts) → All (λ c. c.inflight + c.delivered ≤ c.attempts) ds → All (λ c. slots_of c < 2 ^ 64) ds → list_all can_be ds ≡ true
    can_all ds taken fit = test_of can_be (λ c. (c.inflight + c.delivered ≤ c.attempts) × (slots_of c < 2 ^ 64))
        (λ c h. and_from _ _ (lt-ltb (c.inflight + c.delivered) (c.attempts + 1) (omega (arith, h.0))) (lt-ltb (slots_of c) (2 ^ 64) h.1)) ds (λ k d inside. (taken k d inside, fit k d inside))

-- ---- one opening at most

got_plan : (p q : PlanEntry) → ◌≡◌ {A = Result PlanEntry PlanFault} (Ok p) (Ok q) → p ≡ q
got_plan p q e = cc

abbrev statistics_by : List ChannelCounts → List DestinationCounts → Statistics
statistics_by channels destinations = record { channels = channels; destinations = destinations }

counters_alike : (c d : List ChannelCounts) (e f : List DestinationCounts) → c ≡ d → e ≡ f → statistics_by c e ≡ statistics_by d f
counters_alike c d e f p q = rw (p, q) refl

abbrev opening_by : PlanEntry → ℕ → ℕ → ℕ → ℕ → ℕ → Statistics → List Remembered → Snapshot
opening_by plan events_max places messages deployments prunings forgotten remembered = record {
  plan = plan;
  events_max = events_max;
  places = places;
  messages = messages;
  deployments = deployments;
  prunings = prunings;
  forgotten = forgotten;
  remembered = remembered;
}

alike : (p q : PlanEntry) (a b c d e f g h i j : ℕ) (s t : Statistics) (m n : List Remembered) → p ≡ q → a ≡ b → c ≡ d → e ≡ f → g ≡ h → i ≡ j → s ≡ t → m ≡ n
    → opening_by p a c e g i s m ≡ opening_by q b d f h j t n
alike p q a b c d e f g h i j s t m n e0 e1 e2 e3 e4 e5 e6 e7 = rw (e0, e1, e2, e3, e4, e5, e6, e7) refl

-- openings that are written alike, with documents of their plans, are the same
pub same_opening : (d e : List ℕ) (a b : Snapshot) → IsDocumentOf a d → IsDocumentOf b e → written d a ≡ written e b → a ≡ b
same_opening d e a b is other same =
    let documents : d ≡ e = ap (λ (w : Written). w.document) same in
    let plans : a.plan ≡ b.plan = got_plan a.plan b.plan (sym is.plan ∙ (ap plan_in documents ∙ other.plan)) in
    let events_max : a.events_max ≡ b.events_max = ap (λ (w : Written). w.head.events_max) same in
    let places : a.places ≡ b.places = ap (λ (w : Written). w.head.places) same in
    let messages : a.messages ≡ b.messages = ap (λ (w : Written). w.head.messages) same in
    let deployments : a.deployments ≡ b.deployments = ap (λ (w : Written). w.head.deployments) same in
    let prunings : a.prunings ≡ b.prunings = ap (λ (w : Written). w.head.prunings) same in
    let channels : a.forgotten.channels ≡ b.forgotten.channels = ap (λ (w : Written). w.channels) same in
    let destinations : a.forgotten.destinations ≡ b.forgotten.destinations = ap (λ (w : Written). w.destinations) same in
    let forgotten = counters_alike a.forgotten.channels b.forgotten.channels a.forgotten.destinations b.forgotten.destinations channels destinations in
    let remembered : a.remembered ≡ b.remembered = ap (λ (w : Written). w.remembered) same in
    alike a.plan b.plan a.events_max b.events_max a.places b.places a.messages b.messages a.deployments b.deployments a.prunings b.prunings
    (statistics_by a.forgotten.channels a.forgotten.destinations) (statistics_by b.forgotten.channels b.forgotten.destinations) a.remembered b.remembered
    plans events_max places messages deployments prunings forgotten remembered

pub one_opening : (a b : Snapshot) (bytes : List ℕ) → IsEncoding a bytes → IsEncoding b bytes → a ≡ b
one_opening a b bytes is other =
    let first : opening_in bytes ≡ Ok (written is.0 a) = ap opening_in is.1.is ∙ opening_back (written is.0 a) is.1.fits in
    let second : opening_in bytes ≡ Ok (written other.0 b) = ap opening_in other.1.is ∙ opening_back (written other.0 b) other.1.fits in
    same_opening is.0 other.0 a b is.1.plan other.1.plan (got _ _ (sym first ∙ second))

-- ---- lengths

deliveries_short : (raw : List ℕ) (xs : List Delivery) → AllByRecursion (IsDeliveryOf raw) xs → list_any (λ x. is_long (length (own_text raw x.payload))) xs ≡ false
deliveries_short raw [] fits = refl
deliveries_short raw (x ∷ xs) fits =
    let first : is_long (length (own_text raw x.payload)) ≡ false = lt-leb _ _ fits.0.text in
    rw (first) (deliveries_short raw xs fits.1)

arrival_short : (r : Remembered) → IsRemembered r → has_long r ≡ false
arrival_short r fits =
    let raw : is_long (length r.raw) ≡ false = lt-leb _ _ fits.raw in
    rw raw (deliveries_short r.raw r.deliveries fits.deliveries)

arrivals_short : (rs : List Remembered) → AllByRecursion IsRemembered rs → list_any has_long rs ≡ false
arrivals_short [] fits = refl
arrivals_short (r ∷ rs) fits = rw (arrival_short r fits.0) (arrivals_short rs fits.1)

pub fits_short : (w : Written) → Fits w → is_too_long w ≡ false
fits_short w fits =
    let document : is_long (length w.document) ≡ false = lt-leb _ _ fits.document in
    let remembered : is_long (length w.remembered) ≡ false = lt-leb _ _ fits.few_remembered in
    rw (document, remembered) (arrivals_short w.remembered fits.remembered)
