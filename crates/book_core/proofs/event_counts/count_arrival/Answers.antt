use Rattle.std.proofs.Common.{◌≡◌, ◌≢◌, ◌<◌, ◌==◌, inl, inr, ℕ, Bool, true, false, cond, ◌||◌, ◌+◌, List, AllPairs, length, take, get_or, arith, refl, sym, ◌∙◌, ap, subst, length-set, length-take, get_or-set_same, get_or-set_other, get_or-take, take_all}
use Rattle.std.specs.List.{list_any}
use Rattle.std.proofs.lemmas.Bool.Decides.{eqb_tells, nat_tests}
use Rattle.std.proofs.lemmas.List.{get_or_default}
use Rattle.std.proofs.lemmas.List.Folds.{list_any_more, list_any_none}
use Rattle.judge_core.specs.declared.delivery.Delivery.{Delivery}
use Rattle.judge_core.specs.Delivering.{destinations_of}
use Rattle.event_log.specs.declared.entry.Told.{Told}
use Rattle.stat_count.specs.Statistics.{Statistics, channel_at, destination_at, no_arrivals, no_slots}
use Rattle.stat_count.specs.inner.Statistics.{on_channel, on_destination, waits_one}
use Rattle.book_core.specs.inner.Counting.{CountsArrival, told_one}
use Rattle.book_core.proofs.CountedArrivals.{names-either}
use Rattle.book_core.proofs.event_counts.count_arrival.Goals as goal
use Rattle.book_core.proofs.event_counts.count_arrival.Goals.{in-Accepted, in-Filtered, in-Refused, in-Repeat}

-- whether a delivery goes to the destination
abbrev goes_to : ℕ → Delivery → Bool
goes_to d x = x.destination == d

-- a destination that stands at a place stands at none before
not-before : (ds : List Delivery) (i : ℕ) (x : Delivery) → AllPairs (λ x y. x.destination ≢ y.destination) ds → x ≡ get_or ds i x → i < length ds
    → list_any (goes_to x.destination) (take i ds) ≡ false
not-before ds i x once is inside =
    list_any_none (goes_to x.destination) (take i ds) (λ k e below.
    let early : k < i = omega (arith, length-take i ds) in
    let apart = once k i x early inside in
    let kept : get_or (take i ds) k x ≡ get_or ds k x = get_or-take i ds k x early in
    let kept' : get_or (take i ds) k e ≡ get_or (take i ds) k x = get_or_default (take i ds) k e x below in
    let differ : (get_or (take i ds) k e).destination ≢ x.destination = λ same. apart (ap (λ y. y.destination) (sym (kept' ∙ kept)) ∙ (same ∙ ap (λ y. y.destination) is)) in
    grind (arith, nat_tests))

-- one more delivery: its destination waits, which did not before
counted-next : (ds : List Delivery) (i : ℕ) (x : Delivery) (old so_far : Statistics) → x ≡ get_or ds i x → i < length ds
    → AllPairs (λ x y. x.destination ≢ y.destination) ds → x.destination < length so_far.destinations
    → ((d : ℕ) → destination_at d so_far ≡ cond (list_any (goes_to d) (take i ds)) (waits_one (destination_at d old)) (destination_at d old))
    → (d : ℕ) → destination_at d (on_destination x.destination waits_one so_far) ≡ cond (list_any (goes_to d) (take (i + 1) ds)) (waits_one (destination_at d old)) (destination_at d old)
counted-next ds i x old so_far is inside once known before d =
    elim (eqb_tells x.destination d) [
      | inl w ↦
          subst (λ k. destination_at k (on_destination x.destination waits_one so_far) ≡ cond (list_any (goes_to k) (take (i + 1) ds)) (waits_one (destination_at k old)) (destination_at k old)) w.1
          (get_or-set_same so_far.destinations x.destination (waits_one (destination_at x.destination so_far)) no_slots known
          ∙ (ap waits_one (before x.destination ∙ ap (λ b. cond b (waits_one (destination_at x.destination old)) (destination_at x.destination old)) (not-before ds i x once is inside))
          ∙ sym (ap (λ b. cond b (waits_one (destination_at x.destination old)) (destination_at x.destination old)) its)))
      | inr w ↦
          get_or-set_other so_far.destinations x.destination d (waits_one (destination_at x.destination so_far)) no_slots (λ same. w.1 (sym same))
          ∙ (before d ∙ sym (ap (λ b. cond b (waits_one (destination_at d old)) (destination_at d old)) (next d ∙ (ap (λ b. list_any (goes_to d) (take i ds) || b) w.0 ∙ or-false (list_any (goes_to d) (take i ds))))))
    ]
  where
    next : (k : ℕ) → list_any (goes_to k) (take (i + 1) ds) ≡ (list_any (goes_to k) (take i ds) || goes_to k x)
    next k = list_any_more (goes_to k) ds i x inside ∙ ap (λ y. list_any (goes_to k) (take i ds) || goes_to k y) (sym is)

    or-false : (b : Bool) → (b || false) ≡ b
    or-false true = refl
    or-false false = refl

    its : list_any (goes_to x.destination) (take (i + 1) ds) ≡ true
    its =
        let own : goes_to x.destination x ≡ true = grind (arith, nat_tests) in
        next x.destination ∙ (ap (λ b. b || goes_to x.destination x) (not-before ds i x once is inside) ∙ own)

-- the destinations stay as many
all-stay : (d : ℕ) (so_far new : Statistics) → length so_far.destinations ≡ 32 → new ≡ on_destination d waits_one so_far → length new.destinations ≡ 32
all-stay d so_far new before is = ap (λ t. length t.destinations) is ∙ (length-set so_far.destinations d (waits_one (destination_at d so_far)) ∙ before)

-- a delivery's destination is one of those counted
inside : (c : goal.After-count_waiting) → c.delivery-item.result.destination < length c.loop-delivery.counts.destinations
inside c =
    let within = c.requires.within c.loop-delivery.delivery-index c.delivery-item.result c.loop-delivery-test.true in
    let is = ap (λ y. y.destination) c.delivery-item.is in omega arith

pub loop-delivery-preserved : goal.loop-delivery-preserved
loop-delivery-preserved c = record {
  channels = ap (λ t. t.channels) c.count_waiting.ensures ∙ c.loop-delivery.invariant.channels;
  destinations = all-stay c.delivery-item.result.destination c.loop-delivery.counts c.count_waiting.new.self c.loop-delivery.invariant.destinations c.count_waiting.ensures;
  so_far = λ d. ap (destination_at d) c.count_waiting.ensures
      ∙ counted-next c.args.deliveries.now c.loop-delivery.delivery-index c.delivery-item.result c.match-told.counts c.loop-delivery.counts c.delivery-item.is c.loop-delivery-test.true c.requires.once (inside c) c.loop-delivery.invariant.so_far d;
}

-- what was counted, from the channel's counter and the slots that wait
all-counted : (channel : ℕ) (told : Told) (ds : List Delivery) (old so_far new : Statistics) → channel < length old.channels → so_far ≡ on_channel channel (told_one told) old
    → new.channels ≡ so_far.channels → length new.destinations ≡ length so_far.destinations
    → ((d : ℕ) → destination_at d new ≡ cond (list_any (goes_to d) ds) (waits_one (destination_at d so_far)) (destination_at d so_far))
    → CountsArrival channel told (destinations_of ds) old new
all-counted channel told ds old so_far new place first channels size each = record {
  channels = ap length channels' ∙ length-set old.channels channel (told_one told (channel_at channel old));
  destinations = size ∙ ap (λ t. length t.destinations) first;
  its_channel = ap (λ cs. get_or cs channel no_arrivals) channels' ∙ get_or-set_same old.channels channel (told_one told (channel_at channel old)) no_arrivals place;
  other_channels = λ c other. ap (λ cs. get_or cs c no_arrivals) channels' ∙ get_or-set_other old.channels channel c (told_one told (channel_at channel old)) no_arrivals other;
  each_destination = λ d below. each d ∙ (ap (λ t. cond (list_any (goes_to d) ds) (waits_one (destination_at d t)) (destination_at d t)) first
      ∙ ap (λ b. cond b (waits_one (destination_at d old)) (destination_at d old)) (sym (names-either d ds)));
}
  where
    channels' : new.channels ≡ (on_channel channel (told_one told) old).channels
    channels' = channels ∙ ap (λ t. t.channels) first

-- the channel's counter
first-counted : (c : goal.After-loop-delivery) → c.match-told.counts ≡ on_channel c.args.channel (told_one c.args.told) c.args.counts.now
first-counted c =
    elim c.match-told.branch [
      | in-Accepted w ↦ w.counts-is ∙ (w.count_accepted.ensures ∙ ap (λ t. on_channel c.args.channel (told_one t) c.args.counts.now) (sym w.in-Accepted.is))
      | in-Filtered w ↦ w.counts-is ∙ (w.count_filtered.ensures ∙ ap (λ t. on_channel c.args.channel (told_one t) c.args.counts.now) (sym w.in-Filtered.is))
      | in-Refused w ↦ w.counts-is ∙ (w.count_refused.ensures ∙ ap (λ t. on_channel c.args.channel (told_one t) c.args.counts.now) (sym w.in-Refused.is))
      | in-Repeat w ↦ w.counts-is ∙ (w.count_repeat.ensures ∙ ap (λ t. on_channel c.args.channel (told_one t) c.args.counts.now) (sym w.in-Repeat.is))
    ]

pub returns : goal.returns
returns c =
    let place : c.args.channel < length c.args.counts.now.channels = omega (arith, c.requires.sizes, c.requires.channel) in
    let first = first-counted c in
    let many : length c.match-told.counts.destinations ≡ 32 = ap (λ t. length t.destinations) first ∙ c.requires.slots in
    let whole : take c.loop-delivery.delivery-index c.args.deliveries.now ≡ c.args.deliveries.now = take_all c.loop-delivery.delivery-index c.args.deliveries.now c.loop-delivery-test.false in
    all-counted c.args.channel c.args.told c.args.deliveries.now c.args.counts.now c.match-told.counts c.loop-delivery.counts place first
    c.loop-delivery.invariant.channels (c.loop-delivery.invariant.destinations ∙ sym many)
    (λ d. c.loop-delivery.invariant.so_far d ∙ ap (λ ds. cond (list_any (goes_to d) ds) (waits_one (destination_at d c.match-told.counts)) (destination_at d c.match-told.counts)) whole)
