-- A code for what a plan says, by which proofs distinguish plans.
use Rattle.std.specs.Prelude.{◌≡◌, refl, ℕ, List, [], ◌∷◌, ◌⊎◌, Option, Some, None}
use Rattle.std.specs.Coded.{Coded, code_by, coded×, coded⊎, coded_ℕ, coded_list, coded_option}
use Rattle.std.proofs.Common.{ap, inl, inr}
use base.Stored.{Gv, gnil, gnum, gcons, coded_unit}
use Rattle.er7_tree.specs.declared.path.Part.{Part}
use Rattle.er7_tree.specs.declared.path.Part.TheVariants.{Whole, Repetition, Component, Subcomponent}
use Rattle.er7_tree.specs.Path.{Place, part_numbers}
use Rattle.hl7_filter.specs.Condition.{Condition, equals, one_of, exists, starts, contains, all, any, negated, Conditions, no_conditions, condition}
use Rattle.hl7_transform.specs.Step.{Edit, set, copy, clear, lookup, remove}
use Rattle.plan_text.specs.declared.destination.Await.{Await}
use Rattle.plan_text.specs.declared.destination.Await.TheVariants as await
use Rattle.plan_text.specs.declared.channel.MessageType.{MessageType}
use Rattle.plan_text.specs.declared.channel.MessageType.TheVariants as type
use Rattle.plan_text.specs.declared.channel.ProcessingId.{ProcessingId}
use Rattle.plan_text.specs.declared.channel.ProcessingId.TheVariants as processing
use Rattle.plan_text.specs.declared.channel.VersionId.{VersionId}
use Rattle.plan_text.specs.declared.channel.VersionId.TheVariants as version
use Rattle.plan_text.specs.Entries.{DestinationEntry, RouteEntry, ChannelEntry, PlanEntry}

abbrev pub text_code : Coded (List ℕ)
text_code = coded_list coded_ℕ

-- a part of a field by its numbers
abbrev pub part_from : List ℕ → Part
part_from [] = Whole
part_from (r ∷ []) = Repetition r
part_from (r ∷ c ∷ []) = Component r c
part_from (r ∷ c ∷ s ∷ ns) = Subcomponent r c s

pub part_back : (p : Part) → part_from (part_numbers p) ≡ p
part_back Whole = refl
part_back (Repetition r) = refl
part_back (Component r c) = refl
part_back (Subcomponent r c s) = refl

abbrev pub texts_code : Coded (List (List ℕ))
texts_code = coded_list text_code

abbrev pub part_code : Coded Part
part_code = code_by (List ℕ) text_code part_numbers part_from part_back

abbrev pub place_code : Coded Place
place_code =
    code_by (List ℕ × (ℕ × (ℕ × Part))) (coded× text_code (coded× coded_ℕ (coded× coded_ℕ part_code)))
    (λ p. (p.segment, (p.occurrence, (p.field, p.part))))
    (λ q. record { segment = q.0; occurrence = q.1.0; field = q.1.1.0; part = q.1.1.1 }) (λ _. refl)

-- a condition as a tree: the number of its kind, and what it says
abbrev mutual
  pub condition_tree : Condition → Gv
  condition_tree (equals place text) = gcons (gnum 0) (gcons (place_code.code place) (text_code.code text))
  condition_tree (one_of place texts) = gcons (gnum 1) (gcons (place_code.code place) (texts_code.code texts))
  condition_tree (exists place) = gcons (gnum 2) (place_code.code place)
  condition_tree (starts place text) = gcons (gnum 3) (gcons (place_code.code place) (text_code.code text))
  condition_tree (contains place text) = gcons (gnum 4) (gcons (place_code.code place) (text_code.code text))
  condition_tree (all conditions) = gcons (gnum 5) (conditions_tree conditions)
  condition_tree (any conditions) = gcons (gnum 6) (conditions_tree conditions)
  condition_tree (negated c) = gcons (gnum 7) (condition_tree c)

  pub conditions_tree : Conditions → Gv
  conditions_tree no_conditions = gnil
  conditions_tree (condition c cs) = gcons (condition_tree c) (conditions_tree cs)

-- the two parts of a tree
abbrev head : Gv → Gv
head (gcons a b) = a
head g = g

abbrev tail : Gv → Gv
tail (gcons a b) = b
tail g = g

-- what two trees with a place and a text have in common
said_inj : (p q : Place) (t u : List ℕ)
    → gcons (place_code.code p) (text_code.code t) ≡ gcons (place_code.code q) (text_code.code u) → (p ≡ q) × (t ≡ u)
said_inj p q t u e = (place_code.inj p q (ap head e), text_code.inj t u (ap tail e))

mutual
  pub condition_inj : (c d : Condition) → condition_tree c ≡ condition_tree d → c ≡ d
  condition_inj (equals p t) (equals q u) e = let same = said_inj p q t u (ap tail e) in λ i. equals (same.0 i) (same.1 i)
  condition_inj (one_of p ts) (one_of q us) e =
      let place = place_code.inj p q (ap head (ap tail e)) in
      let texts = texts_code.inj ts us (ap tail (ap tail e)) in λ i. one_of (place i) (texts i)
  condition_inj (exists p) (exists q) e = ap exists (place_code.inj p q (ap tail e))
  condition_inj (starts p t) (starts q u) e = let same = said_inj p q t u (ap tail e) in λ i. starts (same.0 i) (same.1 i)
  condition_inj (contains p t) (contains q u) e = let same = said_inj p q t u (ap tail e) in λ i. contains (same.0 i) (same.1 i)
  condition_inj (all cs) (all ds) e = ap all (conditions_inj cs ds (ap tail e))
  condition_inj (any cs) (any ds) e = ap any (conditions_inj cs ds (ap tail e))
  condition_inj (negated c) (negated d) e = ap negated (condition_inj c d (ap tail e))
  condition_inj c d e = cc

  pub conditions_inj : (cs ds : Conditions) → conditions_tree cs ≡ conditions_tree ds → cs ≡ ds
  conditions_inj no_conditions no_conditions e = refl
  conditions_inj (condition c cs) (condition d ds) e = λ i. condition (condition_inj c d (ap head e) i) (conditions_inj cs ds (ap tail e) i)
  conditions_inj cs ds e = cc

abbrev pub condition_code : Coded Condition
condition_code = record { code = condition_tree; inj = condition_inj }

-- the five kinds of steps as a sum
abbrev pub EditSum : Type 0
EditSum = (Place × List ℕ) ⊎ ((Place × Place) ⊎ (Place ⊎ ((Place × (List (List ℕ × List ℕ) × Option (List ℕ))) ⊎ List ℕ)))

abbrev pub edit_sum : Edit → EditSum
edit_sum (set place text) = inl (place, text)
edit_sum (copy from to) = inr (inl (from, to))
edit_sum (clear place) = inr (inr (inl place))
edit_sum (lookup place table default) = inr (inr (inr (inl (place, (table, default)))))
edit_sum (remove name) = inr (inr (inr (inr name)))

abbrev pub sum_edit : EditSum → Edit
sum_edit (inl p) = set p.0 p.1
sum_edit (inr (inl p)) = copy p.0 p.1
sum_edit (inr (inr (inl place))) = clear place
sum_edit (inr (inr (inr (inl p)))) = lookup p.0 p.1.0 p.1.1
sum_edit (inr (inr (inr (inr name)))) = remove name

pub edit_back : (e : Edit) → sum_edit (edit_sum e) ≡ e
edit_back (set place text) = refl
edit_back (copy from to) = refl
edit_back (clear place) = refl
edit_back (lookup place table default) = refl
edit_back (remove name) = refl

abbrev pub edit_code : Coded Edit
edit_code =
    code_by EditSum
    (coded⊎ (coded× place_code text_code) (coded⊎ (coded× place_code place_code) (coded⊎ place_code
    (coded⊎ (coded× place_code (coded× (coded_list (coded× text_code text_code)) (coded_option text_code))) text_code))))
    edit_sum sum_edit edit_back

abbrev pub route_code : Coded RouteEntry
route_code =
    code_by (ℕ × (Option Condition × List Edit)) (coded× coded_ℕ (coded× (coded_option condition_code) (coded_list edit_code)))
    (λ r. (r.to, (r.filter, r.steps))) (λ p. record { to = p.0; filter = p.1.0; steps = p.1.1 }) (λ _. refl)

-- the variants of an enum as a sum
abbrev pub type_sum : MessageType → Unit {0} ⊎ (List ℕ ⊎ (List ℕ × List ℕ))
type_sum type.Any = inl tt
type_sum (type.Code c) = inr (inl c)
type_sum (type.CodeAndEvent c e) = inr (inr (c, e))

abbrev pub sum_type : Unit {0} ⊎ (List ℕ ⊎ (List ℕ × List ℕ)) → MessageType
sum_type (inl _) = type.Any
sum_type (inr (inl c)) = type.Code c
sum_type (inr (inr p)) = type.CodeAndEvent p.0 p.1

pub type_back : (t : MessageType) → sum_type (type_sum t) ≡ t
type_back type.Any = refl
type_back (type.Code c) = refl
type_back (type.CodeAndEvent c e) = refl

abbrev pub type_code : Coded MessageType
type_code =
    code_by (Unit {0} ⊎ (List ℕ ⊎ (List ℕ × List ℕ))) (coded⊎ coded_unit (coded⊎ text_code (coded× text_code text_code)))
    type_sum sum_type type_back

abbrev pub processing_sum : ProcessingId → Unit {0} ⊎ (Unit {0} ⊎ Unit {0})
processing_sum processing.Production = inl tt
processing_sum processing.Training = inr (inl tt)
processing_sum processing.Debugging = inr (inr tt)

abbrev pub sum_processing : Unit {0} ⊎ (Unit {0} ⊎ Unit {0}) → ProcessingId
sum_processing (inl _) = processing.Production
sum_processing (inr (inl _)) = processing.Training
sum_processing (inr (inr _)) = processing.Debugging

pub processing_back : (p : ProcessingId) → sum_processing (processing_sum p) ≡ p
processing_back processing.Production = refl
processing_back processing.Training = refl
processing_back processing.Debugging = refl

abbrev pub processing_code : Coded ProcessingId
processing_code =
    code_by (Unit {0} ⊎ (Unit {0} ⊎ Unit {0})) (coded⊎ coded_unit (coded⊎ coded_unit coded_unit)) processing_sum sum_processing processing_back

abbrev pub version_option : VersionId → Option (List ℕ)
version_option version.Any = None
version_option (version.Exactly v) = Some v

abbrev pub option_version : Option (List ℕ) → VersionId
option_version None = version.Any
option_version (Some v) = version.Exactly v

pub version_back : (v : VersionId) → option_version (version_option v) ≡ v
version_back version.Any = refl
version_back (version.Exactly v) = refl

abbrev pub version_code : Coded VersionId
version_code = code_by (Option (List ℕ)) (coded_option text_code) version_option option_version version_back

abbrev pub channel_code : Coded ChannelEntry
channel_code =
    code_by (List ℕ × (List ℕ × (List MessageType × (List ProcessingId × (List VersionId × (Option Condition × (List Edit × List RouteEntry)))))))
    (coded× text_code (coded× text_code (coded× (coded_list type_code) (coded× (coded_list processing_code)
    (coded× (coded_list version_code) (coded× (coded_option condition_code) (coded× (coded_list edit_code) (coded_list route_code))))))))
    (λ c. (c.name, (c.listen, (c.types, (c.processing, (c.versions, (c.filter, (c.steps, c.routes))))))))
    (λ p. record {
      name = p.0;
      listen = p.1.0;
      types = p.1.1.0;
      processing = p.1.1.1.0;
      versions = p.1.1.1.1.0;
      filter = p.1.1.1.1.1.0;
      steps = p.1.1.1.1.1.1.0;
      routes = p.1.1.1.1.1.1.1;
    })
    (λ _. refl)

abbrev pub wait_sum : Await → Unit {0} ⊎ Unit {0}
wait_sum await.Ack = inl tt
wait_sum await.None = inr tt

abbrev pub sum_wait : Unit {0} ⊎ Unit {0} → Await
sum_wait (inl _) = await.Ack
sum_wait (inr _) = await.None

pub wait_back : (w : Await) → sum_wait (wait_sum w) ≡ w
wait_back await.Ack = refl
wait_back await.None = refl

abbrev pub destination_code : Coded DestinationEntry
destination_code =
    code_by (List ℕ × (List ℕ × (ℕ × (ℕ × (ℕ × (Unit {0} ⊎ Unit {0}))))))
    (coded× text_code (coded× text_code (coded× coded_ℕ (coded× coded_ℕ (coded× coded_ℕ (coded⊎ coded_unit coded_unit))))))
    (λ d. (d.name, (d.address, (d.attempts, (d.interval, (d.timeout, wait_sum d.wait))))))
    (λ p. record { name = p.0; address = p.1.0; attempts = p.1.1.0; interval = p.1.1.1.0; timeout = p.1.1.1.1.0; wait = sum_wait p.1.1.1.1.1 })
    (λ d. λ i. record {
      name = d.name;
      address = d.address;
      attempts = d.attempts;
      interval = d.interval;
      timeout = d.timeout;
      wait = wait_back d.wait i;
    })

abbrev pub plan_code : Coded PlanEntry
plan_code =
    code_by (List DestinationEntry × List ChannelEntry) (coded× (coded_list destination_code) (coded_list channel_code))
    (λ p. (p.destinations, p.channels)) (λ q. record { destinations = q.0; channels = q.1 }) (λ _. refl)
