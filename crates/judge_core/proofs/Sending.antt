-- One more route is taken.
use Rattle.std.proofs.Common.{◌≡◌, ℕ, ◌+◌, ◌<◌, Bool, true, false, cond, ◌||◌, List, [], ◌∷◌, ◌++◌, length, take, get_or, Option, None, Some, Result, Ok, Err, refl, ◌∙◌, ap, rules}
use Rattle.std.specs.Prelude.{is_err, option_map}
use Rattle.std.specs.List.{filter_map, list_any, cons_option}
use Rattle.std.specs.Result.{result_ok}
use Rattle.std.proofs.lemmas.List.Elements.{filter_more, filter_map-append}
use Rattle.std.proofs.lemmas.List.Folds.{list_any-append}
use Rattle.er7_tree.specs.Tree.{Tree, text_of}
use Rattle.hl7_transform.specs.declared.fault.StepFault.{StepFault}
use Rattle.hl7_transform.specs.Step.{after_steps}
use Rattle.plan_text.specs.Entries.{RouteEntry}
use Rattle.judge_core.specs.declared.delivery.Delivery.{Delivery}
use Rattle.judge_core.specs.Judging.{deliveries_by, delivery_by, is_stopped, open_routes, passes}

append-nil : {A : Type 0} (xs : List A) → xs ++ [] ≡ xs
append-nil xs = search rules

or-false : (b : Bool) → (b || false) ≡ b
or-false true = refl
or-false false = refl

or-true : (b : Bool) → (b || true) ≡ true
or-true true = refl
or-true false = refl

module _ (t : Tree) (r : RouteEntry) where
  -- a route whose steps give a text
  sends : (text : List ℕ) (a : Result Tree StepFault) → Some text ≡ option_map text_of (result_ok a)
      → (is_err a ≡ false) × (option_map {U = Delivery} (λ u. record { destination = r.to; payload = text_of u }) (result_ok a) ≡ Some (record { destination = r.to; payload = text }))
  sends text (Ok u) e = let same : text_of u ≡ text = cc in (refl, ap (λ s. Some (record { destination = r.to; payload = s })) same)
  sends text (Err stop) e = absurd cc

  -- a route whose steps stop
  stops : (a : Result Tree StepFault) → None ≡ option_map text_of (result_ok a)
      → (is_err a ≡ true) × (option_map {U = Delivery} (λ u. record { destination = r.to; payload = text_of u }) (result_ok a) ≡ None)
  stops (Ok u) e = absurd cc
  stops (Err stop) e = (refl, refl)

module _ (t : Tree) (routes : List RouteEntry) (i : ℕ) (r : RouteEntry) (inside : i < length routes) (is : r ≡ get_or routes i r) where
  open-more : (b : Bool) → passes t r.filter ≡ b → open_routes (take (i + 1) routes) t ≡ open_routes (take i routes) t ++ cond b (r ∷ []) []
  open-more b lets = filter_more (λ x. passes t x.filter) routes i r inside ∙ rw (← is, lets) refl

  -- a route that the message doesn't pass
  pub stopped-skip : passes t r.filter ≡ false → list_any (is_stopped t) (open_routes (take (i + 1) routes) t) ≡ list_any (is_stopped t) (open_routes (take i routes) t)
  stopped-skip lets = ap (list_any (is_stopped t)) (open-more false lets ∙ append-nil (open_routes (take i routes) t))

  pub all-skip : passes t r.filter ≡ false → deliveries_by (take (i + 1) routes) t ≡ deliveries_by (take i routes) t
  all-skip lets = ap (filter_map (delivery_by t)) (open-more false lets ∙ append-nil (open_routes (take i routes) t))

  stopped-open : passes t r.filter ≡ true → (b : Bool) → is_stopped t r ≡ b → list_any (is_stopped t) (open_routes (take (i + 1) routes) t) ≡ (list_any (is_stopped t) (open_routes (take i routes) t) || b)
  stopped-open lets b e =
      ap (list_any (is_stopped t)) (open-more true lets)
      ∙ (list_any-append (is_stopped t) (open_routes (take i routes) t) (r ∷ [])
      ∙ ap (λ x. list_any (is_stopped t) (open_routes (take i routes) t) || x) (ap (λ x. x || false) e ∙ or-false b))

  all-open : passes t r.filter ≡ true → (o : Option Delivery) → delivery_by t r ≡ o → deliveries_by (take (i + 1) routes) t ≡ deliveries_by (take i routes) t ++ cons_option o []
  all-open lets o e =
      ap (filter_map (delivery_by t)) (open-more true lets)
      ∙ (filter_map-append (delivery_by t) (open_routes (take i routes) t) (r ∷ [])
      ∙ ap (λ x. deliveries_by (take i routes) t ++ cons_option x []) e)

  -- a route that sends a text
  pub stopped-send : passes t r.filter ≡ true → (text : List ℕ) → Some text ≡ option_map text_of (result_ok (after_steps r.steps t)) → list_any (is_stopped t) (open_routes (take (i + 1) routes) t) ≡ list_any (is_stopped t) (open_routes (take i routes) t)
  stopped-send lets text e = stopped-open lets false (sends t r text (after_steps r.steps t) e).0 ∙ or-false (list_any (is_stopped t) (open_routes (take i routes) t))

  pub all-send : passes t r.filter ≡ true → (text : List ℕ) → Some text ≡ option_map text_of (result_ok (after_steps r.steps t)) → deliveries_by (take (i + 1) routes) t ≡ deliveries_by (take i routes) t ++ record { destination = r.to; payload = text } ∷ []
  all-send lets text e = all-open lets (Some (record { destination = r.to; payload = text })) (sends t r text (after_steps r.steps t) e).1

  -- a route that stops
  pub stopped-stop : passes t r.filter ≡ true → None ≡ option_map text_of (result_ok (after_steps r.steps t)) → list_any (is_stopped t) (open_routes (take (i + 1) routes) t) ≡ true
  stopped-stop lets e = stopped-open lets true (stops t r (after_steps r.steps t) e).0 ∙ or-true (list_any (is_stopped t) (open_routes (take i routes) t))

  pub all-stop : passes t r.filter ≡ true → None ≡ option_map text_of (result_ok (after_steps r.steps t)) → deliveries_by (take (i + 1) routes) t ≡ deliveries_by (take i routes) t
  all-stop lets e = all-open lets None (stops t r (after_steps r.steps t) e).1 ∙ append-nil (deliveries_by (take i routes) t)
