use Rattle.std.proofs.Common.{ℕ, List, Bool, ◌++◌, is_some, map, filter, option_map, sym, ◌∙◌, ap}
use Rattle.std.specs.Option.{option_to_list}
use Rattle.toml.specs.Data.{get_member}
use Rattle.toml.specs.View.{table_view}
use Rattle.plan_text.proofs.Chosen.{text_of, taken, left_out, first, second}
use Rattle.plan_text.proofs.from_toml.keys.Keys.one_of.Goals.{then-has+else-is_some, else-has}
use Rattle.plan_text.proofs.from_toml.keys.Keys.one_of.Goals as goal

pub returns-then-is_some : goal.returns-then-is_some
returns-then-is_some c =
    let p : List ℕ → Bool = λ k. is_some (get_member k (table_view c.args.self.now.table.now)) in
    let here = taken p c.args.names.now c.loop-name.name-index _ c.loop-name-test.true (sym c.has.ensures ∙ c.if-has.true) in
    second c.fault_at.result c.args.self.now.at.now (filter p (map text_of c.args.names.now)) c.loop-name.found _ _ (sym c.is_some.ensures ∙ c.if-is_some.true)
    (c.loop-name.invariant ∙ ap (λ (ks : List (List ℕ)). option_to_list (option_map text_of c.loop-name.found) ++ ks) here) c.fault_at.ensures

pub loop-name-preserved : goal.loop-name-preserved
loop-name-preserved c =
    let p : List ℕ → Bool = λ k. is_some (get_member k (table_view c.args.self.now.table.now)) in
    elim c.if-has.branch [
      | then-has+else-is_some w ↦
          let here = taken p c.args.names.now c.loop-name.name-index _ c.loop-name-test.true (sym c.has.ensures ∙ w.if-has.true) in
          first (filter p (map text_of c.args.names.now)) _ c.loop-name.found c.if-has.found _ (sym w.is_some.ensures ∙ w.if-is_some.false) w.found-is
          (c.loop-name.invariant ∙ ap (λ (ks : List (List ℕ)). option_to_list (option_map text_of c.loop-name.found) ++ ks) here)
      | else-has w ↦
          let here = left_out p c.args.names.now c.loop-name.name-index _ c.loop-name-test.true (sym c.has.ensures ∙ w.if-has.false) in
          rw w.found-is (c.loop-name.invariant ∙ ap (λ (ks : List (List ℕ)). option_to_list (option_map text_of c.loop-name.found) ++ ks) here)
    ]
