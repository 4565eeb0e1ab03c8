use Rattle.std.proofs.Common.{◌≡◌, ◌++◌, drop, map, filter, is_some, option_map}
use Rattle.std.specs.Option.{option_to_list}
use Rattle.toml.specs.Data.{get_member}
use Rattle.toml.specs.View.{table_view}
use Rattle.plan_text.proofs.from_toml.keys.Keys.one_of.Given as goal

abbrev pub invariant-loop-name : goal.invariant-loop-name
invariant-loop-name l = filter (λ k. is_some (get_member k (table_view l.self.table.now))) (map (λ k. k.now) l.names)
    ≡ option_to_list (option_map (λ k. k.now) l.found) ++ filter (λ k. is_some (get_member k (table_view l.self.table.now))) (map (λ k. k.now) (drop l.name-index l.names))
