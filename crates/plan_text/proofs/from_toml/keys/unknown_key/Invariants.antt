use Rattle.std.proofs.Common.{◌≡◌}
use Rattle.std.specs.List.{list_any}
use Rattle.std.specs.Str.{bytes_eq}
use Rattle.toml.specs.View.{table_view}
use Rattle.plan_text.specs.Keys.{unknown_key}
use Rattle.plan_text.proofs.Unknown.{first_unknown}
use Rattle.plan_text.proofs.from_toml.keys.unknown_key.Given as goal

abbrev pub invariant-loop-key : goal.invariant-loop-key
invariant-loop-key l = record {
  can_next : (goal.iterator-loop-key).can_next l.key-iterator;
  is_finite : (goal.iterator-loop-key).is_finite l.key-iterator;
  left : unknown_key (λ k. list_any (λ l'. bytes_eq l'.now k) l.known) (table_view l.table) ≡ first_unknown (λ k. list_any (λ l'. bytes_eq l'.now k) l.known) l.key-iterator;
}
