use Rattle.std.proofs.Common.{◌≡◌, ◌∙◌, rules, refl}
use Rattle.std.specs.Prelude.{nat_le}
use Rattle.std.proofs.lemmas.Fn.{filter_same}
use Rattle.dup_index.specs.inner.Known.{from_place}
use Rattle.dup_index.proofs.Seen.{EachOnce-from_place, place_of-from_place}
use Rattle.dup_index.proofs.Keys.drop_before.Goals as goal

-- the keys that stay
kept : (c : goal.After-shrink_to_fit) → c.shrink_to_fit.new.self.keys ≡ from_place c.args.place c.self.inside.known.keys
kept c = c.shrink_to_fit.ensures.keys ∙ filter_same _ (λ entry. nat_le c.args.place entry.place) _ (λ entry b g call. search rules) _ _ c.retain.ensures.filtered

pub invariant_of-self : goal.invariant_of-self
invariant_of-self c = rw (kept c) (EachOnce-from_place c.args.place c.self.inside.known.keys c.self.invariant)

pub returns-clause-known : goal.returns-clause-known
returns-clause-known c = kept c ∙ rw (← c.self.view_is) refl

pub returns-clause-found : goal.returns-clause-found
returns-clause-found c = λ key. rw (kept c, ← c.self.view_is) (place_of-from_place key c.args.place c.self.inside.known.keys c.self.invariant)
