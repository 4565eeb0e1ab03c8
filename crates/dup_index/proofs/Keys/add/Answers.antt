use Rattle.std.proofs.Common.{◌≡◌, ◌∙◌, ◌++◌, [], ◌∷◌, refl}
use Rattle.dup_index.proofs.Seen.{absent, EachOnce-added}
use Rattle.dup_index.proofs.Keys.add.Goals as goal

-- the key goes last
added : (c : goal.After-unwrap-added) → c.insert.new.self.keys ≡ c.self.inside.known.keys ++ c.args.key ∷ []
added c =
    let unknown = rw (← c.self.view_is) at c.requires.unknown in
    let inserted = rw c.unwrap-added.ensures at c.insert.ensures.keys in
    inserted ∙ rw (absent c.args.key.key c.self.inside.known.keys unknown) refl

pub invariant_of-self : goal.invariant_of-self
invariant_of-self c =
    let unknown = rw (← c.self.view_is) at c.requires.unknown in
    rw (added c) (EachOnce-added c.self.inside.known.keys c.args.key.key c.args.key.place c.self.invariant unknown)

pub returns-clause-known : goal.returns-clause-known
returns-clause-known c = added c ∙ rw (← c.self.view_is) refl
