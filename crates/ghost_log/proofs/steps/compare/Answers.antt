use Rattle.std.proofs.Common.{arith, [], ◌∷◌}
use Rattle.ghost_log.specs.inner.Passes.{first_seen}
use Rattle.ghost_log.proofs.Keeping.{compares_as, compared_as, roll_at}
use Rattle.ghost_log.proofs.steps.compare.Goals as goal

pub load-requires : goal.load-requires
load-requires g c =
    let me = c.args.keeper.now.me in
    (let words = c.requires.words in (c.requires.table, omega (arith, words), compares_as _ _ _ me (roll_at me me.0.log me.0.issued ((c.args.number, first_seen me.0.held) ∷ []) c.requires.keeper)))

pub returns-clause-agreed : goal.returns-clause-agreed
returns-clause-agreed g c = (compared_as c.args.number c.args.keeper.now.me c.load.new.seat.me c.requires.keeper c.load.ensures.2).1
