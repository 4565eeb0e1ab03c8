use Rattle.std.proofs.Common.{arith, sym, ◌∙◌}
use Rattle.ghost_log.specs.inner.Passes.{seen_of}
use Rattle.ghost_log.proofs.Keeping.{joins_as, same_first}
use Rattle.ghost_log.proofs.steps.hold.Goals as goal

pub join_seat-requires : goal.join_seat-requires
join_seat-requires g c =
    let into = c.into_seat-pass.ensures in
    let words = c.requires.words in (
      c.requires.table,
      into.0 ∙ c.requires.same,
      into.3,
      omega (arith, words),
      joins_as _ _ c.args.number c.args.keeper.now.me c.into_seat-pass.result.me.0 (seen_of c.args.badge.views) c.requires.keeper (same_first _ _ (sym into.2 ∙ c.requires.badge)),
    )
