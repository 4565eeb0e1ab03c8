use Rattle.std.proofs.Common.{◌≡◌, length, sym, ◌∙◌, ap, arith, subst}
use Rattle.plan_text.specs.Entries.{PlanEntry}
use Rattle.mllp_frame.specs.Framing.{IsBlockData}
use Rattle.event_log.proofs.Events.{arrivable-follows}
use Rattle.sequential_book.proofs.Following.{channels-kept}
use Rattle.sequential_book.proofs.engine.SequentialBook.arrive.Goals as goal

pub book-requires-clause-may_follow : goal.book-requires-clause-may_follow
book-requires-clause-may_follow c =
    rw (c.channel.ensures.value, c.in_ok-raw.ensures, c.raw.ensures.value) (arrivable-follows c.args.self.now c.args.conn c.args.judged.now.channel c.args.judged.now.raw _ (record {
      fits = rw c.raw.ensures.value at c.raw.ensures.fits;
      room = sym c.in_ok-is_full.ensures ∙ c.if-branch.false;
      answered = c.in_ok-told.ensures;
    }))

pub book-requires-clause-judgeable : goal.book-requires-clause-judgeable
book-requires-clause-judgeable c =
    let many : length c.args.judged.now.plan.channels ≡ length c.args.self.now.opening.plan.channels =
    ap (λ (p : PlanEntry). length p.channels) c.requires.same_plan ∙ channels-kept c.args.self.now c.rules.ensures in
    (omega (arith, many, c.channel.ensures.value, c.channel.ensures.known), subst IsBlockData (sym c.in_ok-raw.ensures) c.raw.ensures.fits)
