use Rattle.std.proofs.Common.{◌≡◌, [], ◌++◌, map, ap, sym, subst, ◌∙◌, Option, Some, None, is_none}
use Rattle.std.specs.Option.{option_map_or}
use Rattle.mllp_frame.specs.declared.stage.Stage.{Stage}
use Rattle.mllp_frame.specs.inner.Event.{event_of}
use Rattle.mllp_frame.specs.inner.Framed.{Framed, fed}
use Rattle.mllp_frame.specs.inner.Stage.{open_block, HoldsShortData}
use Rattle.mllp_frame.proofs.DataLaws.{front_data, read_data}
use Rattle.mllp_frame.proofs.Settled.{fed_is}
use Rattle.mllp_frame.proofs.Framer.feed.Goals as goal

pub returns-clause-ok : goal.returns-clause-ok
returns-clause-ok c =
    let old = map event_of c.self.inside.events.items in
    let at : Option Stage → Framed = λ s. record { to_come = old; open_end = option_map_or open_block s []; failed = is_none s } in
    let seen : at (Some c.in-Some.stage) ≡ c.args.self.now = ap at c.in-Some.ensures.value ∙ c.self.view_is in
    fed_is old (map event_of c.read.new.events.items) c.in-Some.stage c.in_ok-read.field-0 c.args.piece.now c.in_ok-read.ensures.short c.in_ok-read.ensures.reads
    ∙ ap (λ f. fed f c.args.piece.now) seen

pub invariant_of-self-in_err-read : goal.invariant_of-self-in_err-read
invariant_of-self-in_err-read c =
    let given_up : c.take.new.self ≡ None = c.take.ensures.after in (
      λ x is. absurd (cc (sym given_up ∙ is)),
      front_data (map event_of c.self.inside.events.items) (map event_of c.read.new.events.items) (open_block c.in-Some.stage ++ c.args.piece.now) c.self.invariant.1 c.in_err-read.ensures.err,
    )

pub invariant_of-self-2 : goal.invariant_of-self-2
invariant_of-self-2 c = (
  λ x is. let same : c.in_ok-read.field-0 ≡ x = cc in subst HoldsShortData same c.in_ok-read.ensures.short,
  read_data (map event_of c.self.inside.events.items) (map event_of c.read.new.events.items) (open_block c.in-Some.stage ++ c.args.piece.now) (open_block c.in_ok-read.field-0) c.self.invariant.1 c.in_ok-read.ensures.reads,
)
