use Rattle.std.proofs.Common.{rules, ◌≡◌, ◌<◌, List, None, length, sym, subst, arith}
use Rattle.std.specs.List.{filter_map}
use Rattle.std.proofs.lemmas.List.Elements.{recursion_from_All}
use Rattle.judge_core.specs.Judging.{key_of}
use Rattle.dup_index.specs.inner.Known.{Known, place_of}
use Rattle.event_log.specs.History.{Remembered}
use Rattle.event_log.specs.inner.History.{number_of}
use Rattle.book_resume.specs.inner.Resuming.{IsMessage}
use Rattle.book_resume.proofs.Apart.{apart-unknown}
use Rattle.book_resume.proofs.Climbing.{climbing-all}
use Rattle.book_resume.proofs.RowsSoFar.{has-room, more-added, none-added}
use Rattle.book_resume.proofs.arrivals.add_arrivals.Goals as goal

pub loop-arrival-init : goal.loop-arrival-init
loop-arrival-init g c = rw (c.requires.no_rows, c.requires.no_keys) (none-added c.args.arrivals.now)

pub add_arrival-requires-clause-next : goal.add_arrival-requires-clause-next
add_arrival-requires-clause-next g c =
    let inside : c.loop-arrival.arrival-index < length c.args.arrivals.now = omega arith in
    has-room c.args.arrivals.now c.loop-arrival.arrival-index c.arrival-item.result inside c.arrival-item.is
    (g.S.RowStore.rows c.loop-arrival.rows) c.loop-arrival.keys.known c.loop-arrival.invariant 1001000000
    (climbing-all 1001000000 (filter_map number_of c.args.arrivals.now) c.requires.rise
    (recursion_from_All (λ n. n < 1001000000) (filter_map number_of c.args.arrivals.now) c.requires.within))

pub returns-in_err-add_arrival-clause-refused : goal.returns-in_err-add_arrival-clause-refused
returns-in_err-add_arrival-clause-refused g c = λ is messages apart.
    let inside : c.loop-arrival.arrival-index < length c.args.arrivals.now = omega arith in
    let x = c.arrival-item.result in
    c.in_err-add_arrival.ensures.refused (search (rules, c.from_residual.ensures))
    (subst (λ (r : Remembered). IsMessage r.raw) (sym c.arrival-item.is) (messages c.loop-arrival.arrival-index x inside))
    (subst (λ (known : List Known). place_of (key_of x.channel x.raw) known ≡ None) (sym c.loop-arrival.invariant.keys)
    (apart-unknown c.args.arrivals.now c.loop-arrival.arrival-index x inside c.arrival-item.is apart))

pub loop-arrival-preserved : goal.loop-arrival-preserved
loop-arrival-preserved g c =
    let inside : c.loop-arrival.arrival-index < length c.args.arrivals.now = omega arith in
    more-added c.args.arrivals.now c.loop-arrival.arrival-index c.arrival-item.result inside c.arrival-item.is
    (g.S.RowStore.rows c.loop-arrival.rows) c.loop-arrival.keys.known c.loop-arrival.invariant
    (g.S.RowStore.rows c.add_arrival.new.rows) c.add_arrival.new.keys.known
    c.in_ok-add_arrival.ensures.row c.in_ok-add_arrival.ensures.key c.in_ok-add_arrival.ensures.message c.in_ok-add_arrival.ensures.unknown
