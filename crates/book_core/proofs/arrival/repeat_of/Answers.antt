use Rattle.std.proofs.Common.{Some, None, ◌∙◌}
use Rattle.judge_core.specs.Judging.{key_of}
use Rattle.book_core.proofs.Telling.{brought, found-known, is-new, is-repeat, is-reused}
use Rattle.book_core.proofs.arrival.repeat_of.Goals as goal

pub returns-in_err-place : goal.returns-in_err-place
returns-in_err-place c =
    let h = c.args.log.now.history in
    let judged = c.args.judged.now in
    c.from_residual.ensures ∙ is-new h judged.channel judged.raw c.requires.bookable
    (found-known h c.args.keys.now.known (key_of judged.channel judged.raw) c.key.result.now c.find.result None c.requires.keys c.key.ensures c.find.ensures c.in_err-place.was)

pub returns-then-same : goal.returns-then-same
returns-then-same c =
    let h = c.args.log.now.history in
    let judged = c.args.judged.now in
    is-repeat h judged.channel judged.raw c.requires.bookable c.in_ok-place.place
    (found-known h c.args.keys.now.known (key_of judged.channel judged.raw) c.key.result.now c.find.result (Some c.in_ok-place.place) c.requires.keys c.key.ensures c.find.ensures c.in_ok-place.was)
    (brought h judged.raw c.as_slice.result.now c.in_ok-place.place c.brings-same.result _ (c.as_slice.ensures ∙ c.raw.ensures.value) c.brings-same.ensures c.if-same.true)

pub returns-else-same : goal.returns-else-same
returns-else-same c =
    let h = c.args.log.now.history in
    let judged = c.args.judged.now in
    is-reused h judged.channel judged.raw c.requires.bookable c.in_ok-place.place
    (found-known h c.args.keys.now.known (key_of judged.channel judged.raw) c.key.result.now c.find.result (Some c.in_ok-place.place) c.requires.keys c.key.ensures c.find.ensures c.in_ok-place.was)
    (brought h judged.raw c.as_slice.result.now c.in_ok-place.place c.brings-same.result _ (c.as_slice.ensures ∙ c.raw.ensures.value) c.brings-same.ensures c.if-same.false)
