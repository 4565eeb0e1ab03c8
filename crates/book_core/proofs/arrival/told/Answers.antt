use Rattle.std.proofs.Common.{Some, None, ap, sym, ◌∙◌}
use Rattle.judge_core.specs.Judging.{key_of, verdict}
use Rattle.event_log.specs.History.{plan_in_force}
use Rattle.event_log.specs.Answers.{told_by}
use Rattle.book_core.proofs.Telling.{brought, found-known, told-first, told-repeat, told-reused}
use Rattle.book_core.proofs.arrival.told.Goals as goal

pub returns-in-Some : goal.returns-in-Some
returns-in-Some c =
    let h = c.args.log.now.history in
    let judged = c.args.judged.now in
    told-repeat h judged.channel judged.raw c.requires.bookable c.in-Some.place
    (found-known h c.args.keys.now.known (key_of judged.channel judged.raw) c.key.result.now c.find.result (Some c.in-Some.place) c.requires.keys c.key.ensures c.find.ensures c.in-Some.is)
    (brought h judged.raw c.as_slice.result.now c.in-Some.place c.brings.result _ (c.as_slice.ensures ∙ c.raw.ensures.value) c.brings.ensures c.if-brings.true)

pub returns-in-Some-2 : goal.returns-in-Some-2
returns-in-Some-2 c =
    let h = c.args.log.now.history in
    let judged = c.args.judged.now in
    told-reused h judged.channel judged.raw c.requires.bookable c.in-Some.place
    (found-known h c.args.keys.now.known (key_of judged.channel judged.raw) c.key.result.now c.find.result (Some c.in-Some.place) c.requires.keys c.key.ensures c.find.ensures c.in-Some.is)
    (brought h judged.raw c.as_slice.result.now c.in-Some.place c.brings.result _ (c.as_slice.ensures ∙ c.raw.ensures.value) c.brings.ensures c.if-brings.false)

pub returns-in-None : goal.returns-in-None
returns-in-None c =
    let h = c.args.log.now.history in
    let judged = c.args.judged.now in
    told-first h judged.channel judged.raw c.requires.bookable
    (found-known h c.args.keys.now.known (key_of judged.channel judged.raw) c.key.result.now c.find.result None c.requires.keys c.key.ensures c.find.ensures c.in-None.is)
    ∙ (ap (λ number. told_by number (verdict (plan_in_force h) judged.channel judged.raw)) (sym c.message_count.ensures)
    ∙ (ap (λ plan. told_by c.message_count.result (verdict plan judged.channel judged.raw)) (sym c.requires.same_plan)
    ∙ (ap (told_by c.message_count.result) (sym c.verdict.ensures.value) ∙ c.told_first.ensures)))
