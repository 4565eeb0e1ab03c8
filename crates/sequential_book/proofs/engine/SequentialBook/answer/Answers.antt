use Rattle.std.proofs.Common.{◌≡◌, Bool, Some, None, sym, ◌∙◌, ap}
use Rattle.std.specs.Arc.{arc_value}
use Rattle.std.specs.Prelude.{if◌then◌else◌}
use Rattle.hl7_head.specs.declared.ack.Cause.TheVariants.{IdReused}
use Rattle.std.specs.List.{position}
use Rattle.judge_core.specs.Judging.{key_of}
use Rattle.event_log.specs.declared.entry.Told.TheVariants.{Refused, Repeat}
use Rattle.event_log.specs.History.{History}
use Rattle.event_log.specs.Answers.{keeps, known, told_again}
use Rattle.sequential_book.proofs.Blank.{brings-blank, known-blank}
use Rattle.sequential_book.proofs.Replies.{answer-first, answer-known}
use Rattle.sequential_book.proofs.engine.SequentialBook.answer.Goals as goal

pub returns-in-Some : goal.returns-in-Some
returns-in-Some c =
    let key = key_of c.args.judged.now.channel c.args.judged.now.raw in
    let at : position (keeps key) c.self.inside.entries.items ≡ Some c.in-Some.place = rw (c.key.ensures, c.deref.ensures.value) at (sym c.in_ok-place.ensures ∙ c.in-Some.is) in
    let found : known c.args.self.now key ≡ Some c.in-Some.place = ap (λ (h : History). known h key) (sym c.self.view_is) ∙ (known-blank (arc_value c.self.inside.plan) c.self.inside.events_max c.self.inside.entries.items key ∙ at) in
    let told = rw (c.as_slice.ensures, c.raw.ensures.value, c.deref-in-Some.ensures.value) at c.told_again.ensures in
    answer-known c.args.self.now c.args.judged.now.channel c.args.judged.now.raw c.in-Some.place c.requires.bookable found
    ∙ ap (λ t. Some t) (sym (told ∙ ap (λ (b : Bool). if b then Repeat c.in-Some.place else Refused IdReused) (sym (brings-blank (arc_value c.self.inside.plan) c.self.inside.events_max c.self.inside.entries.items c.args.judged.now.raw c.in-Some.place)) ∙ ap (λ (h : History). told_again h c.args.judged.now.raw c.in-Some.place) c.self.view_is))

pub returns-in-None : goal.returns-in-None
returns-in-None c =
    let key = key_of c.args.judged.now.channel c.args.judged.now.raw in
    let at : position (keeps key) c.self.inside.entries.items ≡ None = rw (c.key.ensures, c.deref.ensures.value) at (sym c.in_ok-place.ensures ∙ c.in-None.is) in
    let none : known c.args.self.now key ≡ None = ap (λ (h : History). known h key) (sym c.self.view_is) ∙ (known-blank (arc_value c.self.inside.plan) c.self.inside.events_max c.self.inside.entries.items key ∙ at) in
    answer-first c.args.self.now c.args.judged.now.channel c.args.judged.now.raw c.requires.bookable none
    ∙ rw (c.message_count.ensures.value, c.verdict.ensures.value, c.requires.same_plan) at c.told_first.ensures
