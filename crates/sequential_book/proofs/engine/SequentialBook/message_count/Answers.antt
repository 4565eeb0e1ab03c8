use Rattle.std.proofs.Common.{◌≡◌, ◌≤◌, ◌∙◌, sym, ap, arith}
use Rattle.std.specs.Prelude.{is_some}
use Rattle.std.specs.Arc.{arc_value}
use Rattle.event_log.specs.History.{History, message_at, message_count}
use Rattle.event_log.specs.inner.History.{history_of}
use Rattle.sequential_book.proofs.Blank.{count-blank, there-blank}
use Rattle.sequential_book.proofs.Following.{few-messages}
use Rattle.sequential_book.proofs.Messages.{count-accepted}
use Rattle.sequential_book.proofs.engine.SequentialBook.message_count.Goals as goal

-- the messages of the entries
counts : (c : goal.After-acceptances) → c.acceptances.result ≡ message_count (history_of (arc_value c.self.inside.plan) c.self.inside.events_max c.self.inside.entries.items)
counts c = rw c.deref.ensures.value at c.acceptances.ensures ∙ (count-accepted (arc_value c.self.inside.plan) c.self.inside.entries.items ∙ sym (count-blank (arc_value c.self.inside.plan) c.self.inside.events_max c.self.inside.entries.items))

few : (c : goal.After-acceptances) → c.acceptances.result ≤ 1000000
few c =
    omega (
      arith,
      counts c,
      count-blank (arc_value c.self.inside.plan) c.self.inside.events_max c.self.inside.entries.items,
      few-messages (history_of (arc_value c.self.inside.plan) c.self.inside.events_max c.self.inside.entries.items) c.self.invariant,
    )

pub overflow_cast-result : goal.overflow_cast-result
overflow_cast-result c = let small = few c in omega arith

pub returns-clause-value : goal.returns-clause-value
returns-clause-value c = counts c ∙ ap message_count c.self.view_is

pub returns-clause-bound : goal.returns-clause-bound
returns-clause-bound c = few c

pub returns-clause-there : goal.returns-clause-there
returns-clause-there c = λ n below.
    ap (λ (h : History). is_some (message_at h n)) (sym c.self.view_is)
    ∙ there-blank (arc_value c.self.inside.plan) c.self.inside.events_max c.self.inside.entries.items n (omega (arith, counts c, below))
