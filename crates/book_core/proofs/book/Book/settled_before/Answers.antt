use Rattle.std.proofs.Common.{◌≡◌, ◌≤◌, cond, nat_lt, None, Some, sym, ◌∙◌, ap, arith}
use Rattle.std.specs.Option.{option_map_or}
use Rattle.event_log.specs.declared.refusal.PruneRefusal.TheVariants.{TooMany}
use Rattle.event_log.specs.Folding.{is_live_message, prune_answer}
use Rattle.event_log.specs.History.{History}
use Rattle.book_core.specs.inner.Questions.{first_live}
use Rattle.book_core.proofs.Asked.{settled, settled-all, settled-answer}
use Rattle.book_core.proofs.book.Book.settled_before.Goals.{then-newest-settled, else-newest-settled}
use Rattle.book_core.proofs.book.Book.settled_before.Goals as goal

pub returns-clause-settled : goal.returns-clause-settled
returns-clause-settled g c =
    let h : History = c.self.inside.log.history in
    let first : c.first_queued.result ≡ first_live h = c.first_queued.ensures.first h c.self.invariant.rows_agree in
    let end : c.unwrap_or-settled.result ≡ settled h = c.unwrap_or-settled.ensures ∙ (ap (λ o. option_map_or (λ n. n) o c.message_count-count.result) first ∙ ap (option_map_or (λ n. n) (first_live h)) c.message_count-count.ensures) in
    let few : c.if-newest-settled.result ≤ settled h = elim c.if-newest-settled.branch [
      | then-newest-settled w ↦ omega (arith, w.result-is, w.if-newest-settled.true, end)
      | else-newest-settled w ↦ omega (arith, w.result-is, end)
    ] in
    λ n below. ap (λ k. is_live_message k n) (sym c.self.view_is) ∙ settled-all h c.if-newest-settled.result few n below

pub returns-clause-answer : goal.returns-clause-answer
returns-clause-answer g c =
    let h : History = c.self.inside.log.history in
    let first : c.first_queued.result ≡ first_live h = c.first_queued.ensures.first h c.self.invariant.rows_agree in
    let end : c.unwrap_or-settled.result ≡ settled h = c.unwrap_or-settled.ensures ∙ (ap (λ o. option_map_or (λ n. n) o c.message_count-count.result) first ∙ ap (option_map_or (λ n. n) (first_live h)) c.message_count-count.ensures) in
    let few : c.if-newest-settled.result ≤ settled h = elim c.if-newest-settled.branch [
      | then-newest-settled w ↦ omega (arith, w.result-is, w.if-newest-settled.true, end)
      | else-newest-settled w ↦ omega (arith, w.result-is, end)
    ] in
    ap (λ (k : History). prune_answer k c.if-newest-settled.result) (sym c.self.view_is)
    ∙ (settled-answer h c.if-newest-settled.result few ∙ ap (λ (k : History). cond (nat_lt k.opening.prunings 1000) None (Some TooMany)) c.self.view_is)
