use Rattle.std.proofs.Common.{◌≡◌, ◌<◌, ◌≤◌, ℕ, All, length, ap, subst, ◌∙◌, arith}
use Rattle.event_log.specs.History.{next_place}
use Rattle.book_core.specs.declared.receipt.Receipt.{Receipt}
use Rattle.book_lock.specs.Auditing.{naming}
use Rattle.book_lock.proofs.Naming.{all_right, open_past, right_before, stray}
use Rattle.book_lock.proofs.receipt_audit.check_rest.Goals as goal

pub returns-in-None-clause-right : goal.returns-in-None-clause-right
returns-in-None-clause-right g c =
    let h = c.args.closed.now in
    let end : c.len.result ≡ next_place h.book = c.len.ensures ∙ ap next_place c.book.ensures in
    all_right h c.args.receipts.now (omega (arith, c.first-first.ensures.first, c.first-first.ensures.within)) c.requires
    (subst (λ (n : ℕ). All (λ (r : Receipt). r.entry < n) c.args.receipts.now) end c.in-None.ensures.none)

pub returns-in-Some-clause-fault : goal.returns-in-Some-clause-fault
returns-in-Some-clause-fault g c =
    let h = c.args.closed.now in
    let place = c.in-Some.place in
    let end : c.len.result ≡ next_place h.book = c.len.ensures ∙ ap next_place c.book.ensures in (
      (omega arith, open_past h place (omega (arith, end, c.in-Some.ensures.from))),
      right_before h c.args.receipts.now place (omega (arith, c.first-first.ensures.first, c.first-first.ensures.within)) c.requires
          (subst (λ (n : ℕ). All (λ (r : Receipt). n ≤ r.entry → place ≤ r.entry) c.args.receipts.now) end c.in-Some.ensures.least),
    )

pub returns-in-Some-2-clause-fault : goal.returns-in-Some-2-clause-fault
returns-in-Some-2-clause-fault g c =
    let h = c.args.closed.now in
    let place = c.in-Some.place in
    let within : h.first ≤ next_place h.book = omega (arith, c.first-first.ensures.first, c.first-first.ensures.within) in
    let end : c.len.result ≡ next_place h.book = c.len.ensures ∙ ap next_place c.book.ensures in
    let some : 0 < length (naming place c.args.receipts.now) = c.in-Some.ensures.named in (
      (
        (omega arith, stray h c.args.receipts.now place within (omega (arith, end, c.in-Some.ensures.from)) some),
        open_past h place (omega (arith, end, c.in-Some.ensures.from)),
      ),
      right_before h c.args.receipts.now place within c.requires
          (subst (λ (n : ℕ). All (λ (r : Receipt). n ≤ r.entry → place ≤ r.entry) c.args.receipts.now) end c.in-Some.ensures.least),
    )
