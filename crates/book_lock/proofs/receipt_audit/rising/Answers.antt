use Rattle.std.proofs.Common.{◌≡◌, ℕ, ◌+◌, ◌-◌, List, map, slice_index, ap, arith}
use Rattle.std.proofs.lemmas.Bool.{false≢true}
use Rattle.book_core.specs.declared.receipt.Receipt.{Receipt}
use Rattle.std.proofs.Math.ListN.{length-map}
use Rattle.book_lock.proofs.Naming.{place_at, rises_more}
use Rattle.book_lock.proofs.receipt_audit.rising.Goals as goal

pub returns-then-receipts-i : goal.returns-then-receipts-i
returns-then-receipts-i c =
    let rs = c.args.receipts.now in
    let places : List ℕ = map (λ (r : Receipt). r.entry) rs in
    let i = c.loop-i.i in
    let inside = c.loop-i-test.true in
    let from = c.loop-i.auto.i in
    let a = place_at rs (i - 1) c.index-receipts-i.result (omega arith) in
    let b = place_at rs i c.index-receipts-i-in-loop-i.result inside in
    let test = c.if-receipts-i.true in
    let e : i - 1 + 1 ≡ i = omega arith in (
      λ f. absurd (false≢true f),
      λ up. absurd (omega (arith, a, b, test, ap (λ (k : ℕ). slice_index places k) e, up (i - 1) (omega (arith, e, length-map rs (λ (r : Receipt). r.entry))))),
    )

pub loop-i-preserved : goal.loop-i-preserved
loop-i-preserved c =
    let rs = c.args.receipts.now in
    let i = c.loop-i.i in
    let inside = c.loop-i-test.true in
    let from = c.loop-i.auto.i in
    let a = place_at rs (i - 1) c.index-receipts-i.result (omega arith) in
    let b = place_at rs i c.index-receipts-i-in-loop-i.result inside in
    let test = c.if-receipts-i.false in
    rises_more (map (λ (r : Receipt). r.entry) rs) i from c.loop-i.invariant (omega (arith, a, b, test))
