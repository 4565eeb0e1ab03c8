use Rattle.std.proofs.Common.{◌+◌, sym, subst, List, arith}
use Rattle.book_lock.specs.declared.copied.Copied.{Copied}
use Rattle.book_lock.proofs.Copying.{IsCopiedUpTo, one_more}
use Rattle.book_lock.proofs.copied.copies_since.Goals as goal

pub loop-place-preserved : goal.loop-place-preserved
loop-place-preserved g c =
    let past = c.loop-place.invariant.past in
    record {
      copied =
          subst (λ (l : List Copied). IsCopiedUpTo c.args.book.now c.args.from (c.loop-place.place + 1) l) (sym c.in_ok-push.ensures.items)
          (one_more c.args.book.now c.args.from c.loop-place.place c.loop-place.copies.items c.in-Some.entry.now c.in_ok-copy_of.field-0 c.requires past (sym c.in-Some.ensures) c.in_ok-copy_of.ensures
          c.loop-place.invariant.copied);
      past = omega (arith, past);
    }
