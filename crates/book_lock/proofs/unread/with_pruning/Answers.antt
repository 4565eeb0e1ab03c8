use Rattle.std.proofs.Common.{◌≡◌, if◌then◌else◌, is_ok, Bool, true, arith, refl, sym, ap, ◌∙◌, [], ◌∷◌, ◌++◌}
use Rattle.book_lock.specs.declared.copied.Copied.TheVariants.{Prune}
use Rattle.book_lock.proofs.unread.with_pruning.Goals as goal

pub returns : goal.returns
returns c =
    let old = c.in_ok-unread.unread in
    let pushed : is_ok c.push.result ≡ true = sym c.in_ok-ok.ensures.variant in
    record {
      old = old;
      is = c.in_ok-unread.was;
      ends = record { next = omega (arith, c.if-unread-at.false); prunings = omega (arith, c.if-unread-at-2.false) };
      from = record { next = refl; prunings = refl };
      next = omega (arith, c.if-unread-at.false);
      made = refl;
      copies = c.push.ensures.items ∙ ap (λ (b : Bool). if b then old.copies.items ++ Prune c.args.before ∷ [] else old.copies.items) pushed;
    }
