use Rattle.std.proofs.Common.{rules, ◌≤◌, sym, subst}
use Rattle.record_list.proofs.Rising.{before_first, where_none}
use Rattle.record_list.proofs.links.Links.index_of.Goals as goal

pub returns-in_err-behind_first-clause-missing : goal.returns-in_err-behind_first-clause-missing
returns-in_err-behind_first-clause-missing g c = where_none c.from_residual-in_err-behind_first.result
    (before_first c.args.number c.in_ok-front.field-0.now c.args.self.now.nodes.items c.requires c.in_ok-front.ensures.lookup (λ le. c.in_err-behind_first.ensures (subst (λ k. k ≤ c.args.number) (sym c.number-first.ensures) le)))

pub returns-then-stands_at-clause-found : goal.returns-then-stands_at-clause-found
returns-then-stands_at-clause-found g c = c.stands_at.ensures.found (search rules)
