use Rattle.std.proofs.Common.{◌≤◌, ◌-◌, arith, refl, sym, subst}
use Rattle.record_list.proofs.Rising.{after_last, stands_some, missing_none, where_none}
use Rattle.record_list.proofs.links.Links.index_from_last.Goals as goal

pub returns-in_err-before_last-clause-missing : goal.returns-in_err-before_last-clause-missing
returns-in_err-before_last-clause-missing g c = where_none c.from_residual-in_err-before_last.result
    (after_last c.args.number (c.args.self.now.nodes.len - 1) c.in_ok-back.field-0.now c.args.self.now.nodes.items c.requires (omega (arith, c.in_ok-back.ensures.variant.0 refl, c.args.self.now.nodes.ok.0)) c.in_ok-back.ensures.lookup (λ le. c.in_err-before_last.ensures (subst (λ k. c.args.number ≤ k) (sym c.number-last.ensures) le)))

pub returns-in-Some-clause-found : goal.returns-in-Some-clause-found
returns-in-Some-clause-found g c = c.if-stands_at.ensures.found refl

pub returns-in_default-clause-found : goal.returns-in_default-clause-found
returns-in_default-clause-found g c = stands_some c.args.number c.search.result c.args.self.now.nodes.items c.requires c.search.ensures.within c.search.ensures.found

pub returns-in_default-clause-missing : goal.returns-in_default-clause-missing
returns-in_default-clause-missing g c = missing_none c.args.number c.search.result c.args.self.now.nodes.items c.search.ensures.missing
