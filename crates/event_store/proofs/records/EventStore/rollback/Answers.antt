use Rattle.event_store.proofs.RecordLemmas.{sees_undone, committed_kept, was_open_rolled_back}
use Rattle.event_store.proofs.records.EventStore.rollback.Goals as goal

pub invariant_of-self-clause-sees : goal.invariant_of-self-clause-sees
invariant_of-self-clause-sees g c =
    let old = c.args.self.now.store in
    let new = c.rollback.new.self in
    (sees_undone c.args.self.now.first (g.S.Store.view old) (g.S.Store.view new) c.rollback.ensures.quiet.clean (g.met.S.Store.broken_if_shut new) (g.met.S.Store.shut_if_dirty new) _ c.args.self.now.keeps c.rollback.ensures.undone).0

pub invariant_of-self-clause-keeps : goal.invariant_of-self-clause-keeps
invariant_of-self-clause-keeps g c =
    let old = c.args.self.now.store in
    let new = c.rollback.new.self in
    (sees_undone c.args.self.now.first (g.S.Store.view old) (g.S.Store.view new) c.rollback.ensures.quiet.clean (g.met.S.Store.broken_if_shut new) (g.met.S.Store.shut_if_dirty new) _ c.args.self.now.keeps c.rollback.ensures.undone).1

pub returns-clause-committed : goal.returns-clause-committed
returns-clause-committed g c =
    let old = c.args.self.now.store in
    let new = c.rollback.new.self in
    committed_kept c.args.self.now.first (g.S.Store.view old) (g.S.Store.view new) c.rollback.ensures.quiet.clean (g.met.S.Store.broken_if_shut new) (g.met.S.Store.shut_if_dirty new) c.rollback.ensures.undone

pub returns-clause-shut : goal.returns-clause-shut
returns-clause-shut g c =
    let old = c.args.self.now.store in
    let new = c.rollback.new.self in
    was_open_rolled_back c.args.self.now.first (g.S.Store.view old) (g.S.Store.view new) c.rollback.ensures.quiet.clean (g.met.S.Store.broken_if_shut new) (g.met.S.Store.shut_if_dirty new) c.rollback.ensures.undone
