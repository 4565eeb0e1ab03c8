use Rattle.event_store.proofs.RecordLemmas.{committed_kept, sees_commit, sees_undone, was_open_committed, was_open_rolled_back}
use Rattle.event_store.proofs.records.EventStore.commit.Goals as goal

pub invariant_of-self-clause-sees : goal.invariant_of-self-clause-sees
invariant_of-self-clause-sees g c =
    let old = c.args.self.now.store in
    let new = c.commit.new.self in
    (sees_commit c.args.self.now.first (g.S.Store.view old) (g.S.Store.view new) c.commit.ensures.clean (g.met.S.Store.broken_if_shut new) (g.met.S.Store.shut_if_dirty new) _ c.args.self.now.sees c.in-Ok.ensures.ok).0

pub invariant_of-self-clause-keeps : goal.invariant_of-self-clause-keeps
invariant_of-self-clause-keeps g c =
    let old = c.args.self.now.store in
    let new = c.commit.new.self in
    (sees_commit c.args.self.now.first (g.S.Store.view old) (g.S.Store.view new) c.commit.ensures.clean (g.met.S.Store.broken_if_shut new) (g.met.S.Store.shut_if_dirty new) _ c.args.self.now.sees c.in-Ok.ensures.ok).1

pub invariant_of-self-in-Err-clause-sees : goal.invariant_of-self-in-Err-clause-sees
invariant_of-self-in-Err-clause-sees g c =
    let old = c.args.self.now.store in
    let new = c.commit.new.self in
    (sees_undone c.args.self.now.first (g.S.Store.view old) (g.S.Store.view new) c.commit.ensures.clean (g.met.S.Store.broken_if_shut new) (g.met.S.Store.shut_if_dirty new) _ c.args.self.now.keeps c.in-Err.ensures.err).0

pub invariant_of-self-in-Err-clause-keeps : goal.invariant_of-self-in-Err-clause-keeps
invariant_of-self-in-Err-clause-keeps g c =
    let old = c.args.self.now.store in
    let new = c.commit.new.self in
    (sees_undone c.args.self.now.first (g.S.Store.view old) (g.S.Store.view new) c.commit.ensures.clean (g.met.S.Store.broken_if_shut new) (g.met.S.Store.shut_if_dirty new) _ c.args.self.now.keeps c.in-Err.ensures.err).1

pub returns-in-Err-clause-kept : goal.returns-in-Err-clause-kept
returns-in-Err-clause-kept g c =
    let old = c.args.self.now.store in
    let new = c.commit.new.self in
    committed_kept c.args.self.now.first (g.S.Store.view old) (g.S.Store.view new) c.commit.ensures.clean (g.met.S.Store.broken_if_shut new) (g.met.S.Store.shut_if_dirty new) c.in-Err.ensures.err

pub returns-in-Ok-clause-shut : goal.returns-in-Ok-clause-shut
returns-in-Ok-clause-shut g c =
    let old = c.args.self.now.store in
    let new = c.commit.new.self in
    was_open_committed c.args.self.now.first (g.S.Store.view old) (g.S.Store.view new) c.commit.ensures.clean (g.met.S.Store.broken_if_shut new) (g.met.S.Store.shut_if_dirty new) c.in-Ok.ensures.ok

pub returns-in-Err-clause-shut : goal.returns-in-Err-clause-shut
returns-in-Err-clause-shut g c =
    let old = c.args.self.now.store in
    let new = c.commit.new.self in
    was_open_rolled_back c.args.self.now.first (g.S.Store.view old) (g.S.Store.view new) c.commit.ensures.clean (g.met.S.Store.broken_if_shut new) (g.met.S.Store.shut_if_dirty new) c.in-Err.ensures.err
