use Rattle.std.proofs.Common.{ap}
use Rattle.sqlite_trees.specs.View.{View}
use Rattle.event_store.proofs.RecordLemmas.{put_record, sees_more, keeps_commit, clean_if_open, was_open_written}
use Rattle.event_store.proofs.records.EventStore.append.Goals as goal

pub invariant_of-self-2-clause-sees : goal.invariant_of-self-2-clause-sees
invariant_of-self-2-clause-sees g c =
    let old = c.args.self.now.store in
    let new = c.put.new.store in
    sees_more c.args.self.now.first (g.S.Store.view old) (g.S.Store.view new) c.put.ensures.quiet.clean (g.met.S.Store.broken_if_shut new) (g.met.S.Store.shut_if_dirty new) _ _ _ c.args.self.now.sees c.in_ok-put.ensures.ok c.in_ok-fill.ensures

pub invariant_of-self-2-clause-keeps : goal.invariant_of-self-2-clause-keeps
invariant_of-self-2-clause-keeps g c =
    let old = c.args.self.now.store in
    let new = c.put.new.store in
    keeps_commit c.args.self.now.first (g.S.Store.view old) (g.S.Store.view new) c.put.ensures.quiet.clean (g.met.S.Store.broken_if_shut new) (g.met.S.Store.shut_if_dirty new) _ c.args.self.now.keeps c.in_ok-put.ensures.frame

pub returns-clause-added : goal.returns-clause-added
returns-clause-added g c clean =
    (put_record c.args.self.now.first (g.S.Store.view c.args.self.now.store) (g.S.Store.view c.put.new.store) _ _ _ c.args.self.now.sees (c.in_ok-put.ensures.ok clean) c.in_ok-fill.ensures).1

pub returns-clause-committed : goal.returns-clause-committed
returns-clause-committed g c is_open =
    let old = c.args.self.now.store in
    let new = c.put.new.store in
    ap (λ (v : View). v.committed) (c.in_ok-put.ensures.frame (clean_if_open c.args.self.now.first (g.S.Store.view old) (g.S.Store.view new) c.put.ensures.quiet.clean (g.met.S.Store.broken_if_shut new) (g.met.S.Store.shut_if_dirty new) is_open))

pub returns-clause-shut : goal.returns-clause-shut
returns-clause-shut g c =
    let old = c.args.self.now.store in
    let new = c.put.new.store in
    was_open_written c.args.self.now.first (g.S.Store.view old) (g.S.Store.view new) c.put.ensures.quiet.clean (g.met.S.Store.broken_if_shut new) (g.met.S.Store.shut_if_dirty new) c.in_ok-put.ensures.frame
