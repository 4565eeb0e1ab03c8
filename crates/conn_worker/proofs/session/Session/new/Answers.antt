use Rattle.conn_worker.proofs.session.Session.new.Goals as goal

pub returns-clause-fresh : goal.returns-clause-fresh
returns-clause-fresh g c =
    let t = c.new-2.ensures in
    record {
      framer = c.new.ensures;
      dialogue = record {
        receipts = t.receipts;
        unbooked = t.unbooked;
        unreadable_ones = t.unreadable_ones;
        stray_ones = t.stray_ones;
        broken_ones = t.broken_ones;
        made = t.made;
        bytes = t.bytes;
      };
    }
