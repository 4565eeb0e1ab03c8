use Rattle.std.proofs.Common.{◌∷◌, ◌++◌}
use Rattle.std.specs.Int.{w32, w64, to_be_bytes}
use Rattle.opening_records.specs.inner.Encoding.{head_bytes}
use Rattle.opening_records.proofs.Joined.{grouped, two}
use Rattle.opening_records.proofs.writing.put_head.Goals as goal

pub returns-clause-bytes : goal.returns-clause-bytes
unfolding head_bytes
returns-clause-bytes c =
    let h = c.args.head in
    let front = grouped c.args.out.now.items (1 ∷ to_be_bytes w32 h.events_max) (to_be_bytes w64 h.places) (to_be_bytes w32 h.messages) c.put_front.new.out.items c.in_ok-put_front.ensures in
    two c.args.out.now.items (1 ∷ to_be_bytes w32 h.events_max ++ to_be_bytes w64 h.places ++ to_be_bytes w32 h.messages)
    (to_be_bytes w32 h.deployments ++ to_be_bytes w32 h.prunings) c.put_front.new.out.items c.put_back.new.out.items front c.in_ok-put_back.ensures
