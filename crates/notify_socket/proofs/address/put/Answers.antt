use Rattle.std.proofs.Common.{◌+◌, ◌++◌, length, take, arith}
use borrow.Rule.Slice.PartMut.{Post-is}
use Rattle.notify_socket.specs.inner.Address.{put}
use Rattle.notify_socket.proofs.address.put.Goals as goal

pub returns : goal.returns
unfolding put
returns c =
    let begin = c.args.at in
    let old = c.args.raw.now in
    let behind = Post-is begin (begin + length c.args.bytes.now) old (omega arith) in
    λ i. take begin old ++ (c.copy_from_slice.ensures.after i ++ behind i)
