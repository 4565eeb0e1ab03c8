use Rattle.std.proofs.Common.{◌≡◌, ◌-◌, ap, ◌∙◌, arith, length, min, ◌++◌, take}
use Rattle.std.proofs.lemmas.Grind.{common_steps}
use Rattle.mllp_frame.specs.inner.Framing.{shortened, least_too_long}
use Rattle.mllp_frame.proofs.Appending.{least_too_long_is}
use Rattle.mllp_frame.proofs.Searching.{take_by}
use Rattle.mllp_frame.proofs.stage.keep.Goals as goal

pub returns : goal.returns
returns c =
    let old = c.args.bytes.now.items in
    let limit = least_too_long_is in
    let long : c.len.result ≡ length old = grind (arith, common_steps) in
    let room : c.min.result ≡ min (least_too_long - length old) (length c.args.more.now) = omega arith in
    let all : old ++ take c.min.result c.args.more.now ≡ shortened (old ++ c.args.more.now) =
    ap (λ n. old ++ take n c.args.more.now) room ∙ take_by least_too_long old c.args.more.now (omega arith) in
    grind (arith, common_steps, all)

pub overflow_sub-room : goal.overflow_sub-room
overflow_sub-room c = let long : c.len.result ≡ length c.args.bytes.now.items = grind (arith, common_steps) in omega (arith, least_too_long_is)
