use Rattle.std.proofs.Common.{◌≡◌, length, get_or, None, arith}
use Rattle.conn_core.proofs.Numbering.{counted_two, due_part, dues_two, two_parts, first_missing, second_appended, second_missing}
use Rattle.conn_core.proofs.replies.Replies.append.Goals as goal

pub returns-clause-ok : goal.returns-clause-ok
returns-clause-ok c =
    let two : length c.parts.result ≡ 2 = omega arith in
    let dues = dues_two c.args.header.now c.args.outcome c.args.now c.of.result c.told_of.result c.parts.result two c.parts.ensures c.of.ensures c.told_of.ensures in
    second_appended c.append_part-2.result _ _ _ _ _ _ c.in_ok-append_part.ensures.ok
    (two_parts c.args.conn c.args.self.now.made (due_part c.args.header.now c.args.now) (get_or c.parts.result 0 None) (get_or c.parts.result 1 None) c.append_part.new.self.made _ c.in_ok-append_part.ensures.counted dues)
    c.append_part-2.ensures.ok

pub returns-in_err-append_part-clause-err : goal.returns-in_err-append_part-clause-err
returns-in_err-append_part-clause-err c =
    let two : length c.parts.result ≡ 2 = omega arith in
    let dues = dues_two c.args.header.now c.args.outcome c.args.now c.of.result c.told_of.result c.parts.result two c.parts.ensures c.of.ensures c.told_of.ensures in
    first_missing c.from_residual.result c.args.conn c.args.self.now c.append_part.new.self (due_part c.args.header.now c.args.now)
    (get_or c.parts.result 0 None) (get_or c.parts.result 1 None) _ dues
    c.in_err-append_part.ensures.err c.in_err-append_part.ensures.not_counted c.in_err-append_part.ensures.one

pub returns-clause-err : goal.returns-clause-err
returns-clause-err c =
    let two : length c.parts.result ≡ 2 = omega arith in
    let dues = dues_two c.args.header.now c.args.outcome c.args.now c.of.result c.told_of.result c.parts.result two c.parts.ensures c.of.ensures c.told_of.ensures in
    second_missing c.append_part-2.result c.args.conn c.args.self.now c.append_part.new.self c.append_part-2.new.self (due_part c.args.header.now c.args.now)
    (get_or c.parts.result 0 None) (get_or c.parts.result 1 None) _ c.in_ok-append_part.ensures.ok c.in_ok-append_part.ensures.counted dues
    c.append_part-2.ensures.err c.append_part-2.ensures.not_counted c.append_part-2.ensures.one

pub returns-clause-counted : goal.returns-clause-counted
returns-clause-counted c =
    let two : length c.parts.result ≡ 2 = omega arith in
    let dues = dues_two c.args.header.now c.args.outcome c.args.now c.of.result c.told_of.result c.parts.result two c.parts.ensures c.of.ensures c.told_of.ensures in
    counted_two c.append_part-2.result c.args.self.now.made _ _ (due_part c.args.header.now c.args.now) (get_or c.parts.result 0 None) (get_or c.parts.result 1 None) _ c.in_ok-append_part.ensures.counted dues
    c.append_part-2.ensures.counted
