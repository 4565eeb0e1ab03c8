use Rattle.std.proofs.Common.{◌≡◌, ◌-◌, take, drop, set, replicate, length-drop, length-set, ◌∙◌, arith}
use Rattle.std.proofs.lemmas.Fmt.{length-decimal-le}
use Rattle.std.proofs.lemmas.List.{take_all}
use Rattle.hl7_head.proofs.Fronts.{if_added}
use Rattle.hl7_head.proofs.IdRun.{id_run}
use Rattle.hl7_head.proofs.reply.push_reply_id.Goals as goal

pub write_digits-point-requires : goal.write_digits-point-requires
write_digits-point-requires c = let digits = length-decimal-le 10 c.args.number (omega arith) (omega arith) (omega arith) in (omega arith, omega arith)

pub overflow_sub-point : goal.overflow_sub-point
overflow_sub-point c =
    let digits = length-decimal-le 10 c.args.number (omega arith) (omega arith) (omega arith) in
    omega (arith, digits, c.write_digits-point.ensures.start)

pub write_digits-start-requires : goal.write_digits-start-requires
write_digits-start-requires c =
    let first = length-decimal-le 10 c.args.number (omega arith) (omega arith) (omega arith) in
    let second = length-decimal-le 10 c.args.connection (omega arith) (omega arith) (omega arith) in
    let start = c.write_digits-point.ensures.start in
    (omega (arith, first, second, start), simp length-set (omega (arith, start, c.write_digits-point.auto.buf)))

pub overflow_sub-start : goal.overflow_sub-start
overflow_sub-start c =
    let first = length-decimal-le 10 c.args.number (omega arith) (omega arith) (omega arith) in
    let second = length-decimal-le 10 c.args.connection (omega arith) (omega arith) (omega arith) in
    omega (arith, first, second, c.write_digits-point.ensures.start, c.write_digits-start.ensures.start)

pub returns-clause-ok : goal.returns-clause-ok
returns-clause-ok c =
    let first = length-decimal-le 10 c.args.number (omega arith) (omega arith) (omega arith) in
    let second = length-decimal-le 10 c.args.connection (omega arith) (omega arith) (omega arith) in
    let point = c.write_digits-point.ensures.start in
    let start = c.write_digits-start.ensures.start in
    let from = c.write_digits-start.result - 1 in
    let run = set c.write_digits-start.new.buf from c.args.separator in
    let all : take (22 - from) (drop from run) ≡ drop from run = take_all (22 - from) (drop from run) (simp (length-drop, length-set) (omega (arith, c.write_digits-start.auto.buf))) in
    if_added c.extend_from_slice.result c.args.text.now.items c.extend_from_slice.new.self.items _ _ c.extend_from_slice.ensures.items
    (all ∙ id_run c.args.connection c.args.number c.args.separator c.write_digits-point.result c.write_digits-start.result (replicate 22 0) c.write_digits-point.new.buf c.write_digits-start.new.buf
    (omega arith)
    (omega (arith, first, point)) (omega (arith, point, c.write_digits-point.auto.buf))
    (omega (arith, first, second, point, start)) (omega (arith, point, start, c.write_digits-start.auto.buf))
    c.write_digits-point.ensures.written c.write_digits-start.ensures.written)
