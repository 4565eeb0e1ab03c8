use Rattle.std.proofs.Common.{◌+◌, ◌*◌, ◌∙◌, sym, arith}
use Rattle.std.proofs.lemmas.Bool.{and_from}
use Rattle.std.proofs.lemmas.List.Folds.{list_all_more}
use Rattle.std.specs.Char.{is_ascii_digit}
use Rattle.er7_tree.proofs.PathReading.{number_bad, number_large, number_more}
use Rattle.er7_tree.proofs.path.number.Goals as goal

pub returns-then-not-is_ascii_digit-clause-value : goal.returns-then-not-is_ascii_digit-clause-value
returns-then-not-is_ascii_digit-clause-value c = sym (number_bad c.args.digits.now c.loop-digit.digit-index c.loop-digit-test.true (sym c.is_ascii_digit.ensures.value ∙ c.if-not-is_ascii_digit.true))

pub returns-then-value-gt-PATH_NUMBER_MAX-clause-value : goal.returns-then-value-gt-PATH_NUMBER_MAX-clause-value
returns-then-value-gt-PATH_NUMBER_MAX-clause-value c =
    let digit = sym c.is_ascii_digit.ensures.value ∙ c.if-not-is_ascii_digit.false in
    let more = number_more c.args.digits.now c.loop-digit.digit-index c.loop-digit.value c.loop-digit-test.true digit c.loop-digit.invariant.value in
    sym (number_large c.args.digits.now (c.loop-digit.digit-index + 1) (10 * c.loop-digit.value + c.from.result) (rw c.from.ensures more) c.if-value-gt-PATH_NUMBER_MAX.true)

pub loop-digit-preserved : goal.loop-digit-preserved
loop-digit-preserved c =
    let digit = sym c.is_ascii_digit.ensures.value ∙ c.if-not-is_ascii_digit.false in
    let more = number_more c.args.digits.now c.loop-digit.digit-index c.loop-digit.value c.loop-digit-test.true digit c.loop-digit.invariant.value in
    record {
      digits = list_all_more is_ascii_digit c.args.digits.now c.loop-digit.digit-index 0 c.loop-digit-test.true ∙ and_from _ _ c.loop-digit.invariant.digits digit;
      value = rw c.from.ensures more;
      small = omega arith;
    }
