use Rattle.std.proofs.Common.{ℕ, length, min, ◌+◌, ◌*◌, sym, ◌∙◌, ap, arith}
use Rattle.std.specs.Str.Parse.{digits_value}
use Rattle.std.proofs.lemmas.List.{take_all}
use Rattle.numerals.proofs.Digits.{value_more, not_zero, passed_are_digits}
use Rattle.numerals.proofs.number_of.Goals as goal

pub loop-digit-preserved : goal.loop-digit-preserved
loop-digit-preserved c =
    value_more c.args.digits.now c.loop-digit.digit-index c.loop-digit.value c.min-value.result c.requires c.loop-digit-test.true c.loop-digit.invariant
    (c.min-value.ensures ∙ ap (λ (x : ℕ). min (10 * c.loop-digit.value + x) 4294967296) c.from.ensures)

pub returns-then-value-eq-WIDE : goal.returns-then-value-eq-WIDE
returns-then-value-eq-WIDE c = λ n decimal.
    let whole = ap (digits_value 10) (take_all c.loop-digit.digit-index c.args.digits.now c.loop-digit-test.false) in
    omega (arith, c.loop-digit.invariant, whole, decimal.1, decimal.2)

pub returns : goal.returns
returns c =
    let whole = ap (digits_value 10) (take_all c.loop-digit.digit-index c.args.digits.now c.loop-digit-test.false) in
    ((not_zero (length c.args.digits.now) (sym c.is_empty.ensures ∙ c.if-is_empty.false), passed_are_digits c.args.digits.now c.requires), omega (arith, c.loop-digit.invariant, whole), omega (arith, c.loop-digit.invariant))
