use Rattle.proof_log.proofs.TokenSpans.{no_number, no_decimal, number_found}
use Rattle.proof_log.proofs.tokens.next_number.Goals as goal

pub returns-then-not-is_number : goal.returns-then-not-is_number
returns-then-not-is_number c =
    no_number c.args.line.now c.in-Some.unspaced.now c.split_digits.result.0.now c.split_digits.result.1.now c.in-Some.ensures c.split_digits.ensures c.if-not-is_number.ensures

pub returns-in_default-number_of : goal.returns-in_default-number_of
returns-in_default-number_of c =
    no_decimal c.args.line.now c.in-Some.unspaced.now c.split_digits.result.0.now c.split_digits.result.1.now c.in-Some.ensures c.split_digits.ensures c.in_default-number_of.ensures

pub returns : goal.returns
returns c =
    number_found c.args.line.now c.in-Some.unspaced.now c.split_digits.result.0.now c.split_digits.result.1.now c.in-Some-number_of.number c.in-Some.ensures c.split_digits.ensures
    c.if-not-is_number.ensures c.in-Some-number_of.ensures
