use Rattle.std.proofs.Common.{length, sym, ◌∙◌}
use Rattle.numerals.proofs.Digits.{not_zero}
use Rattle.proof_log.proofs.TokenSpans.{no_second, no_third}
use Rattle.proof_log.proofs.opening.formula_of.Goals as goal

pub returns-in_default-next_number-2 : goal.returns-in_default-next_number-2
returns-in_default-next_number-2 c =
    no_second c.args.line.now c.in-Some.bytes.now c.in-Some-next_number.vars c.in-Some-next_number.rest.now c.in-Some.ensures c.in-Some-next_number.ensures c.in_default-next_number-2.ensures

pub returns-then-not-is_empty : goal.returns-then-not-is_empty
returns-then-not-is_empty c =
    no_third c.args.line.now c.in-Some.bytes.now c.in-Some-next_number.vars c.in-Some-next_number.rest.now c.in-Some-next_number-2.clauses c.in-Some-next_number-2.end.now
    c.in-Some.ensures c.in-Some-next_number.ensures c.in-Some-next_number-2.ensures (not_zero (length c.in-Some-next_number-2.end.now) (sym c.is_empty.ensures ∙ c.if-not-is_empty.true))
