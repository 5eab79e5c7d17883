use Rattle.std.proofs.Common.{length, sym, ◌∙◌, arith}
use Rattle.std.proofs.lemmas.Bool.{eqb-true}
use Rattle.witness_replay.proofs.CrashReading.{number_span}
use Rattle.witness_replay.proofs.reading.next_number.Goals as goal

pub returns-then-is_empty : goal.returns-then-is_empty
returns-then-is_empty c = λ n rest begins.
    let spans = number_span c.args.bytes.now c.split_spaces.result.0.now c.split_spaces.result.1.now n rest c.split_spaces.ensures begins in
    omega (arith, spans.0, eqb-true (length c.split_spaces.result.0.now) 0 (sym c.is_empty.ensures ∙ c.if-is_empty.true))

pub returns-in_default : goal.returns-in_default
returns-in_default c = λ n rest begins.
    let spans = number_span c.args.bytes.now c.split_spaces.result.0.now c.split_spaces.result.1.now n rest c.split_spaces.ensures begins in
    c.in_default.ensures n (spans.1 c.split_digits.result.0.now c.split_digits.result.1.now c.split_digits.ensures)
