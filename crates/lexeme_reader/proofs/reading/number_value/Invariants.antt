use Rattle.std.proofs.Common.{◌≡◌, ◌^◌, take, min}
use Rattle.lexeme_reader.specs.Lexemes.{digits_value}
use Rattle.lexeme_reader.proofs.reading.number_value.Given as goal

abbrev pub invariant-loop-digit : goal.invariant-loop-digit
invariant-loop-digit l = l.value ≡ min (digits_value (take l.digit-index l.digits)) (2 ^ 32)
