-- The most open parentheses are at least those that are open at the front.
use Rattle.std.proofs.Common.{ℕ, ◌≤◌, List, [], ◌∷◌, arith}
use Rattle.lexeme_reader.specs.declared.reading.Lexeme.{Lexeme}
use Rattle.lexeme_reader.specs.Parentheses.{most_open}

pub most_open_front : (depth : ℕ) (lexemes : List Lexeme) → depth ≤ most_open depth lexemes
most_open_front depth [] = omega arith
most_open_front depth (lexeme ∷ lexemes) = omega arith
