-- How many parentheses are open at the places of a line.
use Rattle.std.specs.Prelude.{ℕ, suc, ◌-◌, ◌==◌, if◌then◌else◌, List, [], ◌∷◌, max}
use Rattle.lexeme_reader.specs.declared.reading.Lexeme.{Lexeme}
use Rattle.lexeme_reader.specs.declared.reading.Lexeme.TheVariants.{Word, Number, Path, Text, Sign}

-- how many parentheses are open behind a token, of as many before it; a `)` closes one where one is open
abbrev pub depth_behind : ℕ → Lexeme → ℕ
depth_behind depth (Word word) = depth
depth_behind depth (Number n) = depth
depth_behind depth (Path path) = depth
depth_behind depth (Text text) = depth
depth_behind depth (Sign sign) = if sign == 40 then suc depth else (if sign == 41 then depth - 1 else depth)

-- the most parentheses that are open at one place, so many of them from before
abbrev pub most_open : ℕ → List Lexeme → ℕ
most_open depth [] = depth
most_open depth (lexeme ∷ lexemes) = max depth (most_open (depth_behind depth lexeme) lexemes)
