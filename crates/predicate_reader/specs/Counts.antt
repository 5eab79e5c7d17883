-- What is counted of a question, so that it isn't too long.
use Rattle.std.specs.Prelude.{ℕ, ◌≤◌, Bool, false, List, [], ◌∷◌, length, map, filter, sum, bytes_eq, codes}
use Rattle.std.specs.List.{list_any}
use Rattle.litmus_syntax.specs.Counts.{atom_words}
use Rattle.lexeme_reader.specs.declared.reading.Lexeme.{Lexeme}
use Rattle.lexeme_reader.specs.declared.reading.Lexeme.TheVariants.{Word, Number, Path, Text, Sign}
use Rattle.lexeme_reader.specs.Parentheses.{most_open}

-- the token is one of these words, wherever it stands
abbrev pub is_word_of : List (List ℕ) → Lexeme → Bool
is_word_of words (Word word) = list_any (bytes_eq word) words
is_word_of words (Number n) = false
is_word_of words (Path path) = false
is_word_of words (Text text) = false
is_word_of words (Sign sign) = false

-- how many of the tokens are one of these words
abbrev pub word_count : List (List ℕ) → List Lexeme → ℕ
word_count words lexemes = length (filter (is_word_of words) lexemes)

-- how many bytes a text stands for
abbrev pub text_size : Lexeme → ℕ
text_size (Word word) = 0
text_size (Number n) = 0
text_size (Path path) = 0
text_size (Text text) = length text
text_size (Sign sign) = 0

-- a question that isn't too long: its texts have 4,096 bytes at most, it has at most 256 words that atoms begin with and
-- at most 256 words `not`, and at no place are more than 64 parentheses open
pub record IsShort (asked : List Lexeme) : Type 0 where
  pub texts : sum (map text_size asked) ≤ 4096
  pub atoms : word_count atom_words asked ≤ 256
  pub nots : word_count (codes "not" ∷ []) asked ≤ 256
  pub depth : most_open 0 asked ≤ 64
