-- Which tokens are which expression.
use Rattle.std.specs.Prelude.{◌≡◌, ℕ, List, [], ◌∷◌, ◌++◌, map, Some, bit_or}
use Rattle.lexeme_reader.specs.declared.reading.Lexeme.{Lexeme}
use Rattle.lexeme_reader.specs.declared.reading.Lexeme.TheVariants.{Word, Sign}
use Rattle.model_reader.specs.declared.expr.Expr.{Expr}
use Rattle.model_reader.specs.declared.expr.Expr.TheVariants as expr
use Rattle.model_reader.specs.declared.operator.Operator.{Operator}
use Rattle.model_reader.specs.declared.operator.Operator.TheVariants.{Union, Intersection, Sequence}
use Rattle.model_reader.specs.declared.words.Vocabulary.{Vocabulary}
use Rattle.model_reader.specs.Words.{word_of, bit_of}

-- the sign of an operator: `|`, `&` and `;`
abbrev pub sign_of : Operator → ℕ
sign_of Union = 124
sign_of Intersection = 38
sign_of Sequence = 59

-- what an operator makes of what stands on its left and on its right
abbrev pub joined : Operator → Expr → Expr → Expr
joined Union left right = expr.Or left right
joined Intersection left right = expr.And left right
joined Sequence left right = expr.Seq left right

-- what a place asks for: something that an operator, or one that binds tighter, joins; a closure; or a word, a list of
-- kinds, or something in parentheses
pub data Binding : Type 0 where
  Join : Operator → Binding
  Closure : Binding
  Operand : Binding

-- what binds tighter than an operator
abbrev pub tighter : Operator → Binding
tighter Union = Join Intersection
tighter Intersection = Join Sequence
tighter Sequence = Closure

-- words in brackets have these bits together, beside the bits of those before them
abbrev pub HaveBits : Vocabulary → ℕ → List (List ℕ) → ℕ → Type 0
HaveBits words before [] bits = bits ≡ before
HaveBits words before (word ∷ others) bits = (bit : ℕ) × (bit_of words word ≡ Some bit) × HaveBits words (bit_or before bit) others bits

-- tokens that are an expression at a place that asks for this binding, over these words and names; all operators group to
-- the left
pub data IsExpression (words : Vocabulary) (names : List (List ℕ)) : Binding → List Lexeme → Expr → Type 0 where
  word : (word : List ℕ) (e : Expr) → word_of words names word ≡ Some e → IsExpression words names Operand (Word word ∷ []) e
  listed : (first : List ℕ) (others : List (List ℕ)) (bits : ℕ) → HaveBits words 0 (first ∷ others) bits
      → IsExpression words names Operand (Sign 91 ∷ map Word (first ∷ others) ++ Sign 93 ∷ []) (expr.Kinds bits)
  inner : (tokens : List Lexeme) (e : Expr) → IsExpression words names (Join Union) tokens e
      → IsExpression words names Operand (Sign 40 ∷ tokens ++ Sign 41 ∷ []) e
  unclosed : (tokens : List Lexeme) (e : Expr) → IsExpression words names Operand tokens e → IsExpression words names Closure tokens e
  closed : (tokens : List Lexeme) (e : Expr) → IsExpression words names Closure tokens e
      → IsExpression words names Closure (tokens ++ Sign 43 ∷ []) (expr.Plus e)
  alone : (o : Operator) (tokens : List Lexeme) (e : Expr) → IsExpression words names (tighter o) tokens e
      → IsExpression words names (Join o) tokens e
  both : (o : Operator) (a b : List Lexeme) (x y : Expr) → IsExpression words names (Join o) a x → IsExpression words names (tighter o) b y
      → IsExpression words names (Join o) (a ++ Sign (sign_of o) ∷ b) (joined o x y)
