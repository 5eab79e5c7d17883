-- Which tokens are which predicate.
use Rattle.std.specs.Prelude.{◌≡◌, ℕ, ◌+◌, ◌≤◌, List, [], ◌∷◌, ◌++◌, Some, None, length, codes}
use Rattle.std.specs.List.{Contains}
use Rattle.litmus_syntax.specs.declared.pred.Binding.{Binding}
use Rattle.litmus_syntax.specs.declared.pred.Binding.TheVariants.{Disjunction, Conjunction, Operand}
use Rattle.litmus_syntax.specs.declared.pred.Pred.{Pred}
use Rattle.litmus_syntax.specs.declared.pred.Pred.TheVariants as pred
use Rattle.lexeme_reader.specs.declared.reading.Lexeme.{Lexeme}
use Rattle.lexeme_reader.specs.declared.reading.Lexeme.TheVariants.{Word, Number, Path, Text, Sign}

-- an atom, `true` and `false` too; a range of `bytes` ends at 65,536 at most
pub data IsAtom (lexemes : List Lexeme) : Pred → Type 0 where
  yes : lexemes ≡ Word (codes "true") ∷ [] → IsAtom lexemes pred.True
  no : lexemes ≡ Word (codes "false") ∷ [] → IsAtom lexemes pred.False
  exists : (path : List (List ℕ)) → lexemes ≡ Word (codes "exists") ∷ Sign 40 ∷ Path path ∷ Sign 41 ∷ [] → IsAtom lexemes (pred.Exists path)
  same : (left right : List (List ℕ)) → lexemes ≡ Word (codes "same") ∷ Sign 40 ∷ Path left ∷ Sign 44 ∷ Path right ∷ Sign 41 ∷ []
      → IsAtom lexemes (pred.Same left right)
  size : (path : List (List ℕ)) (size : ℕ) → lexemes ≡ Word (codes "size") ∷ Sign 40 ∷ Path path ∷ Sign 41 ∷ Sign 61 ∷ Number (Some size) ∷ []
      → IsAtom lexemes (pred.SizeIs path size)
  content : (path : List (List ℕ)) (text : List ℕ)
      → lexemes ≡ Word (codes "content") ∷ Sign 40 ∷ Path path ∷ Sign 41 ∷ Sign 61 ∷ Text text ∷ [] → IsAtom lexemes (pred.ContentIs path text)
  bytes : (path : List (List ℕ)) (at : ℕ) (text : List ℕ) → at + length text ≤ 65536
      → lexemes ≡ Word (codes "bytes") ∷ Sign 40 ∷ Path path ∷ Sign 44 ∷ Number (Some at) ∷ Sign 41 ∷ Sign 61 ∷ Text text ∷ []
      → IsAtom lexemes (pred.BytesAre path at text)
  attr : (path : List (List ℕ)) (key : List ℕ) (value : ℕ)
      → lexemes ≡ Word (codes "attr") ∷ Sign 40 ∷ Path path ∷ Sign 44 ∷ Word key ∷ Sign 41 ∷ Sign 61 ∷ Number (Some value) ∷ []
      → IsAtom lexemes (pred.AttrIs path key value)
  seen : (word : List ℕ) → lexemes ≡ Word (codes "seen") ∷ Sign 40 ∷ Word word ∷ Sign 41 ∷ [] → IsAtom lexemes (pred.Seen word)

-- tokens that are a predicate, at a place that asks for this binding; `or` and `and` group to the left
pub data IsExpression : Binding → List Lexeme → Pred → Type 0 where
  atom : (lexemes : List Lexeme) (p : Pred) → IsAtom lexemes p → IsExpression Operand lexemes p
  inner : (lexemes : List Lexeme) (p : Pred) → IsExpression Disjunction lexemes p → IsExpression Operand (Sign 40 ∷ lexemes ++ Sign 41 ∷ []) p
  negation : (lexemes : List Lexeme) (p : Pred) → IsExpression Operand lexemes p → IsExpression Operand (Word (codes "not") ∷ lexemes) (pred.Not p)
  tighter : (lexemes : List Lexeme) (p : Pred) → IsExpression Operand lexemes p → IsExpression Conjunction lexemes p
  both : (a b : List Lexeme) (p q : Pred) → IsExpression Conjunction a p → IsExpression Operand b q
      → IsExpression Conjunction (a ++ Word (codes "and") ∷ b) (pred.And p q)
  single : (lexemes : List Lexeme) (p : Pred) → IsExpression Conjunction lexemes p → IsExpression Disjunction lexemes p
  either : (a b : List Lexeme) (p q : Pred) → IsExpression Disjunction a p → IsExpression Conjunction b q
      → IsExpression Disjunction (a ++ Word (codes "or") ∷ b) (pred.Or p q)

-- the tokens are this predicate
abbrev pub IsPredicate : List Lexeme → Pred → Type 0
IsPredicate lexemes p = IsExpression Disjunction lexemes p

-- each number is in range: it has 32 bits at most
abbrev pub AreInRange : List Lexeme → Type 0
AreInRange lexemes = Contains lexemes (Number None) → ⊥
