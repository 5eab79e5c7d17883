-- Private: what tokens begin with, an expression or further operands of one, and any others behind it. Only the
-- contracts of private functions cite it.
use Rattle.std.specs.Prelude.{◌≡◌, ℕ, List, ◌∷◌, codes}
use Rattle.litmus_syntax.specs.declared.pred.Binding.{Binding}
use Rattle.litmus_syntax.specs.declared.pred.Binding.TheVariants.{Disjunction, Conjunction, Operand}
use Rattle.litmus_syntax.specs.declared.pred.Pred.{Pred}
use Rattle.litmus_syntax.specs.declared.pred.Pred.TheVariants as pred
use Rattle.lexeme_reader.specs.declared.reading.Lexeme.{Lexeme}
use Rattle.lexeme_reader.specs.declared.reading.Lexeme.TheVariants.{Word, Sign}
use Rattle.predicate_reader.specs.declared.atoms.AtomName.{AtomName}
use Rattle.predicate_reader.specs.AtomNames.{atom_text}
use Rattle.predicate_reader.specs.AtomFronts.{CompletesAtom}

-- the tokens don't begin with this word
abbrev pub BeginsOther : List ℕ → List Lexeme → Type 0
BeginsOther word tokens = (rest : List Lexeme) → tokens ≡ Word word ∷ rest → ⊥

-- what may stand at a place: an expression, or the further operands of an `and` or an `or` whose left operand is known
pub data Part : Type 0 where
  Expression : Binding → Part
  FurtherAnd : Pred → Part
  FurtherOr : Pred → Part

-- the tokens begin with this part, which makes this predicate, and the rest follows; further operands end where no
-- further `and`, or `or`, follows
pub data Begins : Part → List Lexeme → Pred → List Lexeme → Type 0 where
  atom : (name : AtomName) (tokens : List Lexeme) (p : Pred) (rest : List Lexeme) → CompletesAtom name tokens p rest
      → Begins (Expression Operand) (Word (atom_text name) ∷ tokens) p rest
  inner : (tokens : List Lexeme) (p : Pred) (rest : List Lexeme) → Begins (Expression Disjunction) tokens p (Sign 41 ∷ rest)
      → Begins (Expression Operand) (Sign 40 ∷ tokens) p rest
  negation : (tokens : List Lexeme) (p : Pred) (rest : List Lexeme) → Begins (Expression Operand) tokens p rest
      → Begins (Expression Operand) (Word (codes "not") ∷ tokens) (pred.Not p) rest
  conjunction : (tokens : List Lexeme) (left p : Pred) (behind rest : List Lexeme) → Begins (Expression Operand) tokens left behind
      → Begins (FurtherAnd left) behind p rest → Begins (Expression Conjunction) tokens p rest
  disjunction : (tokens : List Lexeme) (left p : Pred) (behind rest : List Lexeme) → Begins (Expression Conjunction) tokens left behind
      → Begins (FurtherOr left) behind p rest → Begins (Expression Disjunction) tokens p rest
  no_and : (left : Pred) (rest : List Lexeme) → BeginsOther (codes "and") rest → Begins (FurtherAnd left) rest left rest
  one_and : (left right p : Pred) (tokens behind rest : List Lexeme) → Begins (Expression Operand) tokens right behind
      → Begins (FurtherAnd (pred.And left right)) behind p rest → Begins (FurtherAnd left) (Word (codes "and") ∷ tokens) p rest
  no_or : (left : Pred) (rest : List Lexeme) → BeginsOther (codes "or") rest → Begins (FurtherOr left) rest left rest
  one_or : (left right p : Pred) (tokens behind rest : List Lexeme) → Begins (Expression Conjunction) tokens right behind
      → Begins (FurtherOr (pred.Or left right)) behind p rest → Begins (FurtherOr left) (Word (codes "or") ∷ tokens) p rest
