-- What the crates below say of predicates, as their laws state it.
use Rattle.std.proofs.Common.{◌≡◌, ◌⊎◌, List, IsTrue}
use Rattle.std.specs.List.{All}
use Rattle.litmus_syntax.specs.declared.pred.Pred.{Pred}
use Rattle.litmus_syntax.specs.Counts.{IsShortPred}
use Rattle.litmus_syntax.specs.Forms.{is_formed_pred}
use Rattle.lexeme_reader.specs.declared.reading.Lexeme.{Lexeme}
use Rattle.lexeme_reader.specs.Lexemes.{is_formed}
use Rattle.predicate_reader.specs.Counts.{IsShort}
use Rattle.predicate_reader.specs.Predicates.{IsPredicate}

-- what keeps to the forms and limits as tokens does so as a predicate
pub record KeptLaws : Type 0 where
  pub formed : (tokens : List Lexeme) (p : Pred) → All (λ l. IsTrue (is_formed l)) tokens → IsPredicate tokens p → IsTrue (is_formed_pred p)
  pub short : (tokens : List Lexeme) (p : Pred) → IsShort tokens → IsPredicate tokens p → IsShortPred p

-- tokens are one predicate, or none
pub record PredicateLaws : Type 0 where
  pub one : (tokens : List Lexeme) (p q : Pred) → IsPredicate tokens p → IsPredicate tokens q → p ≡ q
  pub some : (tokens : List Lexeme) → ((p : Pred) × IsPredicate tokens p) ⊎ ((p : Pred) → IsPredicate tokens p → ⊥)
