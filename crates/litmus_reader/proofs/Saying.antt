-- The fault of a statement is that of the tokens that say it.
use Rattle.std.proofs.Common.{◌≡◌, List, [], ◌∷◌, refl, sym, ◌∙◌, subst, inl, inr}
use Rattle.std.proofs.lemmas.List.Elements.{All-nil, All-weaker}
use Rattle.lexeme_reader.specs.declared.reading.Lexeme.{Lexeme}
use Rattle.line_files.specs.FirstFaults.{IsFirst, IsSound}
use Rattle.litmus_reader.specs.declared.fault.LitmusKind.{LitmusKind}
use Rattle.litmus_reader.specs.declared.fault.LitmusKind.TheVariants.{BadLine, OutOfOrder, NumberRange, NotHere, TooLong, BadPredicate}
use Rattle.litmus_reader.specs.Statements.{Statement, statement_lexemes}
use Rattle.litmus_reader.specs.Versions.{version_of}
use Rattle.litmus_reader.specs.Faults.{Has, HaveFault}
use Rattle.litmus_reader.specs.LitmusText.{kinds, litmus_grammar}
use Rattle.litmus_reader.specs.TakenLines.{IsFaultless, IsFirstKind}
use Rattle.litmus_reader.proofs.Faulting.{wide_or_small, alike_version, alike_has}
use Rattle.litmus_reader.proofs.Leading.{alike_statement, one_statement}

-- a fault of the tokens is one of the statement that is known to have them
fault_of : (before : List Statement) (s t : Statement) (kind : LitmusKind) → statement_lexemes s ≡ statement_lexemes t → Has before t kind → Has before s kind
fault_of before s t kind e has = elim (wide_or_small (statement_lexemes s)) [
  | inl large ↦
      alike_has before t s (sym (alike_statement s t e)) large kind has
  | inr small ↦ subst (λ (u : Statement). Has before u kind) (sym (one_statement s t small e)) has
]

pub fault_of_tokens : (before : List Statement) (s : Statement) (kind : LitmusKind) → HaveFault before (statement_lexemes s) kind → Has before s kind
fault_of_tokens before s BadLine h = h s refl
fault_of_tokens before s kind (t, e, has) = fault_of before s t kind e has

-- a fault of the statement is one of the tokens
pub fault_of_statement : (before : List Statement) (s : Statement) (kind : LitmusKind) → Has before s kind → HaveFault before (statement_lexemes s) kind
fault_of_statement before s BadLine h = λ t e. sym (alike_version (version_of before) s t (alike_statement s t e)) ∙ h
fault_of_statement before s kind h = (s, refl, h)

pub sound_said : (before : List Statement) (s : Statement) → IsFaultless before s → IsSound litmus_grammar before (statement_lexemes s)
sound_said before s faultless kind h = faultless kind (fault_of_tokens before s kind h)

pub first_said : (before : List Statement) (lexemes : List Lexeme) (s : Statement) (kind : LitmusKind) → lexemes ≡ statement_lexemes s → IsFirstKind before s kind
    → IsFirst (HaveFault before lexemes) kinds kind
first_said before lexemes s kind e (tried, others, cut, lacks, has) =
    subst (λ (ls : List Lexeme). IsFirst (HaveFault before ls) kinds kind) (sym e) (
      tried,
      others,
      cut,
      All-weaker (λ (k : LitmusKind). Has before s k → ⊥) (λ (k : LitmusKind). HaveFault before (statement_lexemes s) k → ⊥)
          (λ k none there. none (fault_of_tokens before s k there)) tried lacks,
      fault_of_statement before s kind has,
    )

-- tokens that are no statement which a file of this version has
pub first_none : (before : List Statement) (lexemes : List Lexeme) → HaveFault before lexemes BadLine → IsFirst (HaveFault before lexemes) kinds BadLine
first_none before lexemes h =
    ([], OutOfOrder ∷ NumberRange ∷ NotHere ∷ TooLong ∷ BadPredicate ∷ [], refl, All-nil (λ (k : LitmusKind). HaveFault before lexemes k → ⊥), h)
