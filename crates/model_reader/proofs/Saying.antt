-- The fault of a statement is that of the tokens that say it.
use Rattle.std.proofs.Common.{◌≡◌, ◌⊎◌, ◌<◌, List, [], ◌∷◌, refl, sym, ◌∙◌, ap, subst, inl, inr}
use Rattle.std.proofs.lemmas.List.Elements.{All-nil, All-cons, All-weaker}
use Rattle.lexeme_reader.specs.declared.reading.Lexeme.{Lexeme}
use Rattle.lexeme_reader.specs.Parentheses.{most_open}
use Rattle.line_files.specs.FirstFaults.{IsFirst, IsSound}
use Rattle.model_reader.specs.declared.fault.ModelKind.{ModelKind}
use Rattle.model_reader.specs.declared.fault.ModelKind.TheVariants.{BadByte, BadToken, BadLine, UnknownName, NameTaken, UnknownKind, TooDeep, EndsEarly, TooMany, TooLong}
use Rattle.model_reader.specs.Statements.{Statement, statement_lexemes}
use Rattle.model_reader.specs.Faults.{IsMisplaced, IsForeign, AreTooMany, Has, HaveFault}
use Rattle.model_reader.specs.ModelText.{kinds, model_grammar}
use Rattle.model_reader.specs.Drafts.{IsFirstKind}
use Rattle.model_reader.proofs.Telling.{one_statement}

-- tokens that aren't too deep nor too many
pub record AreFew (before : List Statement) (lexemes : List Lexeme) : Type 0 where
  pub shallow : 64 < most_open 0 lexemes → ⊥
  pub few : AreTooMany before lexemes → ⊥

-- a fault of the tokens is one of the statement that they are
pub fault_of_tokens : (before : List Statement) (s : Statement) (kind : ModelKind) → AreFew before (statement_lexemes s)
    → HaveFault before (statement_lexemes s) kind → Has before s kind
fault_of_tokens before s TooDeep few h = few.shallow h
fault_of_tokens before s TooMany few h = few.few h
fault_of_tokens before s BadLine few h = h s refl
fault_of_tokens before s BadByte few (t, e, has) = has
fault_of_tokens before s BadToken few (t, e, has) = has
fault_of_tokens before s EndsEarly few (t, e, has) = has
fault_of_tokens before s TooLong few (t, e, has) = has
fault_of_tokens before s UnknownName few (t, e, has) = subst (λ (u : Statement). Has before u UnknownName) (sym (one_statement s t e)) has
fault_of_tokens before s UnknownKind few (t, e, has) = subst (λ (u : Statement). Has before u UnknownKind) (sym (one_statement s t e)) has
fault_of_tokens before s NameTaken few (t, e, has) = subst (λ (u : Statement). Has before u NameTaken) (sym (one_statement s t e)) has

-- a fault of the statement is one of the tokens
fault_of_statement : (before : List Statement) (s : Statement) (kind : ModelKind) → Has before s kind → HaveFault before (statement_lexemes s) kind
fault_of_statement before s TooDeep h = absurd h
fault_of_statement before s TooMany h = absurd h
fault_of_statement before s BadLine h = λ t e. subst (λ (u : Statement). Has before u BadLine) (one_statement s t e) h
fault_of_statement before s kind h = (s, refl, h)

pub sound_said : (before : List Statement) (s : Statement) → AreFew before (statement_lexemes s) → ((kind : ModelKind) → Has before s kind → ⊥)
    → IsSound model_grammar before (statement_lexemes s)
sound_said before s few faultless kind h = faultless kind (fault_of_tokens before s kind few h)

abbrev Lacks : List Statement → List Lexeme → ModelKind → Type 0
Lacks before lexemes kind = HaveFault before lexemes kind → ⊥

pub first_said : (before : List Statement) (lexemes : List Lexeme) (s : Statement) (kind : ModelKind) → lexemes ≡ statement_lexemes s → AreFew before lexemes
    → IsFirstKind before s kind → IsFirst (HaveFault before lexemes) kinds kind
first_said before lexemes s kind e few (tried, others, cut, lacks, has) =
    let small = subst (AreFew before) e few in
    let P = Lacks before (statement_lexemes s) in
    subst (λ (ls : List Lexeme). IsFirst (HaveFault before ls) kinds kind) (sym e) (
      TooDeep ∷ TooMany ∷ tried,
      others,
      ap (λ (ks : List ModelKind). TooDeep ∷ TooMany ∷ ks) cut,
      All-cons P TooDeep (TooMany ∷ tried) small.shallow (All-cons P TooMany tried small.few
          (All-weaker (λ (k : ModelKind). Has before s k → ⊥) P (λ k none there. none (fault_of_tokens before s k small there)) tried lacks)),
      fault_of_statement before s kind has,
    )

pub first_deep : (before : List Statement) (lexemes : List Lexeme) → 64 < most_open 0 lexemes → IsFirst (HaveFault before lexemes) kinds TooDeep
first_deep before lexemes h =
    ([], TooMany ∷ BadLine ∷ UnknownName ∷ UnknownKind ∷ NameTaken ∷ [], refl, All-nil (Lacks before lexemes), h)

pub first_many : (before : List Statement) (lexemes : List Lexeme) → (64 < most_open 0 lexemes → ⊥) → AreTooMany before lexemes
    → IsFirst (HaveFault before lexemes) kinds TooMany
first_many before lexemes shallow h =
    (TooDeep ∷ [], BadLine ∷ UnknownName ∷ UnknownKind ∷ NameTaken ∷ [], refl, All-cons (Lacks before lexemes) TooDeep [] shallow (All-nil (Lacks before lexemes)), h)

pub first_none : (before : List Statement) (lexemes : List Lexeme) → AreFew before lexemes → ((s : Statement) → lexemes ≡ statement_lexemes s → Has before s BadLine)
    → IsFirst (HaveFault before lexemes) kinds BadLine
first_none before lexemes few h =
    let P = Lacks before lexemes in
    (TooDeep ∷ TooMany ∷ [], UnknownName ∷ UnknownKind ∷ NameTaken ∷ [], refl, All-cons P TooDeep (TooMany ∷ []) few.shallow (All-cons P TooMany [] few.few (All-nil P)), h)

-- what is misplaced or foreign as a statement is so as tokens
pub barred_said : (before : List Statement) (lexemes : List Lexeme) (s : Statement) → lexemes ≡ statement_lexemes s → IsMisplaced before s ⊎ IsForeign before s
    → (t : Statement) → lexemes ≡ statement_lexemes t → Has before t BadLine
barred_said before lexemes s e bad t at = subst (λ (u : Statement). Has before u BadLine) (one_statement s t (sym e ∙ at)) (bad_line bad)
  where
    bad_line : IsMisplaced before s ⊎ IsForeign before s → Has before s BadLine
    bad_line (inl misplaced) = inl misplaced
    bad_line (inr foreign) = inr (inl foreign)
