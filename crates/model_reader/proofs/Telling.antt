-- Tokens are one statement of a model file at most, and whether they are one is decided.
use Rattle.std.proofs.Common.{◌≡◌, ◌⊎◌, ℕ, true, false, List, [], ◌∷◌, Option, Some, None, codes, refl, sym, ◌∙◌, ap, inl, inr}
use Rattle.std.proofs.lemmas.Option.{none-some, same_Some}
use Rattle.lexeme_reader.specs.declared.reading.Lexeme.{Lexeme}
use Rattle.lexeme_reader.specs.declared.reading.Lexeme.TheVariants.{Word, Number, Sign}
use Rattle.lexeme_reader.proofs.GeneralTokens.{tokens_equal}
use Rattle.model_reader.specs.Words.{looked_up}
use Rattle.model_reader.specs.Statements.{Statement, Head, Let, Keep, End, statement_lexemes}

-- a statement of the form that a first word asks for, each with its tokens left out
abbrev forms : List (List ℕ × Statement)
forms = (codes "model", Head [] None) ∷ (codes "let", Let false [] []) ∷ (codes "keep", Keep []) ∷ (codes "end", End) ∷ []

-- the statement that tokens behind a first word tell, if they are one
told_behind : Option Statement → List Lexeme → Option Statement
told_behind (Some (Head n v)) (Word name ∷ []) = Some (Head name None)
told_behind (Some (Head n v)) (Word name ∷ Number version ∷ []) = Some (Head name version)
told_behind (Some (Let r n v)) (Word name ∷ Sign sign ∷ value) = Some (Let false name value)
told_behind (Some (Let r n v)) (Word word ∷ Word name ∷ Sign sign ∷ value) = Some (Let true name value)
told_behind (Some (Keep v)) value = Some (Keep value)
told_behind (Some End) rest = Some End
told_behind form rest = None

told : List Lexeme → Option Statement
told (Word word ∷ rest) = told_behind (looked_up forms word) rest
told lexemes = None

told_back : (s : Statement) → told (statement_lexemes s) ≡ Some s
unfolding told told_behind
told_back (Head name None) = refl
told_back (Head name (Some version)) = refl
told_back (Let false name value) = refl
told_back (Let true name value) = refl
told_back (Keep value) = refl
told_back End = refl

pub one_statement : (s t : Statement) → statement_lexemes s ≡ statement_lexemes t → s ≡ t
one_statement s t e = same_Some s t (sym (told_back s) ∙ ap told e ∙ told_back t)

pub no_statement_blank : (s : Statement) → statement_lexemes s ≡ [] → ⊥
no_statement_blank (Head name None) e = absurd cc
no_statement_blank (Head name (Some version)) e = absurd cc
no_statement_blank (Let false name value) e = absurd cc
no_statement_blank (Let true name value) e = absurd cc
no_statement_blank (Keep value) e = absurd cc
no_statement_blank End e = absurd cc

decided_by : (tokens : List Lexeme) (o : Option Statement) → told tokens ≡ o
    → ((s : Statement) × (tokens ≡ statement_lexemes s)) ⊎ ((s : Statement) → tokens ≡ statement_lexemes s → ⊥)
decided_by tokens None is = inr (λ s e. none-some s (sym is ∙ ap told e ∙ told_back s))
decided_by tokens (Some s) is = elim (tokens_equal tokens (statement_lexemes s)) [
  | inl same ↦ inl (s, same)
  | inr other ↦ inr (λ t e. other (e ∙ ap statement_lexemes (same_Some t s (sym (told_back t) ∙ ap told (sym e) ∙ is))))
]

-- tokens are a statement, or they are none
pub statement_decided : (tokens : List Lexeme) → ((s : Statement) × (tokens ≡ statement_lexemes s)) ⊎ ((s : Statement) → tokens ≡ statement_lexemes s → ⊥)
statement_decided tokens = decided_by tokens (told tokens) refl
