-- Tokens are one expression, or none.
use Rattle.std.proofs.Common.{◌≡◌, ◌⊎◌, ℕ, List, Option, Some, None, MatchOption, sym, ◌∙◌, inl, inr, refl}
use Rattle.std.proofs.lemmas.Option.{none-some, same_Some}
use Rattle.lexeme_reader.specs.declared.reading.Lexeme.{Lexeme}
use Rattle.model_reader.specs.declared.expr.Expr.{Expr}
use Rattle.model_reader.specs.declared.words.Vocabulary.{Vocabulary}
use Rattle.model_reader.specs.Machine.{expression_of}
use Rattle.model_reader.specs.Faults.{Means, MeansNothing}
use Rattle.model_reader.proofs.Completing.{read_whole}
use Rattle.model_reader.proofs.Sounding.{whole_read}

pub meaning_told : (words : Vocabulary) (names : List (List ℕ)) (value : List Lexeme) (o : Option Expr) → o ≡ expression_of words names value
    → MatchOption o (MeansNothing words names value) (λ e. Means words names value e)
meaning_told words names value None is = λ e means. none-some e (is ∙ read_whole words names value e means)
meaning_told words names value (Some e) is = whole_read words names value e (sym is)

pub meaning_decided : (words : Vocabulary) (names : List (List ℕ)) (value : List Lexeme)
    → ((e : Expr) × Means words names value e) ⊎ MeansNothing words names value
meaning_decided words names value = by (expression_of words names value) refl
  where
    by : (o : Option Expr) → expression_of words names value ≡ o → ((e : Expr) × Means words names value e) ⊎ MeansNothing words names value
    by None is = inr (λ e means. none-some e (sym is ∙ read_whole words names value e means))
    by (Some e) is = inl (e, whole_read words names value e is)

pub one_meaning : (words : Vocabulary) (names : List (List ℕ)) (value : List Lexeme) (a b : Expr) → Means words names value a → Means words names value b → a ≡ b
one_meaning words names value a b h k = same_Some a b (sym (read_whole words names value a h) ∙ read_whole words names value b k)
