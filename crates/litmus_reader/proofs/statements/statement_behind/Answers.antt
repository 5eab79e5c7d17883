use Rattle.std.proofs.Common.{◌≡◌, List, ◌∷◌, Option, MatchOption, sym, ap₂, subst}
use Rattle.std.proofs.lemmas.Bool.{MatchBool-at_true, MatchBool-at_false}
use Rattle.std.proofs.lemmas.Option.{MatchOption-at_some}
use Rattle.lexeme_reader.specs.declared.reading.Lexeme.{Lexeme}
use Rattle.lexeme_reader.specs.declared.reading.Lexeme.TheVariants.{Word}
use Rattle.litmus_reader.specs.declared.keywords.Keyword.{Keyword}
use Rattle.litmus_reader.specs.declared.statements.Said.{Said}
use Rattle.litmus_reader.specs.declared.statements.Said.TheVariants as said
use Rattle.litmus_reader.specs.Keywords.{keyword_text}
use Rattle.litmus_reader.specs.Statements.{Statement, statement_lexemes}
use Rattle.litmus_reader.specs.Read.{statement_of, IsRead}
use Rattle.litmus_reader.proofs.Leading.{setup_told, body_told}
use Rattle.litmus_reader.proofs.Exact.{read_called, read_if}
use Rattle.litmus_reader.proofs.statements.statement_behind.Goals as goal

pub returns-in-Some : goal.returns-in-Some
returns-in-Some c = read_called _ c.in-Some.call (MatchOption-at_some _ _ _ c.in-Some.is c.in_ok-call_of-in_default.ensures)

pub returns-in-Setup : goal.returns-in-Setup
returns-in-Setup c =
    subst (λ (o : Option Said). MatchOption o ((s : Statement) → Word (keyword_text c.args.name) ∷ c.args.rest.now ≡ statement_lexemes s → ⊥)
    (λ said. IsRead (Word (keyword_text c.args.name) ∷ c.args.rest.now) (statement_of said))) (sym c.then_some.ensures)
    (read_if c.is_colon.result (Word (keyword_text c.args.name) ∷ c.args.rest.now) said.Setup ((s : Statement) → Word (keyword_text c.args.name) ∷ c.args.rest.now ≡ statement_lexemes s → ⊥)
    (λ e. ap₂ (λ (k : Keyword) (ls : List Lexeme). Word (keyword_text k) ∷ ls) c.in-Setup.is (MatchBool-at_true _ _ e c.is_colon.ensures))
    (λ e s is. MatchBool-at_false _ _ e c.is_colon.ensures (setup_told c.args.name c.args.rest.now s c.in-Setup.is is)))

pub returns-in-Body : goal.returns-in-Body
returns-in-Body c =
    subst (λ (o : Option Said). MatchOption o ((s : Statement) → Word (keyword_text c.args.name) ∷ c.args.rest.now ≡ statement_lexemes s → ⊥)
    (λ said. IsRead (Word (keyword_text c.args.name) ∷ c.args.rest.now) (statement_of said))) (sym c.then_some-in-Body.ensures)
    (read_if c.is_colon-in-Body.result (Word (keyword_text c.args.name) ∷ c.args.rest.now) said.Body ((s : Statement) → Word (keyword_text c.args.name) ∷ c.args.rest.now ≡ statement_lexemes s → ⊥)
    (λ e. ap₂ (λ (k : Keyword) (ls : List Lexeme). Word (keyword_text k) ∷ ls) c.in-Body.is (MatchBool-at_true _ _ e c.is_colon-in-Body.ensures))
    (λ e s is. MatchBool-at_false _ _ e c.is_colon-in-Body.ensures (body_told c.args.name c.args.rest.now s c.in-Body.is is)))
