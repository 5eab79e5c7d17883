-- What a draft has at the end of the file.
use Rattle.std.proofs.Common.{◌≡◌, ◌≢◌, ℕ, ◌<◌, List, [], ◌∷◌, length, refl, sym, ◌∙◌, ap, ap₂, subst, arith}
use Rattle.std.specs.List.{All, Contains}
use Rattle.std.proofs.lemmas.List.Elements.{All-nil, All-cons, All-head, All-tail, All-contains, Contains-push}
use Rattle.line_files.specs.StatedLines.{Stated, stated_in, statements}
use Rattle.line_files.specs.FirstFaults.{AreSound}
use Rattle.line_files.specs.Refusals.{IsUnended}
use Rattle.line_files.proofs.GeneralReadings.{IsMade, IsTold}
use Rattle.model_reader.specs.declared.expr.Expr.{Expr}
use Rattle.model_reader.specs.declared.model.Definition.{Definition}
use Rattle.model_reader.specs.declared.model.Model.{Model}
use Rattle.model_reader.specs.declared.draft.Stage.{Stage}
use Rattle.model_reader.specs.declared.draft.Stage.TheVariants as stage
use Rattle.model_reader.specs.declared.draft.Draft.{Draft}
use Rattle.model_reader.specs.Statements.{Statement, Head, End, version_named}
use Rattle.model_reader.specs.ModelText.{model_grammar, IsModel}
use Rattle.model_reader.specs.Drafts.{StandsAt, IsDraft}
use Rattle.model_reader.proofs.Listing.{one_rules}
use Rattle.model_reader.proofs.Telling.{one_statement, no_statement_blank}

-- the model of a draft
abbrev pub model_of : Draft → Model
model_of d = record { name = d.name; lets = d.lets; keeps = d.keeps; version = d.version }

pub finished : (stated : List (Stated Statement)) (d : Draft) → IsDraft stated d → AreSound model_grammar stated → d.stage ≡ stage.BehindEnd
    → IsModel stated (model_of d)
finished stated d h sound at =
    let ((line, number, behind, head, version), before, end_line, end) = subst (λ (p : Stage). StandsAt p stated d) at h.stands in
    record {
      head_line = line;
      number = number;
      behind_head = behind;
      before_end = before;
      end_line = end_line;
      sound = sound;
      head = head;
      end = end;
      version = version;
      rules = h.rules;
    }

-- no statement that is none of these ends the file
each_other : (stated : List (Stated Statement)) → All (λ (t : Statement). t ≢ End) (statements stated) → All (λ (t : Stated Statement). t.statement ≢ End) stated
each_other [] all = All-nil (λ (t : Stated Statement). t.statement ≢ End)
each_other (s ∷ ss) all =
    All-cons (λ (t : Stated Statement). t.statement ≢ End) s ss (All-head (λ (t : Statement). t ≢ End) s.statement (statements ss) all)
    (each_other ss (All-tail (λ (t : Statement). t ≢ End) s.statement (statements ss) all))

unended_all : (stated : List (Stated Statement)) → All (λ (t : Statement). t ≢ End) (statements stated) → IsUnended model_grammar stated
unended_all stated all s there is = All-contains (λ (t : Stated Statement). t.statement ≢ End) stated s (each_other stated all) there is

unended_at : (p : Stage) (stated : List (Stated Statement)) (d : Draft) → StandsAt p stated d → p ≢ stage.BehindEnd → IsUnended model_grammar stated
unended_at stage.BeforeHead stated d (none, version) other s there is =
    let within : 0 < length stated = omega (arith, there.1) in
    absurd (omega (arith, ap (λ (st : List (Stated Statement)). length st) none))
unended_at stage.Rules stated d (head, still) other s there is = unended_all stated still s there is
unended_at stage.BehindEnd stated d h other s there is = absurd (other refl)

pub unended : (stated : List (Stated Statement)) (d : Draft) → IsDraft stated d → d.stage ≢ stage.BehindEnd → IsUnended model_grammar stated
unended stated d h other = unended_at d.stage stated d h.stands other

-- statements of a file make one model, of statements without a fault, the last of which ends the file
same_head : (stated : List (Stated Statement)) (a b : Model) → IsModel stated a → IsModel stated b → (a.name ≡ b.name) × (a.version ≡ b.version)
same_head stated a b h g =
    let both : stated_in h.head_line (Head a.name h.number) ∷ h.behind_head ≡ stated_in g.head_line (Head b.name g.number) ∷ g.behind_head = sym h.head ∙ g.head in
    let first : stated_in h.head_line (Head a.name h.number) ≡ stated_in g.head_line (Head b.name g.number) = cc in
    let one : Head a.name h.number ≡ Head b.name g.number = ap (λ (t : Stated Statement). t.statement) first in
    let name : a.name ≡ b.name = cc in
    let number : h.number ≡ g.number = cc in
    (name, h.version ∙ ap version_named number ∙ sym g.version)

one_model : (stated : List (Stated Statement)) (a b : Model) → IsModel stated a → IsModel stated b → a ≡ b
one_model stated a b h g =
    let (name, version) = same_head stated a b h g in
    let (lets, keeps) = one_rules [] 0 (statements stated) a.lets b.lets a.keeps b.keeps h.rules g.rules in
    same_model name version lets keeps
  where
    same_model : a.name ≡ b.name → a.version ≡ b.version → a.lets ≡ b.lets → a.keeps ≡ b.keeps → a ≡ b
    same_model name version lets keeps =
        ap₂ (λ (n : List ℕ) (v : ℕ). record { name = n; lets = a.lets; keeps = a.keeps; version = v }) name version
        ∙ ap₂ (λ (ls : List Definition) (es : List Expr). record { name = b.name; lets = ls; keeps = es; version = b.version }) lets keeps

pub made : IsMade model_grammar IsModel
made = record {
  one = one_model;
  sound = λ stated a h. h.sound;
  ends = λ stated a h. (
    stated_in h.end_line End,
    subst (λ (st : List (Stated Statement)). Contains st (stated_in h.end_line End)) (sym h.end) (Contains-push h.before_end (stated_in h.end_line End)),
    refl,
  );
}

-- tokens are one statement at most
pub told : IsTold model_grammar
told = record { some = no_statement_blank; one = λ before s t sound e. one_statement s t e }
