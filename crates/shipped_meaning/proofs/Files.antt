-- A file of a model, as it is computed line by line.
use Rattle.std.proofs.Common.{◌≡◌, ℕ, ◌+◌, ◌≤◌, List, [], ◌∷◌, ◌++◌, length, Option, Some, None, refl, sym, ◌∙◌, ap, subst, inr, append_assoc, append-nil, arith}
use Rattle.std.proofs.lemmas.Option.{none-some, same_Some}
use Rattle.text_scan.specs.Lines.{lines_of}
use Rattle.lexeme_reader.specs.declared.reading.Lexeme.{Lexeme}
use Rattle.line_files.specs.StatedLines.{Stated}
use Rattle.line_files.specs.TakenLines.{AreTaken}
use Rattle.line_files.proofs.GeneralStating.{taken_none, taken_more}
use Rattle.model_reader.specs.declared.draft.Stage.TheVariants as stage
use Rattle.model_reader.specs.declared.draft.Draft.{Draft}
use Rattle.model_reader.specs.Statements.{Statement, statement_lexemes}
use Rattle.model_reader.specs.ModelText.{model_grammar, IsModelText}
use Rattle.model_reader.specs.Drafts.{IsDraft}
use Rattle.model_reader.proofs.Finishing.{model_of, finished}
use Rattle.shipped_meaning.proofs.Scanning.{said_by, said}
use Rattle.shipped_meaning.proofs.Stating.{stated_by, stated_lexemes}
use Rattle.shipped_meaning.proofs.Keeping.{behind_statement, statement_taken}

-- the draft behind a line, by what the line says and then by what it states
abbrev pub behind_stated : Draft → Option Statement → Option Draft
behind_stated d None = None
behind_stated d (Some s) = behind_statement d s

abbrev pub behind_said : Draft → Option (List Lexeme) → Option Draft
behind_said d None = None
behind_said d (Some tokens) = behind_stated d (stated_by tokens)

-- the draft behind lines
abbrev pub behind_lines : Option Draft → List (List ℕ) → Option Draft
behind_lines None lines = None
behind_lines (Some d) [] = Some d
behind_lines (Some d) (line ∷ lines) = behind_lines (behind_said d (said_by line)) lines

-- a draft of which nothing is read yet
abbrev pub empty_draft : Draft
empty_draft = record { stage = stage.BeforeHead; name = []; version = 1; names = []; lets = []; keeps = [] }

empty_kept : IsDraft [] empty_draft
empty_kept = record {
  stands = (refl, refl);
  names = refl;
  few_names = omega arith;
  keeps = refl;
  few_keeps = omega arith;
  rules = (refl, refl);
}

-- the lines have no fault, and the draft keeps them
abbrev Keeps : Draft → List (Stated Statement) → Type 0
Keeps d stated = IsDraft stated d

abbrev Taken : List (List ℕ) → Draft → Type 0
Taken lines d = AreTaken model_grammar (Keeps d) lines

stated_taken : (lines : List (List ℕ)) (line : List ℕ) (d e : Draft) (tokens : List Lexeme) (o : Option Statement) → Taken lines d → said_by line ≡ Some tokens
    → stated_by tokens ≡ o → behind_stated d o ≡ Some e → Taken (lines ++ line ∷ []) e
stated_taken lines line d e tokens None h says states is = absurd (none-some e is)
stated_taken lines line d e tokens (Some s) h says states is =
    let (sound, kept) = statement_taken h.stated d h.kept (1 + length lines) s e is in
    taken_more model_grammar (Keeps d) (Keeps e) lines line (1 + length lines) h refl
    (inr (s, said line (statement_lexemes s) (says ∙ ap Some (stated_lexemes tokens s states)), sound, kept))

line_taken : (lines : List (List ℕ)) (line : List ℕ) (d e : Draft) (o : Option (List Lexeme)) → Taken lines d → said_by line ≡ o → behind_said d o ≡ Some e
    → Taken (lines ++ line ∷ []) e
line_taken lines line d e None h says is = absurd (none-some e is)
line_taken lines line d e (Some tokens) h says is = stated_taken lines line d e tokens (stated_by tokens) h says refl is

-- so far as there is a draft
abbrev TakenTo : List (List ℕ) → Option Draft → Type 0
TakenTo lines None = Unit {0}
TakenTo lines (Some d) = Taken lines d

taken_to : (lines : List (List ℕ)) (line : List ℕ) (d : Draft) (o : Option Draft) → Taken lines d → behind_said d (said_by line) ≡ o → TakenTo (lines ++ line ∷ []) o
taken_to lines line d None h is = tt
taken_to lines line d (Some e) h is = line_taken lines line d e (said_by line) h refl is

lines_taken : (before lines : List (List ℕ)) (o : Option Draft) (e : Draft) → TakenTo before o → behind_lines o lines ≡ Some e → Taken (before ++ lines) e
lines_taken before lines None e h is = absurd (none-some e is)
lines_taken before [] (Some d) e h is =
    subst (λ (ls : List (List ℕ)). Taken ls e) (sym (append-nil before)) (subst (λ (x : Draft). Taken before x) (same_Some d e is) h)
lines_taken before (line ∷ lines) (Some d) e h is =
    let o = behind_said d (said_by line) in
    subst (λ (ls : List (List ℕ)). Taken ls e) (append_assoc before (line ∷ []) lines)
    (lines_taken (before ++ line ∷ []) lines o e (taken_to before line d o h refl) is)

-- bytes whose lines end a draft are its model
pub file_read : (bytes : List ℕ) (lines : List (List ℕ)) (e : Draft) → length bytes ≤ 65536 → lines_of bytes ≡ lines
    → behind_lines (Some empty_draft) lines ≡ Some e → e.stage ≡ stage.BehindEnd → IsModelText bytes (model_of e)
file_read bytes lines e fits cut is ends =
    let all : Taken (lines_of bytes) e =
    subst (λ (ls : List (List ℕ)). Taken ls e) (sym cut) (lines_taken [] lines (Some empty_draft) e (taken_none model_grammar (Keeps empty_draft) empty_kept) is) in
    (fits, all.stated, all.read, finished all.stated e all.kept all.sound ends)
