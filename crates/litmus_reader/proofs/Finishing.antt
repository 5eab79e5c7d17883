-- What a draft has at the end of the file.
use Rattle.std.proofs.Common.{◌≡◌, ℕ, zero, suc, ◌<◌, Bool, List, [], ◌∷◌, ◌++◌, length, get_or, Option, Some, None, sym, ◌∙◌, ap, subst, arith}
use Rattle.std.specs.List.{Contains}
use Rattle.std.specs.Option.{option_and_then}
use Rattle.std.proofs.lemmas.Option.{none-some, same_Some}
use Rattle.litmus_syntax.specs.Test.{Test}
use Rattle.litmus_syntax.specs.Limits.{IsWithinLimits}
use Rattle.lexeme_reader.specs.declared.reading.Lexeme.{Lexeme}
use Rattle.litmus_reader.specs.declared.statements.Form.{Form}
use Rattle.litmus_reader.specs.declared.statements.Form.TheVariants as form
use Rattle.litmus_reader.specs.declared.stages.Stage.{Stage}
use Rattle.litmus_reader.specs.declared.stages.Stage.TheVariants.{Start, BehindHead, BehindBlock, BehindSector, InSetup, InBody, End}
use Rattle.litmus_reader.specs.declared.draft.Draft.{Draft}
use Rattle.litmus_reader.specs.declared.draft.Asked.{Asked}
use Rattle.litmus_reader.specs.Stages.{stage_behind, run}
use Rattle.line_files.specs.Refusals.{IsUnended}
use Rattle.litmus_reader.specs.LitmusText.{litmus_grammar}
use Rattle.litmus_reader.specs.Statements.{Statement, Question}
use Rattle.line_files.specs.StatedLines.{stated_in}
use Rattle.litmus_reader.specs.StatedLines.{Stated}
use Rattle.litmus_reader.specs.WholeFiles.{IsTest}
use Rattle.litmus_reader.specs.Drafts.{StandsAt, IsDraft}
use Rattle.litmus_reader.proofs.Orders.{run_append}
use Rattle.litmus_reader.proofs.Fronts.{forms, forms-append}
use Rattle.litmus_reader.proofs.Keeping.{kept_limits}
use Rattle.litmus_reader.proofs.Below.{KeptLaws}

-- a list is cut at what it contains
pub cut_there : {X : Type 0} (xs : List X) (x : X) (k : ℕ) → k < length xs → get_or xs k x ≡ x → (before behind : List X) × (xs ≡ before ++ x ∷ behind)
cut_there [] x k within at = absurd (omega arith)
cut_there (y ∷ ys) x zero within at = ([], ys, ap (λ z. z ∷ ys) at)
cut_there (y ∷ ys) x (suc k) within at =
    let (before, behind, is) = cut_there ys x k (omega arith) at in
    (y ∷ before, behind, ap (λ zs. y ∷ zs) is)

-- nothing stands behind the end
run_end : (fs : List Form) (p : Stage) → run End fs ≡ Some p → p ≡ End
run_end [] p e = sym (same_Some End p e)
run_end (f ∷ fs) p e = absurd (none-some p e)

run_question : (q p : Stage) (fs : List Form) → option_and_then (λ r. run r fs) (stage_behind q form.Question) ≡ Some p → p ≡ End
run_question InBody p fs e = run_end fs p e
run_question q p fs e = absurd (none-some p e)

run_asked_at : (o : Option Stage) (fs : List Form) (p : Stage) → option_and_then (λ q. run q (form.Question ∷ fs)) o ≡ Some p → p ≡ End
run_asked_at None fs p e = absurd (none-some p e)
run_asked_at (Some q) fs p e = run_question q p fs e

-- behind a question the file is at its end
asked_at_end : (stated : List Stated) (p : Stage) (line : ℕ) (want : Bool) (asked : List Lexeme) → run Start (forms stated) ≡ Some p
    → Contains stated (stated_in line (Question want asked)) → p ≡ End
asked_at_end stated p line want asked at (k, within, there) =
    let (before, behind, is) = cut_there stated (stated_in line (Question want asked)) k within there in
    run_asked_at (run Start (forms before)) (forms behind) p
    (sym (run_append Start (forms before) (form.Question ∷ forms behind))
    ∙ ap (run Start) (sym (forms-append before (stated_in line (Question want asked) ∷ behind)))
    ∙ ap (λ (st : List Stated). run Start (forms st)) (sym is) ∙ at)

has_question : (stated : List Stated) (d : Draft) → StandsAt End stated d → d.question ≡ None → ⊥
has_question stated d (front, setup, line, f, s, asked, q, is, question, short, pred, closed) none = none-some q (sym none ∙ question)

-- without a question in the draft there was none in the lines
pub unasked : (stated : List Stated) (d : Draft) → IsDraft stated d → d.question ≡ None
    → IsUnended litmus_grammar stated
unasked stated d h none s there (want, asked, is) =
    let question = subst (λ (u : Statement). Contains stated (stated_in s.line u)) is there in
    let at = asked_at_end stated d.stage s.line want asked h.reached question in
    has_question stated d (subst (λ (p : Stage). StandsAt p stated d) at h.stands) none

at_end : (p : Stage) (stated : List Stated) (d : Draft) (q : Asked) → StandsAt p stated d → d.question ≡ Some q → StandsAt End stated d
at_end Start stated d q (none, block, sector, callless) some = absurd (none-some q (sym callless.2 ∙ some))
at_end BehindHead stated d q (line, number, is, v, b, t, callless) some = absurd (none-some q (sym callless.2 ∙ some))
at_end BehindBlock stated d q (head, line, number, is, v, t, callless) some = absurd (none-some q (sym callless.2 ∙ some))
at_end BehindSector stated d q h some = absurd (none-some q (sym h.1.2 ∙ some))
at_end InSetup stated d q (front, line, f, is, body, unasked) some = absurd (none-some q (sym unasked ∙ some))
at_end InBody stated d q (front, setup, line, f, s, is, unasked) some = absurd (none-some q (sym unasked ∙ some))
at_end End stated d q h some = h

-- the test that a draft with a question is
abbrev pub test_of : Draft → Asked → Test
test_of d q = record {
  name = d.name;
  block = d.block;
  setup = d.setup;
  body = d.body;
  want = q.want;
  pred = q.pred;
  pred_line = q.line;
  version = d.version;
  sector = d.sector;
}

test_at : (stated : List Stated) (d : Draft) → IsDraft stated d → (e : StandsAt End stated d) → IsTest stated (test_of d (e.6))
test_at stated d h (front, setup, line, f, s, asked, q, is, question, short, pred, closed) =
    let changes = h.changes in
    record {
      front_part = front;
      setup_part = setup;
      body_line = line;
      asked = asked;
      order = is;
      front = f;
      setup = s;
      pred = pred;
      of_version = h.of_version;
      narrow = h.narrow;
      some_sector = h.some_sector;
      small_sector = h.small_sector;
      small_block = h.small_block;
      setup_calls = h.setup;
      body_calls = h.body;
      placed = h.placed;
      closed = closed;
      few_setup = h.few_setup;
      few_body = omega (arith, h.few_body);
      short = short;
    }

pub finished : (stated : List Stated) (d : Draft) (q : Asked) → IsDraft stated d → d.question ≡ Some q → IsTest stated (test_of d q)
finished stated d q h some =
    let e = at_end d.stage stated d q h.stands some in
    let same : e.6 ≡ q = same_Some (e.6) q (sym e.8 ∙ some) in
    subst (λ (a : Asked). IsTest stated (test_of d a)) same (test_at stated d h e)

-- and it keeps to the limits
pub limits : (laws : KeptLaws) (stated : List Stated) (d : Draft) (q : Asked) → IsDraft stated d → d.question ≡ Some q → IsWithinLimits (test_of d q)
limits laws stated d q h some = kept_limits laws stated (test_of d q) h.formed (finished stated d q h some)
