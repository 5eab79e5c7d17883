use Rattle.std.proofs.Common.{ℕ, List, [], Option, subst}
use Rattle.fer_outside.specs.Held.{Held}
use Rattle.fer_outside.specs.Causes.{Rose}
use Rattle.ferrite_run.specs.Done.{Done, Tells}
use Rattle.ferrite_run.specs.Reading.{OnLitmus, OnModel}
use Rattle.ferrite_run.specs.Asking.{IsUnresolved, OnQuestion}
use Rattle.ferrite_run.specs.Yields.{IsModelOf}
use Rattle.ferrite_run.proofs.Asked.{rose_before, no_litmus, no_model, no_events}
use Rattle.ferrite_run.proofs.Ready.{stops_more, passed_on}
use Rattle.ferrite_run.proofs.asking.question_of.Goals as goal

pub returns-in_err-test-clause-unasked : goal.returns-in_err-test-clause-unasked
returns-in_err-test-clause-unasked g c =
    let told = g.L.Library.held c.args.library.now in
    let rose : List ℕ → Type 0 = λ other. Rose (g.L.Library.faults c.args.library.now other) (g.L.Library.faults c.litmus_of.new.library other) in
    passed_on c.from_residual.result c.in_err-test.field-0.0 (OnQuestion told rose c.args.litmus.now c.args.model.now (λ _ _. ⊥))
    c.from_residual.ensures.1
    (stops_more (OnLitmus told rose c.args.litmus.now (λ _ _. ⊥)) _ c.in_err-test.field-0.0
    (λ a h. no_litmus told rose c.args.litmus.now c.args.model.now (λ _ _. ⊥) a h) c.in_err-test.ensures.unread)

pub returns-in_err-model-clause-unasked : goal.returns-in_err-model-clause-unasked
returns-in_err-model-clause-unasked g c =
    let told = g.L.Library.held c.args.library.now in
    let mid = c.litmus_of.new.library in
    let now = c.model_of.new.library in
    let rose : List ℕ → Type 0 = λ other. Rose (g.L.Library.faults mid other) (g.L.Library.faults now other) in
    let more : List ℕ → Type 0 = λ other. Rose (g.L.Library.faults c.args.library.now other) (g.L.Library.faults now other) in
    let P : Done → Option Held → Type 0 = λ a t. OnModel t rose c.args.model.now (λ _ _. ⊥) a in
    passed_on c.from_residual-in_err-model.result c.in_err-model.field-0.0 (OnQuestion told more c.args.litmus.now c.args.model.now (λ _ _. ⊥))
    c.from_residual-in_err-model.ensures.1
    (stops_more (OnModel (g.L.Library.held mid) rose c.args.model.now (λ _ _. ⊥)) _ c.in_err-model.field-0.0
    (λ a h. no_model told rose more c.args.litmus.now c.args.model.now (λ _ _. ⊥) c.in_ok-test.test a
    (λ name r. rose_before _ _ _ (c.litmus_of.ensures.never_falls name) r) c.in_ok-test.ensures.read (subst (P a) c.litmus_of.ensures.stays h))
    c.in_err-model.ensures.unread)

pub returns-in_err-question-clause-unasked : goal.returns-in_err-question-clause-unasked
returns-in_err-question-clause-unasked g c =
    let told = g.L.Library.held c.args.library.now in
    let more : List ℕ → Type 0 = λ other. Rose (g.L.Library.faults c.args.library.now other) (g.L.Library.faults c.model_of.new.library other) in
    let P : Option Held → Type 0 = λ t. IsModelOf t c.args.model.now c.in_ok-model.model in
    passed_on c.from_residual-in_err-question.result c.in_err-question.field-0.0 (OnQuestion told more c.args.litmus.now c.args.model.now (λ _ _. ⊥))
    c.from_residual-in_err-question.ensures.1
    (stops_more (Tells (IsUnresolved c.in_ok-test.test [])) _ c.in_err-question.field-0.0
    (λ a h. no_events told more c.args.litmus.now c.args.model.now (λ _ _. ⊥) c.in_ok-test.test c.in_ok-model.model a
    c.in_ok-test.ensures.read (subst P c.litmus_of.ensures.stays c.in_ok-model.ensures.read) h)
    c.in_err-question.ensures.unasked)

pub returns-clause-asked : goal.returns-clause-asked
returns-clause-asked g c =
    let P : Option Held → Type 0 = λ t. IsModelOf t c.args.model.now c.in_ok-model.model in
    record {
      test = c.in_ok-test.test;
      model = c.in_ok-model.model;
      litmus_read = c.in_ok-test.ensures.read;
      model_read = subst P c.litmus_of.ensures.stays c.in_ok-model.ensures.read;
      asked = c.in_ok-question.ensures.asked;
    }
