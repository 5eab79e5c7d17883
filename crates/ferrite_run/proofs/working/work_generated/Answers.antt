use Rattle.std.proofs.Common.{◌≡◌, ℕ, [], ◌∙◌, ap, sym, subst}
use Rattle.litmus_syntax.specs.Test.{Test}
use Rattle.litmus_syntax.specs.declared.site.SiteKind.TheVariants.{Sync}
use Rattle.model_library.specs.declared.texts.ShippedModel.TheVariants.{Ext4like}
use Rattle.model_library.specs.Generated.{generated}
use Rattle.model_library.specs.ShippedModels.{shipped_text}
use Rattle.model_reader.specs.declared.model.Model.{Model}
use Rattle.ferrite_run.specs.declared.question.Question.{Question}
use Rattle.ferrite_run.specs.Asking.{OnRead, IsUnresolved}
use Rattle.ferrite_run.specs.Done.{Done, Tells}
use Rattle.ferrite_run.specs.Reading.{ReadModel}
use Rattle.ferrite_run.specs.Sites.{ListSites}
use Rattle.ferrite_run.specs.Steps.Step.{ends, goes_on}
use Rattle.ferrite_run.specs.Working.{IsWorkedBy}
use Rattle.ferrite_run.specs.Yields.{IsAskedOf}
use Rattle.ferrite_run.proofs.Asked.{on_read}
use Rattle.ferrite_run.proofs.Ready.{stops_more, replies_more, reply_passed_on}
use Rattle.ferrite_run.proofs.working.work_generated.Goals as goal

pub returns-in_err-question : goal.returns-in_err-question
returns-in_err-question g c =
    let seed = c.args.seed in
    let calls = c.args.calls in
    let test = generated seed calls in
    let Next : Question → Done → Type 0 = λ q. ListSites q Sync (λ sites. Tells (IsWorkedBy seed calls q sites)) in
    let made : c.in_ok-test.test ≡ test = c.in_ok-test.ensures ∙ ap (λ (n : ℕ). generated n calls) c.from.ensures in
    let All : Done → Type 0 = ReadModel (shipped_text Ext4like) (λ model. OnRead test model Next) in
    record {
      answered = reply_passed_on c.from_residual-in_err-question.result c.in_err-question.field-0.0 All c.from_residual-in_err-question.ensures.1
          (stops_more (Tells (IsUnresolved c.in_ok-test.test [])) All c.in_err-question.field-0.0
          (λ a h. goes_on c.in_ok-model.model c.in_ok-model.ensures.read (ends (subst (λ (t : Test). Tells (IsUnresolved t []) a) made h))) c.in_err-question.ensures.unasked);
    }

pub returns : goal.returns
returns g c =
    let seed = c.args.seed in
    let calls = c.args.calls in
    let test = generated seed calls in
    let q = c.in_ok-question.question in
    let model = c.in_ok-model.model in
    let Next : Question → Done → Type 0 = λ q. ListSites q Sync (λ sites. Tells (IsWorkedBy seed calls q sites)) in
    let made : c.in_ok-test.test ≡ test = c.in_ok-test.ensures ∙ ap (λ (n : ℕ). generated n calls) c.from.ensures in
    let asked : IsAskedOf test model q = subst (λ (t : Test). IsAskedOf t model q) made c.in_ok-question.ensures.asked in
    record {
      answered = replies_more (Next q) (ReadModel (shipped_text Ext4like) (λ model. OnRead test model Next)) c.work_question.result
          (λ a h. goes_on model c.in_ok-model.ensures.read (on_read test model Next q a asked h)) c.work_question.ensures.worked;
    }
