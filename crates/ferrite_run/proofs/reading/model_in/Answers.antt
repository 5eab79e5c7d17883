use Rattle.std.proofs.Common.{ℕ, List, subst}
use Rattle.fer_outside.specs.Causes.{Rose}
use Rattle.command_line.specs.declared.commands.ModelName.TheVariants.{File}
use Rattle.ferrite_run.specs.Done.{Tells}
use Rattle.ferrite_run.specs.Reading.{IsNoModel, OnModel}
use Rattle.ferrite_run.proofs.Asked.{model_unread}
use Rattle.ferrite_run.proofs.Ready.{stops_more, passed_on}
use Rattle.ferrite_run.proofs.reading.model_in.Goals as goal

pub returns-in_err-model-clause-unread : goal.returns-in_err-model-clause-unread
returns-in_err-model-clause-unread g c =
    let told = g.L.Library.held c.args.library.now in
    let rose : List ℕ → Type 0 = λ other. Rose (g.L.Library.faults c.args.library.now other) (g.L.Library.faults c.fetch.new.library other) in
    let name = c.args.name.now in
    passed_on c.from_residual-in_err-model.result c.in_err-model.field-0.0 (OnModel told rose (File name) (λ _ _. ⊥)) c.from_residual-in_err-model.ensures.1
    (stops_more (Tells (IsNoModel c.as_slice.result.now)) _ c.in_err-model.field-0.0
    (λ a h. model_unread told rose name c.in_ok-bytes.bytes.items (λ _ _. ⊥) a c.in_ok-bytes.ensures.fetched
    (let P : List ℕ → Type 0 = λ bytes. Tells (IsNoModel bytes) a in subst P c.as_slice.ensures.value h))
    c.in_err-model.ensures.unread)
