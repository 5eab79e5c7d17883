use Rattle.std.proofs.Common.{ℕ, List, sym, subst}
use Rattle.model_library.specs.ShippedModels.{shipped_text}
use Rattle.fer_outside.specs.Causes.{Rose}
use Rattle.command_line.specs.declared.commands.ModelName.{ModelName}
use Rattle.command_line.specs.declared.commands.ModelName.TheVariants.{Shipped, File}
use Rattle.ferrite_run.specs.Done.{Tells}
use Rattle.ferrite_run.specs.Reading.{IsNoModel, OnModel}
use Rattle.ferrite_run.specs.Steps.Step.{ends}
use Rattle.ferrite_run.proofs.Ready.{stops_more, passed_on}
use Rattle.ferrite_run.proofs.reading.model_of.Goals as goal

pub returns-in_err-model-in-Shipped-clause-unread : goal.returns-in_err-model-in-Shipped-clause-unread
returns-in_err-model-in-Shipped-clause-unread g c =
    let told = g.L.Library.held c.args.library.now in
    let rose : List ℕ → Type 0 = λ other. Rose (g.L.Library.faults c.args.library.now other) (g.L.Library.faults c.args.library.now other) in
    passed_on c.from_residual.result c.in_err-model-in-Shipped.field-0.0 (OnModel told rose c.args.name.now (λ _ _. ⊥)) c.from_residual.ensures.1
    (stops_more (Tells (IsNoModel (shipped_text c.in-Shipped.shipped))) _ c.in_err-model-in-Shipped.field-0.0
    (λ a h.
    let Q : ModelName → Type 0 = λ name. OnModel told rose name (λ _ _. ⊥) a in
    let here : Q (Shipped c.in-Shipped.shipped) = ends h in
    subst Q (sym c.in-Shipped.is) here)
    c.in_err-model-in-Shipped.ensures.unread)

pub returns-in_err-model-in-File-clause-unread : goal.returns-in_err-model-in-File-clause-unread
returns-in_err-model-in-File-clause-unread g c =
    let told = g.L.Library.held c.args.library.now in
    let rose : List ℕ → Type 0 = λ other. Rose (g.L.Library.faults c.args.library.now other) (g.L.Library.faults c.model_in.new.library other) in
    passed_on c.from_residual-in_err-model-in-File.result c.in_err-model-in-File.field-0.0 (OnModel told rose c.args.name.now (λ _ _. ⊥))
    c.from_residual-in_err-model-in-File.ensures.1
    (stops_more (OnModel told rose (File c.in-File.name) (λ _ _. ⊥)) _ c.in_err-model-in-File.field-0.0
    (λ a h. let Q : ModelName → Type 0 = λ name. OnModel told rose name (λ _ _. ⊥) a in subst Q (sym c.in-File.is) h)
    c.in_err-model-in-File.ensures.unread)
