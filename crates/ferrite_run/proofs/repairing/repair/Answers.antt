use Rattle.std.proofs.Common.{ℕ, List, subst}
use Rattle.fer_outside.specs.Causes.{Rose}
use Rattle.litmus_syntax.specs.declared.site.Site.{Site}
use Rattle.ferrite_run.specs.declared.question.Question.{Question}
use Rattle.ferrite_run.specs.Done.{Done}
use Rattle.ferrite_run.specs.Asking.{OnQuestion}
use Rattle.ferrite_run.specs.Repair.{IsRepaired}
use Rattle.ferrite_run.specs.Sites.{ListSites}
use Rattle.ferrite_run.proofs.Asked.{unasked, on_question}
use Rattle.ferrite_run.proofs.Ready.{stops_more, replies_more, reply_passed_on}
use Rattle.ferrite_run.proofs.repairing.repair.Goals as goal

pub returns-in_err-question-clause-answered : goal.returns-in_err-question-clause-answered
returns-in_err-question-clause-answered g c =
    let told = g.L.Library.held c.args.library.now in
    let rose : List ℕ → Type 0 = λ other. Rose (g.L.Library.faults c.args.library.now other) (g.L.Library.faults c.question_of.new.library other) in
    let l = c.args.litmus.now in
    let m = c.args.model.now in
    let Next : Question → Done → Type 0 = λ q. ListSites q c.args.kind (λ sites. IsRepaired q c.args.kind sites c.args.search.now) in
    reply_passed_on c.from_residual.result c.in_err-question.field-0.0 (OnQuestion told rose l m Next) c.from_residual.ensures.1
    (stops_more (OnQuestion told rose l m (λ _ _. ⊥)) _ c.in_err-question.field-0.0 (λ a h. unasked told rose l m Next a h) c.in_err-question.ensures.unasked)

pub returns-clause-answered : goal.returns-clause-answered
returns-clause-answered g c =
    let told = g.L.Library.held c.args.library.now in
    let rose : List ℕ → Type 0 = λ other. Rose (g.L.Library.faults c.args.library.now other) (g.L.Library.faults c.question_of.new.library other) in
    let q = c.in_ok-question.question in
    let Next : Question → Done → Type 0 = λ q. ListSites q c.args.kind (λ sites. IsRepaired q c.args.kind sites c.args.search.now) in
    replies_more (Next q) (OnQuestion told rose c.args.litmus.now c.args.model.now Next) c.repair_question.result
    (λ a h. on_question told rose c.args.litmus.now c.args.model.now Next q a c.in_ok-question.ensures.asked h) c.repair_question.ensures.repaired
