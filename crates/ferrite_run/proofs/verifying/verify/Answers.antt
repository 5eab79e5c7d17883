use Rattle.std.proofs.Common.{ℕ, List, [], Option, sym, subst}
use Rattle.litmus_syntax.specs.Test.{Test}
use Rattle.model_reader.specs.declared.model.Model.{Model}
use Rattle.call_events.specs.Resolved.{HasEvents}
use Rattle.sync_repair.specs.Sets.{AreKept}
use Rattle.fer_outside.specs.Held.{Held}
use Rattle.fer_outside.specs.Causes.{Rose}
use Rattle.proof_log.specs.Logs.{Logged}
use Rattle.ferrite_run.specs.Done.{Done, Tells}
use Rattle.ferrite_run.specs.declared.question.Question.{Question}
use Rattle.ferrite_run.specs.Reading.{OnLog}
use Rattle.ferrite_run.specs.Asking.{OnQuestion}
use Rattle.ferrite_run.specs.Verify.{IsVerified}
use Rattle.ferrite_run.proofs.Calm.{log_more}
use Rattle.ferrite_run.proofs.Asked.{rose_before, unasked, on_question}
use Rattle.ferrite_run.proofs.Ready.{stops_more, replies_more, reply_passed_on}
use Rattle.ferrite_run.proofs.verifying.verify.Goals as goal

pub returns-in_err-question-clause-answered : goal.returns-in_err-question-clause-answered
returns-in_err-question-clause-answered g c =
    let told = g.L.Library.held c.args.library.now in
    let rose : List ℕ → Type 0 = λ other. Rose (g.L.Library.faults c.args.library.now other) (g.L.Library.faults c.question_of.new.library other) in
    let l = c.args.litmus.now in
    let m = c.args.model.now in
    let Next : Question → Done → Type 0 = λ q. OnLog told rose c.args.log.now (λ read. Tells (IsVerified q read)) in
    reply_passed_on c.from_residual.result c.in_err-question.field-0.0 (OnQuestion told rose l m Next) c.from_residual.ensures.1
    (stops_more (OnQuestion told rose l m (λ _ _. ⊥)) _ c.in_err-question.field-0.0 (λ a h. unasked told rose l m Next a h) c.in_err-question.ensures.unasked)

pub returns-clause-answered : goal.returns-clause-answered
returns-clause-answered g c =
    let told = g.L.Library.held c.args.library.now in
    let mid = c.question_of.new.library in
    let now = c.verify_file.new.library in
    let rose : List ℕ → Type 0 = λ other. Rose (g.L.Library.faults mid other) (g.L.Library.faults now other) in
    let more : List ℕ → Type 0 = λ other. Rose (g.L.Library.faults c.args.library.now other) (g.L.Library.faults now other) in
    let q = c.in_ok-question.question in
    let log = c.args.log.now in
    let Judged : Question → Logged → Done → Type 0 = λ q read. Tells (IsVerified q read) in
    let Next : Question → Done → Type 0 = λ q. OnLog told more log (Judged q) in
    let P : Done → Option Held → Type 0 = λ a t. OnLog t rose log (Judged q) a in
    replies_more (OnLog (g.L.Library.held mid) rose log (Judged q)) (OnQuestion told more c.args.litmus.now c.args.model.now Next) c.verify_file.result
    (λ a h. on_question told more c.args.litmus.now c.args.model.now Next q a c.in_ok-question.ensures.asked
    (log_more told rose more log (Judged q) (Judged q) a (λ r. rose_before _ _ _ (c.question_of.ensures.never_falls log) r) (λ x is. is)
    (subst (P a) c.question_of.ensures.stays h)))
    c.verify_file.ensures.verified

pub verify_file-requires-clause-resolved : goal.verify_file-requires-clause-resolved
verify_file-requires-clause-resolved g c =
    let q = c.in_ok-question.question in
    let asked = c.in_ok-question.ensures.asked.asked in
    subst (λ (t : Test). HasEvents t [] q.events) (sym asked.litmus) asked.resolved

pub verify_file-requires-clause-kept : goal.verify_file-requires-clause-kept
verify_file-requires-clause-kept g c =
    let q = c.in_ok-question.question in
    let asked = c.in_ok-question.ensures.asked.asked in
    subst (λ (m : Model). AreKept m q.events.events q.pairs) (sym asked.model_of) asked.kept
