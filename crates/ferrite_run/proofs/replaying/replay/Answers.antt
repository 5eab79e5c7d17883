use Rattle.std.proofs.Common.{ℕ, List, Option, subst}
use Rattle.fer_outside.specs.Held.{Held}
use Rattle.fer_outside.specs.Causes.{Rose}
use Rattle.fer_events.specs.declared.event.Crash.{Crash}
use Rattle.ferrite_run.specs.Done.{Done, Tells}
use Rattle.ferrite_run.specs.declared.question.Question.{Question}
use Rattle.ferrite_run.specs.Reading.{OnCrash}
use Rattle.ferrite_run.specs.Asking.{OnQuestion}
use Rattle.ferrite_run.specs.Replay.{IsReplayed}
use Rattle.ferrite_run.proofs.Calm.{crash_more}
use Rattle.ferrite_run.proofs.Asked.{rose_before, unasked, on_question}
use Rattle.ferrite_run.proofs.Ready.{stops_more, replies_more, reply_passed_on}
use Rattle.ferrite_run.proofs.replaying.replay.Goals as goal

pub returns-in_err-question-clause-answered : goal.returns-in_err-question-clause-answered
returns-in_err-question-clause-answered g c =
    let told = g.L.Library.held c.args.library.now in
    let rose : List ℕ → Type 0 = λ other. Rose (g.L.Library.faults c.args.library.now other) (g.L.Library.faults c.question_of.new.library other) in
    let l = c.args.litmus.now in
    let m = c.args.model.now in
    let Next : Question → Done → Type 0 = λ q. OnCrash told rose c.args.crash.now (λ read. Tells (IsReplayed q read)) in
    reply_passed_on c.from_residual.result c.in_err-question.field-0.0 (OnQuestion told rose l m Next) c.from_residual.ensures.1
    (stops_more (OnQuestion told rose l m (λ _ _. ⊥)) _ c.in_err-question.field-0.0 (λ a h. unasked told rose l m Next a h) c.in_err-question.ensures.unasked)

pub returns-clause-answered : goal.returns-clause-answered
returns-clause-answered g c =
    let told = g.L.Library.held c.args.library.now in
    let mid = c.question_of.new.library in
    let now = c.replay_file.new.library in
    let rose : List ℕ → Type 0 = λ other. Rose (g.L.Library.faults mid other) (g.L.Library.faults now other) in
    let more : List ℕ → Type 0 = λ other. Rose (g.L.Library.faults c.args.library.now other) (g.L.Library.faults now other) in
    let q = c.in_ok-question.question in
    let crash = c.args.crash.now in
    let Judged : Question → Crash → Done → Type 0 = λ q read. Tells (IsReplayed q read) in
    let Next : Question → Done → Type 0 = λ q. OnCrash told more crash (Judged q) in
    let P : Done → Option Held → Type 0 = λ a t. OnCrash t rose crash (Judged q) a in
    replies_more (OnCrash (g.L.Library.held mid) rose crash (Judged q)) (OnQuestion told more c.args.litmus.now c.args.model.now Next) c.replay_file.result
    (λ a h. on_question told more c.args.litmus.now c.args.model.now Next q a c.in_ok-question.ensures.asked
    (crash_more told rose more crash (Judged q) (Judged q) a (λ r. rose_before _ _ _ (c.question_of.ensures.never_falls crash) r) (λ x is. is)
    (subst (P a) c.question_of.ensures.stays h)))
    c.replay_file.ensures.replayed
