use Rattle.std.proofs.Common.{ℕ, List}
use Rattle.fer_outside.specs.Causes.{Rose}
use Rattle.proof_log.specs.Logs.{Logged}
use Rattle.ferrite_run.specs.Done.{Done, Tells}
use Rattle.ferrite_run.specs.Reading.{OnLog}
use Rattle.ferrite_run.specs.Verify.{IsVerified}
use Rattle.ferrite_run.proofs.Calm.{log_more}
use Rattle.ferrite_run.proofs.Asked.{on_log}
use Rattle.ferrite_run.proofs.Ready.{stops_more, replies_more, reply_passed_on}
use Rattle.ferrite_run.proofs.verifying.verify_file.Goals as goal

pub returns-in_err-log-clause-verified : goal.returns-in_err-log-clause-verified
returns-in_err-log-clause-verified g c =
    let told = g.L.Library.held c.args.library.now in
    let rose : List ℕ → Type 0 = λ other. Rose (g.L.Library.faults c.args.library.now other) (g.L.Library.faults c.log_of.new.library other) in
    let name = c.args.name.now in
    let Next : Logged → Done → Type 0 = λ read. Tells (IsVerified c.args.question.now read) in
    reply_passed_on c.from_residual.result c.in_err-log.field-0.0 (OnLog told rose name Next) c.from_residual.ensures.1
    (stops_more (OnLog told rose name (λ _ _. ⊥)) _ c.in_err-log.field-0.0
    (λ a h. log_more told rose rose name (λ _ _. ⊥) Next a (λ r. r) (λ log none. absurd none) h) c.in_err-log.ensures.unread)

pub returns-clause-verified : goal.returns-clause-verified
returns-clause-verified g c =
    let told = g.L.Library.held c.args.library.now in
    let rose : List ℕ → Type 0 = λ other. Rose (g.L.Library.faults c.args.library.now other) (g.L.Library.faults c.log_of.new.library other) in
    let log = c.in_ok-log.log in
    let Next : Logged → Done → Type 0 = λ read. Tells (IsVerified c.args.question.now read) in
    replies_more (Next log) (OnLog told rose c.args.name.now Next) c.verify_log.result
    (λ a h. on_log told rose c.args.name.now Next log a c.in_ok-log.ensures.read h) c.verify_log.ensures.verified
