use Rattle.std.proofs.Common.{ℕ, List}
use Rattle.fer_outside.specs.Causes.{Rose}
use Rattle.fer_events.specs.declared.event.Crash.{Crash}
use Rattle.ferrite_run.specs.Done.{Done, Tells}
use Rattle.ferrite_run.specs.Reading.{OnCrash}
use Rattle.ferrite_run.specs.Replay.{IsReplayed}
use Rattle.ferrite_run.proofs.Calm.{crash_more}
use Rattle.ferrite_run.proofs.Asked.{on_crash}
use Rattle.ferrite_run.proofs.Ready.{stops_more, replies_more, reply_passed_on}
use Rattle.ferrite_run.proofs.replaying.replay_file.Goals as goal

pub returns-in_err-crash-clause-replayed : goal.returns-in_err-crash-clause-replayed
returns-in_err-crash-clause-replayed g c =
    let told = g.L.Library.held c.args.library.now in
    let rose : List ℕ → Type 0 = λ other. Rose (g.L.Library.faults c.args.library.now other) (g.L.Library.faults c.crash_of.new.library other) in
    let name = c.args.name.now in
    let Next : Crash → Done → Type 0 = λ read. Tells (IsReplayed c.args.question.now read) in
    reply_passed_on c.from_residual.result c.in_err-crash.field-0.0 (OnCrash told rose name Next) c.from_residual.ensures.1
    (stops_more (OnCrash told rose name (λ _ _. ⊥)) _ c.in_err-crash.field-0.0
    (λ a h. crash_more told rose rose name (λ _ _. ⊥) Next a (λ r. r) (λ crash none. absurd none) h) c.in_err-crash.ensures.unread)

pub returns-clause-replayed : goal.returns-clause-replayed
returns-clause-replayed g c =
    let told = g.L.Library.held c.args.library.now in
    let rose : List ℕ → Type 0 = λ other. Rose (g.L.Library.faults c.args.library.now other) (g.L.Library.faults c.crash_of.new.library other) in
    let crash = c.in_ok-crash.crash in
    let Next : Crash → Done → Type 0 = λ read. Tells (IsReplayed c.args.question.now read) in
    replies_more (Next crash) (OnCrash told rose c.args.name.now Next) c.replay_crash.result
    (λ a h. on_crash told rose c.args.name.now Next crash a c.in_ok-crash.ensures.read h) c.replay_crash.ensures.replayed
