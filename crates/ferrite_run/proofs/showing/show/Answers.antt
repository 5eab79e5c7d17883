use Rattle.std.proofs.Common.{ℕ, List}
use Rattle.fer_outside.specs.Causes.{Rose}
use Rattle.litmus_syntax.specs.Test.{Test}
use Rattle.ferrite_run.specs.Done.{Done, Tells}
use Rattle.ferrite_run.specs.Reading.{OnLitmus}
use Rattle.ferrite_run.specs.Show.{IsShown}
use Rattle.ferrite_run.proofs.Calm.{litmus_more}
use Rattle.ferrite_run.proofs.Asked.{on_litmus}
use Rattle.ferrite_run.proofs.Ready.{stops_more, replies_more, reply_passed_on}
use Rattle.ferrite_run.proofs.showing.show.Goals as goal

pub returns-in_err-test-clause-answered : goal.returns-in_err-test-clause-answered
returns-in_err-test-clause-answered g c =
    let told = g.L.Library.held c.args.library.now in
    let rose : List ℕ → Type 0 = λ other. Rose (g.L.Library.faults c.args.library.now other) (g.L.Library.faults c.litmus_of.new.library other) in
    let l = c.args.litmus.now in
    let Next : Test → Done → Type 0 = λ t. Tells (IsShown t) in
    reply_passed_on c.from_residual.result c.in_err-test.field-0.0 (OnLitmus told rose l Next) c.from_residual.ensures.1
    (stops_more (OnLitmus told rose l (λ _ _. ⊥)) _ c.in_err-test.field-0.0
    (λ a h. litmus_more told rose rose l (λ _ _. ⊥) Next a (λ r. r) (λ t none. absurd none) h) c.in_err-test.ensures.unread)

pub returns-clause-answered : goal.returns-clause-answered
returns-clause-answered g c =
    let told = g.L.Library.held c.args.library.now in
    let rose : List ℕ → Type 0 = λ other. Rose (g.L.Library.faults c.args.library.now other) (g.L.Library.faults c.litmus_of.new.library other) in
    let t = c.in_ok-test.test in
    let Next : Test → Done → Type 0 = λ t. Tells (IsShown t) in
    replies_more (Next t) (OnLitmus told rose c.args.litmus.now Next) c.canonical.result
    (λ a h. on_litmus told rose c.args.litmus.now Next t a c.in_ok-test.ensures.read h) c.canonical.ensures.shown
