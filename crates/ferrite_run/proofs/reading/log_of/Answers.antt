use Rattle.std.proofs.Common.{ℕ, List, subst}
use Rattle.fer_outside.specs.Causes.{Rose}
use Rattle.ferrite_run.specs.Done.{Tells}
use Rattle.ferrite_run.specs.Reading.{IsNoLog, OnLog}
use Rattle.ferrite_run.proofs.Asked.{log_unread}
use Rattle.ferrite_run.proofs.Ready.{stops_more, passed_on}
use Rattle.ferrite_run.proofs.reading.log_of.Goals as goal

pub returns-in_err-log-clause-unread : goal.returns-in_err-log-clause-unread
returns-in_err-log-clause-unread g c =
    let told = g.L.Library.held c.args.library.now in
    let rose : List ℕ → Type 0 = λ other. Rose (g.L.Library.faults c.args.library.now other) (g.L.Library.faults c.fetch.new.library other) in
    let name = c.args.name.now in
    passed_on c.from_residual-in_err-log.result c.in_err-log.field-0.0 (OnLog told rose name (λ _ _. ⊥)) c.from_residual-in_err-log.ensures.1
    (stops_more (Tells (IsNoLog c.as_slice.result.now)) _ c.in_err-log.field-0.0
    (λ a h. log_unread told rose name c.in_ok-bytes.bytes.items (λ _ _. ⊥) a c.in_ok-bytes.ensures.fetched
    (let P : List ℕ → Type 0 = λ bytes. Tells (IsNoLog bytes) a in subst P c.as_slice.ensures.value h))
    c.in_err-log.ensures.unread)
