use Rattle.std.proofs.Common.{◌≡◌, true, ap, sym, ◌∙◌, subst}
use Rattle.clause_store.specs.Clauses.{Formula}
use Rattle.clause_store.specs.Derivations.{EachFollows}
use Rattle.proof_log.specs.Logs.{Derivation, Logged}
use Rattle.rup_checker.specs.Accepting.{IsFor, IsAccepted, all_clauses}
use Rattle.rup_checker.proofs.GeneralLogs.{closed-follow, was-none}
use Rattle.rup_checker.proofs.accepting.accept.Goals as goal

accepted : (f : Formula) (log : Logged) → IsFor f log → log.part.closed ≡ true → EachFollows f.clauses (all_clauses log.part) → IsAccepted f log
accepted f log for closed h = (let parts = closed-follow log.part f.clauses closed h in record { made_for = for; follow = parts.0; closed = closed; empty = parts.1 })

pub returns-then-closed : goal.returns-then-closed
returns-then-closed c =
    let part = c.part-part.ensures in
    let follow = was-none c.in_ok-number.field-0 _ _ c.in_default.is c.in_ok-number.ensures.first in
    accepted c.args.formula c.args.log.now (
      ap (λ (d : Derivation). d.vars) (sym part) ∙ sym c.vars.ensures ∙ c.if-vars.false ∙ c.vars-2.ensures.number,
      ap (λ (d : Derivation). d.clauses) (sym part) ∙ sym c.clauses.ensures ∙ c.if-clauses-len.false ∙ c.len.ensures,
    )
    (ap (λ (d : Derivation). d.closed) (sym part) ∙ sym c.closed.ensures ∙ c.if-closed.true)
    (subst (λ (d : Derivation). EachFollows c.args.formula.clauses (all_clauses d)) part
    (subst (λ (f : Formula). EachFollows f.clauses (all_clauses c.part-part.result.now)) c.in_ok-checker.ensures follow))
