use Rattle.std.proofs.Common.{◌≡◌, ℕ, ◌≤◌, ◌++◌, ◌∷◌, [], List, length, take, slice_get, Some, ap, sym, ◌∙◌, subst, arith, append_assoc}
use Rattle.clause_store.specs.declared.Lit.{Lit}
use Rattle.clause_store.specs.Clauses.{Formula}
use Rattle.clause_store.specs.Propagation.{Follows}
use Rattle.clause_store.specs.Derivations.{EachFollows}
use Rattle.watch_lists.proofs.Closing.{take-all}
use Rattle.proof_log.specs.Logs.{Derivation}
use Rattle.rup_checker.proofs.GeneralTrials.{was-true, was-false}
use Rattle.rup_checker.proofs.GeneralLogs.{take-more, follow-next, wrong-learned, wrong-last, follow-closed}
use Rattle.rup_checker.proofs.accepting.first_wrong.Goals as goal

-- what the checker says of the next clause of the log, over the clauses of the formula and the log's so far
is-at : (f : Formula) (d : Derivation) (n : ℕ) (c : List Lit) → f ≡ record { vars = d.vars; clauses = d.learned } → slice_get f.clauses n ≡ Some c → slice_get d.learned n ≡ Some c
is-at f d n c is at = subst (λ (g : Formula). slice_get g.clauses n ≡ Some c) is at

pub returns-then-not-branch-clause-first : goal.returns-then-not-branch-clause-first
returns-then-not-branch-clause-first c =
    wrong-learned c.args.part.now c.args.checker.now.clauses c.loop-number.number c.clause.result.now
    (is-at c.learned-learned.result.now c.args.part.now c.loop-number.number c.clause.result.now c.learned-learned.ensures c.clause.ensures.clause)
    c.loop-number.invariant.follow
    (subst (λ (cs : List (List Lit)). Follows cs c.clause.result.now → ⊥) c.loop-number.invariant.clauses
    (was-false c.in_ok-step.field-0 _ _ c.if-not-branch.true c.in_ok-step.ensures.exact))

pub loop-number-preserved : goal.loop-number-preserved
loop-number-preserved c =
    let d = c.args.part.now in
    let n = c.loop-number.number in
    let at = is-at c.learned-learned.result.now d n c.clause.result.now c.learned-learned.ensures c.clause.ensures.clause in
    let new = was-true c.in_ok-step.field-0 _ _ c.if-not-branch.false c.in_ok-step.ensures.taken in
    record {
      vars = ap (λ (f : Formula). f.vars) new ∙ c.loop-number.invariant.vars;
      clauses = ap (λ (f : Formula). f.clauses) new ∙ ap (λ cs. cs ++ c.clause.result.now ∷ []) c.loop-number.invariant.clauses
          ∙ append_assoc c.args.checker.now.clauses (take n d.learned) (c.clause.result.now ∷ [])
          ∙ ap (λ cs. c.args.checker.now.clauses ++ cs) (sym (take-more d.learned n c.clause.result.now at));
      follow = follow-next c.args.checker.now.clauses d.learned n c.clause.result.now at c.loop-number.invariant.follow
          (subst (λ (cs : List (List Lit)). Follows cs c.clause.result.now) c.loop-number.invariant.clauses
          (was-true c.in_ok-step.field-0 _ _ c.if-not-branch.false c.in_ok-step.ensures.exact));
    }

-- all clauses of the log were taken
all-learned : (given cs : List (List Lit)) (n : ℕ) → length cs ≤ n → EachFollows given (take n cs) → EachFollows given cs
all-learned given cs n le h = subst (λ ds. EachFollows given ds) (take-all n cs le) h

pub returns-then-not-branch-2-clause-first : goal.returns-then-not-branch-2-clause-first
returns-then-not-branch-2-clause-first c =
    let d = c.args.part.now in
    let given = c.args.checker.now.clauses in
    let all = take-all c.loop-number.number d.learned (omega (arith, c.loop-number-test.false, c.len-number-end.ensures, ap (λ (f : Formula). length f.clauses) c.learned-learned.ensures)) in
    wrong-last d given _ (sym c.closed.ensures ∙ c.if-not-closed.false) (c.len-then-not-branch-2.ensures ∙ ap (λ (f : Formula). length f.clauses) c.learned-learned.ensures)
    (subst (λ ds. EachFollows given ds) all c.loop-number.invariant.follow)
    (subst (λ (ds : List (List Lit)). Follows (given ++ ds) [] → ⊥) all
    (subst (λ (cs : List (List Lit)). Follows cs [] → ⊥) c.loop-number.invariant.clauses (was-false c.in_ok-follows.field-0 _ _ c.if-not-branch-2.true c.in_ok-follows.ensures.exact)))

pub returns-clause-first : goal.returns-clause-first
returns-clause-first c =
    let d = c.args.part.now in
    let given = c.args.checker.now.clauses in
    let all = take-all c.loop-number.number d.learned (omega (arith, c.loop-number-test.false, c.len-number-end.ensures, ap (λ (f : Formula). length f.clauses) c.learned-learned.ensures)) in
    follow-closed d given (sym c.closed.ensures ∙ c.if-not-closed.false)
    (subst (λ ds. EachFollows given ds) all c.loop-number.invariant.follow)
    (subst (λ (ds : List (List Lit)). Follows (given ++ ds) []) all
    (subst (λ (cs : List (List Lit)). Follows cs []) c.loop-number.invariant.clauses (was-true c.in_ok-follows.field-0 _ _ c.if-not-branch-2.false c.in_ok-follows.ensures.exact)))
