use Rattle.std.proofs.Common.{◌≡◌, ℕ, ◌+◌, ◌-◌, ◌<◌, ◌∙◌, subst, arith}
use Rattle.cdcl_core.specs.Blame.{MarkedAreImplied}
use Rattle.cdcl_core.proofs.blame.go_back.Goals as goal

again : (at : ℕ) → 0 < at → at - 1 + 1 ≡ at
again at h = omega (arith, h)

pub back-preserved : goal.back-preserved
back-preserved c =
    let s = c.in_ok-step_back.ensures in
    let i = c.back.invariant in
    record {
      len = s.len ∙ i.len;
      within = omega (arith, i.within);
      decided = s.decided;
      behind = λ start clause m e implied before at hm he q.
          let x = s.explains start implied before in
          i.behind start clause m e x.0 (subst (λ n. MarkedAreImplied c.args.store.now.clauses start c.args.trail.now.entries c.back.marks n) (again c.back.at c.back-test.true) x.1) at hm he q;
    }

pub returns-clause-behind : goal.returns-clause-behind
returns-clause-behind c = λ start clause m e implied at hm he q.
    c.back.invariant.behind start clause m e implied (λ k f lt ej on. absurd (omega (arith, lt, c.back-test.false))) at hm he q
