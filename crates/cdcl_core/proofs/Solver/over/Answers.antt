use Rattle.std.proofs.Common.{◌≡◌, ℕ, Bool, true, false, not, MatchBool, List, [], length, sym, ap₂, subst, ◌∙◌, arith}
use Rattle.std.specs.List.{Contains}
use Rattle.clause_store.specs.declared.Lit.{Lit}
use Rattle.clause_store.specs.Clauses.{Formula}
use Rattle.clause_store.specs.Propagation.{Follows}
use Rattle.clause_store.proofs.GeneralLists.{Contains-nil}
use Rattle.watch_lists.proofs.Closing.{take-all}
use Rattle.cdcl_core.specs.declared.parts.Engine.{Engine}
use Rattle.cdcl_core.specs.Numbers.{AreNumbers, at_numbers, at_others}
use Rattle.cdcl_core.specs.Search.{IsSearch, IsReadyAt, IsSolver, solving_of}
use Rattle.cdcl_core.proofs.Going.{never}
use Rattle.cdcl_core.proofs.Numbering.{others-all, numbers-none}
use Rattle.cdcl_core.proofs.Solver.over.Goals as goal

none-learned : (e : Engine) → e.learned ≡ [] → AreNumbers e.store.clauses e.learned
none-learned e none n h = absurd (Contains-nil n (subst (λ ns. Contains ns n) none h))

begun : (alive : Bool) (e : Engine) → e.learned ≡ [] → MatchBool alive (IsReadyAt e (length e.store.clauses)) (Follows e.store.clauses []) → IsSolver (not alive) e
begun true e none r = record {
  learned = none-learned e none;
  alive = λ is. record {
    over = r.over;
    search = subst (λ cs. IsSearch cs e.watches.list e.trail) (take-all (length e.store.clauses) e.store.clauses (omega arith)) r.search;
    learned = none-learned e none;
  };
  refuted = λ is. never _ (sym is);
}
begun false e none r = record { learned = none-learned e none; alive = λ is. never _ is; refuted = λ is. r }

pub invariant_of-solver : goal.invariant_of-solver
invariant_of-solver c = begun c.in_ok-alive.alive c.admit_all.new.engine (c.in_ok-alive.ensures.learned ∙ c.in_ok-engine.ensures.learned) c.in_ok-alive.ensures.ok

seen-as : (e : Engine) (f : Formula) → e.store ≡ f → e.learned ≡ [] → solving_of e ≡ record { vars = f.vars; clauses = f.clauses; learned = [] }
seen-as e f store none =
    ap₂ (λ (g : Formula) (ns : List ℕ). record { vars = g.vars; clauses = at_others 0 ns g.clauses; learned = at_numbers ns g.clauses }) store none
    ∙ ap₂ (λ (cs ds : List (List Lit)). record { vars = f.vars; clauses = cs; learned = ds }) (others-all 0 f.clauses) (numbers-none f.clauses)

pub returns : goal.returns
returns c = seen-as c.admit_all.new.engine c.args.store (c.in_ok-alive.ensures.store ∙ c.in_ok-engine.ensures.store) (c.in_ok-alive.ensures.learned ∙ c.in_ok-engine.ensures.learned)
