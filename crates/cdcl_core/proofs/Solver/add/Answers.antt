use Rattle.std.proofs.Common.{◌≡◌, ℕ, Bool, true, false, not, MatchBool, List, [], ◌∷◌, ◌++◌, refl, sym, ap, ap₂, subst, ◌∙◌, arith}
use Rattle.clause_store.specs.declared.Lit.{Lit}
use Rattle.clause_store.specs.Clauses.{Formula}
use Rattle.clause_store.specs.Propagation.{Follows}
use Rattle.clause_store.proofs.LeastSet.{more-follows}
use Rattle.std.proofs.lemmas.List.Elements.{Contains-append_left}
use Rattle.cdcl_core.specs.declared.parts.Engine.{Engine}
use Rattle.cdcl_core.specs.Answering.{Solving}
use Rattle.cdcl_core.specs.Numbers.{AreNumbers, at_numbers, at_others}
use Rattle.cdcl_core.specs.Search.{IsSound, IsSolver, solving_of, with_clause}
use Rattle.cdcl_core.specs.Steps.{HasSame}
use Rattle.cdcl_core.proofs.Going.{never}
use Rattle.cdcl_core.proofs.Numbering.{others-more, numbers-same, more-numbers}
use Rattle.cdcl_core.proofs.Solver.add.Goals as goal

-- the solver as it is seen after a clause was added to its store
grown : (e e' : Engine) (clause : List Lit) → AreNumbers e.store.clauses e.learned → e'.store ≡ with_clause e.store clause → e'.learned ≡ e.learned
    → solving_of e' ≡ record (solving_of e) { clauses = (solving_of e).clauses ++ clause ∷ [] }
grown e e' clause h store same =
    ap₂ (λ (g : Formula) (ns : List ℕ). record { vars = g.vars; clauses = at_others 0 ns g.clauses; learned = at_numbers ns g.clauses }) store same
    ∙ ap₂ (λ (cs ds : List (List Lit)). record { vars = e.store.vars; clauses = cs; learned = ds })
    (others-more 0 e.learned e.store.clauses clause (λ m i. omega (arith, h m i))) (numbers-same e.learned e.store.clauses clause h)

numbers-after : (e e' : Engine) (clause : List Lit) → AreNumbers e.store.clauses e.learned → e'.store ≡ with_clause e.store clause → e'.learned ≡ e.learned → AreNumbers e'.store.clauses e'.learned
numbers-after e e' clause h store same =
    subst (λ (f : Formula). AreNumbers f.clauses e'.learned) (sym store) (subst (λ ns. AreNumbers (e.store.clauses ++ clause ∷ []) ns) (sym same) (more-numbers e.learned e.store.clauses clause h))

alive-or-not : (alive : Bool) (e : Engine) → AreNumbers e.store.clauses e.learned → MatchBool alive (IsSound e) (Follows e.store.clauses []) → IsSolver (not alive) e
alive-or-not true e h r = record { learned = h; alive = λ is. r; refuted = λ is. never _ (sym is) }
alive-or-not false e h r = record { learned = h; alive = λ is. never _ is; refuted = λ is. r }

refuted-grown : (f g : Formula) (clause : List Lit) → g ≡ with_clause f clause → Follows f.clauses [] → Follows g.clauses []
refuted-grown f g clause is h = subst (λ (x : Formula). Follows x.clauses []) (sym is) (more-follows f.clauses (f.clauses ++ clause ∷ []) [] (λ c i. Contains-append_left f.clauses (clause ∷ []) c i) h)

seen-same : (e e' : Engine) → HasSame e e' → solving_of e' ≡ solving_of e
seen-same e e' s = ap₂ (λ (g : Formula) (ns : List ℕ). record { vars = g.vars; clauses = at_others 0 ns g.clauses; learned = at_numbers ns g.clauses }) s.store s.learned

pub invariant_of-self-then-self : goal.invariant_of-self-then-self
invariant_of-self-then-self c = record {
  learned = numbers-after c.self.inside.engine (record { store = c.add.new.self; learned = c.self.inside.engine.learned; watches = c.self.inside.engine.watches; trail = c.self.inside.engine.trail; scratch = c.self.inside.engine.scratch }) c.args.lits.now c.self.invariant.learned c.in_ok-add.ensures.added refl;
  alive = λ is. never _ (sym c.if-self.true ∙ is);
  refuted = λ is. refuted-grown c.self.inside.engine.store c.add.new.self c.args.lits.now c.in_ok-add.ensures.added (c.self.invariant.refuted is);
}

pub returns-then-self-clause-ok : goal.returns-then-self-clause-ok
returns-then-self-clause-ok c =
    grown c.self.inside.engine
    (record { store = c.add.new.self; learned = c.self.inside.engine.learned; watches = c.self.inside.engine.watches; trail = c.self.inside.engine.trail; scratch = c.self.inside.engine.scratch })
    c.args.lits.now c.self.invariant.learned c.in_ok-add.ensures.added refl
    ∙ ap (λ (s : Solving). record s { clauses = s.clauses ++ c.args.lits.now ∷ [] }) c.self.view_is

pub invariant_of-self-2 : goal.invariant_of-self-2
invariant_of-self-2 c =
    alive-or-not c.in_ok-alive.alive c.include.new.engine
    (numbers-after c.restart.new.engine c.include.new.engine c.args.lits.now c.restart.ensures.sound.learned c.in_ok-alive.ensures.store c.in_ok-alive.ensures.learned) c.in_ok-alive.ensures.ok

pub returns-clause-ok : goal.returns-clause-ok
returns-clause-ok c =
    grown c.restart.new.engine c.include.new.engine c.args.lits.now c.restart.ensures.sound.learned c.in_ok-alive.ensures.store c.in_ok-alive.ensures.learned
    ∙ ap (λ (s : Solving). record s { clauses = s.clauses ++ c.args.lits.now ∷ [] }) (seen-same c.self.inside.engine c.restart.new.engine c.restart.ensures.same ∙ c.self.view_is)
