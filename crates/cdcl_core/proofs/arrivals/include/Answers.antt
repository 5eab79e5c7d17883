use Rattle.std.proofs.Common.{◌≡◌, ℕ, ◌+◌, ◌≤◌, Bool, true, false, ◌∷◌, [], List, MatchBool, length, sym, ap, subst, ◌∙◌, arith, length-append}
use Rattle.clause_store.specs.declared.Lit.{Lit}
use Rattle.clause_store.specs.Clauses.{Formula}
use Rattle.clause_store.specs.Propagation.{Follows}
use Rattle.watch_lists.proofs.Closing.{take-all}
use Rattle.conflict_cut.specs.Cut.{IsConflict}
use Rattle.cdcl_core.specs.declared.parts.Engine.{Engine}
use Rattle.cdcl_core.specs.Numbers.{AreNumbers}
use Rattle.cdcl_core.specs.Search.{IsSearch, IsReadyAt, IsSound, with_clause}
use Rattle.cdcl_core.proofs.Adding.{cut-back, false-refutes}
use Rattle.cdcl_core.proofs.Numbering.{more-numbers}
use Rattle.cdcl_core.proofs.arrivals.include.Goals as goal

taken : (b : Bool) (f g : Formula) (old : List ℕ) (e : Engine) (clause : List Lit) (id : ℕ) → g ≡ with_clause f clause → id ≡ length f.clauses → e.store ≡ g → e.learned ≡ old → AreNumbers f.clauses old
    → MatchBool b (IsReadyAt e (id + 1)) (IsReadyAt e id × IsConflict e.store.clauses e.trail.entries id) → MatchBool b (IsSound e) (Follows e.store.clauses [])
taken true f g old e clause id is number same learned h r =
    let store : e.store ≡ with_clause f clause = same ∙ is in
    let long : length e.store.clauses ≤ id + 1 = omega (arith, number, length-append f.clauses (clause ∷ []), ap (λ (x : Formula). length x.clauses) store) in
    record {
      over = r.over;
      search = subst (λ cs. IsSearch cs e.watches.list e.trail) (take-all (id + 1) e.store.clauses long) r.search;
      learned = subst (λ ns. AreNumbers e.store.clauses ns) (sym learned) (subst (λ (x : Formula). AreNumbers x.clauses old) (sym store) (more-numbers old f.clauses clause h));
    }
taken false f g old e clause id is number same learned h r = false-refutes e.store.clauses id id e.watches.list e.trail r.0.search r.0.level r.1

pub returns-in-Ok-clause-ok : goal.returns-in-Ok-clause-ok
returns-in-Ok-clause-ok c =
    taken c.in-Ok.alive c.args.engine.now.store c.add.new.self c.args.engine.now.learned c.admit.new.engine c.args.lits.now c.in_ok-id.id c.in_ok-id.ensures.added c.in_ok-id.ensures.number
    c.admit.ensures.store c.admit.ensures.learned c.requires.sound.learned c.in-Ok.ensures.ok

pub returns-in-Err-clause-err : goal.returns-in-Err-clause-err
returns-in-Err-clause-err c =
    let r = c.in-Err.ensures.err in
    let old = c.args.engine.now.store in
    let store = cut-back c.args.engine.now.store c.admit.new.engine.store c.truncate.new.self c.args.lits.now c.in_ok-id.id (c.admit.ensures.store ∙ c.in_ok-id.ensures.added) c.in_ok-id.ensures.number c.truncate.ensures in
    record {
      over = record {
        watches_vars = r.over.watches_vars ∙ sym (ap (λ (x : Formula). x.vars) c.truncate.ensures);
        trail_vars = r.over.trail_vars ∙ sym (ap (λ (x : Formula). x.vars) c.truncate.ensures);
        scratch_vars = r.over.scratch_vars ∙ sym (ap (λ (x : Formula). x.vars) c.truncate.ensures);
      };
      search = subst (λ (x : Formula). IsSearch x.clauses c.admit.new.engine.watches.list c.admit.new.engine.trail) (sym c.truncate.ensures) r.search;
      learned = subst (λ (x : Formula). AreNumbers x.clauses c.admit.new.engine.learned) (sym store) (subst (λ ns. AreNumbers c.args.engine.now.store.clauses ns) (sym c.admit.ensures.learned) c.requires.sound.learned);
    }
