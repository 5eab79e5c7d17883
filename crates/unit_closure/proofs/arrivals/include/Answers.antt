use Rattle.std.proofs.Common.{◌≡◌, ℕ, ◌+◌, ◌≤◌, Bool, true, false, ◌∷◌, [], List, MatchBool, length, sym, ap, subst, ◌∙◌, arith, length-append}
use Rattle.clause_store.specs.declared.Lit.{Lit}
use Rattle.clause_store.specs.Clauses.{Formula}
use Rattle.clause_store.specs.Propagation.{Follows}
use Rattle.trail_core.specs.Course.{Course}
use Rattle.watch_lists.specs.Watching.{Watching}
use Rattle.watch_lists.proofs.Closing.{take-all}
use Rattle.conflict_cut.specs.Cut.{IsConflict}
use Rattle.unit_closure.specs.Search.{IsSearch, IsReadyAt, IsSound, with_clause}
use Rattle.unit_closure.proofs.Adding.{cut-back, false-refutes}
use Rattle.unit_closure.proofs.arrivals.include.Goals as goal

taken : (b : Bool) (f g : Formula) (w : Watching) (t : Course) (clause : List Lit) (id : ℕ) → g ≡ with_clause f clause → id ≡ length f.clauses
    → MatchBool b (IsReadyAt g w t (id + 1)) (IsReadyAt g w t id × IsConflict g.clauses t.entries id) → MatchBool b (IsSound g w t) (Follows g.clauses [])
taken true f g w t clause id is number r =
    let long : length g.clauses ≤ id + 1 = omega (arith, number, length-append f.clauses (clause ∷ []), ap (λ (x : Formula). length x.clauses) is) in
    record {
      watches_vars = r.watches_vars;
      trail_vars = r.trail_vars;
      search = subst (λ cs. IsSearch cs w.list t) (take-all (id + 1) g.clauses long) r.search;
    }
taken false f g w t clause id is number r = false-refutes g.clauses id id w.list t r.0.search r.0.level r.1

level-at : (b : Bool) (f : Formula) (w : Watching) (t : Course) (id n : ℕ) → MatchBool b (IsReadyAt f w t n) (IsReadyAt f w t id × IsConflict f.clauses t.entries id) → t.level ≡ 0
level-at true f w t id n r = r.level
level-at false f w t id n r = r.0.level

pub returns-in-Ok-clause-ok : goal.returns-in-Ok-clause-ok
returns-in-Ok-clause-ok c =
    taken c.in-Ok.alive c.args.store.now c.add.new.self c.admit.new.watches c.admit.new.trail c.args.lits.now c.in_ok-id.id c.in_ok-id.ensures.added c.in_ok-id.ensures.number c.in-Ok.ensures.ok

pub returns-in-Ok-clause-level : goal.returns-in-Ok-clause-level
returns-in-Ok-clause-level c =
    level-at c.in-Ok.alive c.add.new.self c.admit.new.watches c.admit.new.trail c.in_ok-id.id (c.in_ok-id.id + 1) c.in-Ok.ensures.ok

pub returns-in-Err-clause-err_sound : goal.returns-in-Err-clause-err_sound
returns-in-Err-clause-err_sound c =
    let r = c.in-Err.ensures.err in
    let vars = ap (λ (x : Formula). x.vars) c.truncate.ensures in
    record {
      watches_vars = r.watches_vars ∙ sym vars;
      trail_vars = r.trail_vars ∙ sym vars;
      search = subst (λ (x : Formula). IsSearch x.clauses c.admit.new.watches.list c.admit.new.trail) (sym c.truncate.ensures) r.search;
    }

pub returns-in-Err-clause-err : goal.returns-in-Err-clause-err
returns-in-Err-clause-err c =
    cut-back c.args.store.now c.add.new.self c.truncate.new.self c.args.lits.now c.in_ok-id.id c.in_ok-id.ensures.added c.in_ok-id.ensures.number c.truncate.ensures
