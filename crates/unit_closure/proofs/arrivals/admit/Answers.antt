use Rattle.std.proofs.Common.{ℕ, ◌+◌, inl, refl, take, sym, ap, subst, ◌∙◌}
use Rattle.std.proofs.lemmas.List.Elements.{All-contains}
use Rattle.clause_store.specs.Clauses.{InVars}
use Rattle.trail_core.specs.Course.{Course}
use Rattle.watch_lists.specs.Watching.{Watch, Watching}
use Rattle.unit_closure.specs.Search.{IsSearch}
use Rattle.unit_closure.proofs.Adding.{ready-true, ready-wide, ready-unit}
use Rattle.trail_core.proofs.GeneralTrails.{free-not-fails}
use Rattle.unit_closure.proofs.arrivals.admit.Goals as goal

pub returns-in-True-clause-ok : goal.returns-in-True-clause-ok
returns-in-True-clause-ok c =
    let r = c.requires.ready in
    let h = c.in-True.ensures in
    record {
      watches_vars = r.watches_vars;
      trail_vars = r.trail_vars;
      search = ready-true c.args.store.now.clauses c.args.id c.clause-clause.result.now c.args.watches.now.list c.args.trail.now r.search c.clause-clause.ensures.clause r.level h.0 h.1 h.2;
      level = r.level;
    }

pub returns-in-Unit-clause-ok : goal.returns-in-Unit-clause-ok
returns-in-Unit-clause-ok c =
    let r = c.requires.ready in
    let h = c.in-Unit.ensures in
    let there = All-contains (InVars c.args.store.now.vars) c.clause-clause.result.now c.in-Unit.lit c.clause-clause.ensures.named h.0 in
    record {
      watches_vars = r.watches_vars;
      trail_vars = ap (λ (t : Course). t.vars) c.imply.ensures ∙ r.trail_vars;
      search = ready-unit c.args.store.now.clauses c.args.id c.clause-clause.result.now c.args.watches.now.list c.args.trail.now r.search c.clause-clause.ensures.clause r.level
          c.imply.new.self c.in-Unit.lit h.0 h.1 h.2
          (subst (λ (n : ℕ). InVars n c.in-Unit.lit) (sym r.trail_vars) there) c.imply.ensures;
      level = ap (λ (t : Course). t.level) c.imply.ensures ∙ r.level;
    }

pub returns-in_ok-watch-in-Open-clause-ok : goal.returns-in_ok-watch-in-Open-clause-ok
returns-in_ok-watch-in-Open-clause-ok c =
    let r = c.requires.ready in
    let (first, second, apart, free_first, free_second) = c.in-Open.ensures in
    let entries = c.args.trail.now.entries in
    let w : Watch = record { clause = c.args.id; first = c.in-Open.first; second = c.in-Open.second } in
    record {
      watches_vars = ap (λ (x : Watching). x.vars) c.in_ok-watch-in-Open.ensures.attached ∙ r.watches_vars;
      trail_vars = r.trail_vars;
      search = subst (λ (x : Watching). IsSearch (take (c.args.id + 1) c.args.store.now.clauses) x.list c.args.trail.now) (sym c.in_ok-watch-in-Open.ensures.attached)
          (ready-wide c.args.store.now.clauses c.args.id c.clause-clause.result.now c.args.watches.now.list c.args.trail.now r.search c.clause-clause.ensures.clause r.level
          w c.in-Open.second c.in-Open.first second first apart free_second free_first refl
          (c.clause-clause.result.now, c.clause-clause.ensures.clause, first, second, apart, (λ f. free-not-fails entries c.in-Open.first free_first f), inl (λ f. free-not-fails entries c.in-Open.second free_second f)));
      level = r.level;
    }
