use Rattle.std.proofs.Common.{◌≡◌, List, ℕ, ap, sym, subst, ◌∙◌}
use Rattle.std.specs.Prelude.{IfSome}
use Rattle.watch_lists.specs.Watching.{Watching, numbers, AreInStep}
use Rattle.watch_lists.specs.Propagated.{IsConflict, Advances}
use Rattle.watch_lists.specs.Going.{IsPrepared, watches_of}
use Rattle.watch_lists.proofs.Pairing.{numbers-of}
use Rattle.watch_lists.proofs.Closing.{ready-at, safe-none, settled-none, exact-none}
use Rattle.watch_lists.proofs.Watches.propagate.Goals as goal
use Rattle.watch_lists.proofs.Watches.propagate.Goals.{After-run}

pub run-requires-clause-ready : goal.run-requires-clause-ready
run-requires-clause-ready c =
    let P : List ℕ → Type 0 = λ ids. IsPrepared c.args.store.now.clauses c.args.trail.now ids c.self.inside.chains in
    subst P (sym c.as_slice.ensures.value)
    (ready-at c.args.store.now c.args.trail.now c.args.self.now c.self.inside.vars c.self.inside.ids.items c.self.inside.chains c.self.view_is c.self.invariant
    c.vars.ensures.named c.requires.over c.requires.over_trail c.seen.ensures.course c.requires.watches c.requires.in_step)

-- the attached clauses
attached : (c : After-run) → c.as_slice.result.now ≡ numbers c.args.self.now.list
attached c =
    c.as_slice.ensures.value ∙ sym (numbers-of c.self.inside.ids.items c.self.inside.chains.lits c.self.invariant.pairs)
    ∙ ap (λ (v : Watching). numbers v.list) c.self.view_is

same : (c : After-run) → numbers (watches_of c.as_slice.result.now c.run.new.chains.lits) ≡ numbers c.args.self.now.list
same c = numbers-of c.as_slice.result.now c.run.new.chains.lits c.run.ensures.ready.pairs ∙ attached c

pub returns-clause-attached : goal.returns-clause-attached
returns-clause-attached c =
    let P : List ℕ → Type 0 = λ ids. numbers (watches_of ids c.run.new.chains.lits) ≡ numbers c.args.self.now.list in
    subst P c.as_slice.ensures.value (same (goal.at.returns-clause-attached c).After-run)

pub returns-clause-in_step : goal.returns-clause-in_step
returns-clause-in_step c =
    let P : List ℕ → Type 0 = λ ids. AreInStep (watches_of ids c.run.new.chains.lits) c.run.new.trail in
    subst P c.as_slice.ensures.value c.run.ensures.ready.ready.in_step

pub returns-clause-advances : goal.returns-clause-advances
returns-clause-advances c =
    let P : List ℕ → Type 0 = λ ids. Advances c.args.store.now.clauses ids c.args.trail.now c.run.new.trail in
    subst P (attached (goal.at.returns-clause-advances c).After-run) c.run.ensures.advances

conflicts : (c : After-run) → IfSome c.run.result (λ id. IsConflict c.args.store.now.clauses (numbers c.args.self.now.list) c.run.new.trail.entries id)
conflicts c =
    let P : List ℕ → Type 0 = λ ids. IfSome c.run.result (λ id. IsConflict c.args.store.now.clauses ids c.run.new.trail.entries id) in
    subst P (attached c) c.run.ensures.conflict

pub returns-clause-conflict : goal.returns-clause-conflict
returns-clause-conflict c = conflicts (goal.at.returns-clause-conflict c).After-run

pub returns-clause-exact : goal.returns-clause-exact
returns-clause-exact c =
    let ns = numbers c.args.self.now.list in
    let b = (goal.at.returns-clause-exact c).After-run in
    exact-none c.run.result c.args.store.now.clauses ns c.run.new.trail.entries
    (settled-none c.run.result c.args.store.now.clauses ns c.run.new.trail.entries c.run.ensures.ready.ready.course.once
    (safe-none c.run.result c.args.store.now.clauses ns c.run.new.trail (watches_of c.as_slice.result.now c.run.new.chains.lits) c.run.new.chains.lists c.run.ensures.ready.ready (same b) c.run.ensures.all_seen))
    (conflicts b)

pub returns-clause-safe : goal.returns-clause-safe
returns-clause-safe c =
    safe-none c.run.result c.args.store.now.clauses (numbers c.args.self.now.list) c.run.new.trail (watches_of c.as_slice.result.now c.run.new.chains.lits) c.run.new.chains.lists c.run.ensures.ready.ready (same (goal.at.returns-clause-safe c).After-run) c.run.ensures.all_seen
