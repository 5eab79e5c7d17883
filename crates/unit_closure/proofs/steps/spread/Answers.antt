use Rattle.std.proofs.Common.{◌∙◌}
use Rattle.watch_lists.specs.Watching.{numbers}
use Rattle.unit_closure.proofs.GeneralSearch.{spreads, search-spread}
use Rattle.unit_closure.proofs.steps.spread.Goals as goal

pub returns-clause-sound : goal.returns-clause-sound
returns-clause-sound c = record {
  watches_vars = c.propagate-found.ensures.vars ∙ c.requires.watches_vars;
  trail_vars = c.propagate-found.ensures.advances.vars ∙ c.requires.trail_vars;
  search = search-spread c.args.store.now.clauses c.args.watches.now.list c.propagate-found.new.self.list c.args.trail.now c.propagate-found.new.trail c.requires.search
      c.propagate-found.ensures.advances c.values-values.ensures.course c.propagate-found.ensures.attached c.propagate-found.ensures.watches c.propagate-found.ensures.in_step c.propagate-found.ensures.unseen;
}

pub returns-clause-spreads : goal.returns-clause-spreads
returns-clause-spreads c = spreads c.args.store.now.clauses (numbers c.args.watches.now.list) c.args.trail.now c.propagate-found.new.trail c.propagate-found.ensures.advances
