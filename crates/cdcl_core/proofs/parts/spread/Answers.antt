use Rattle.std.proofs.Common.{◌∙◌}
use Rattle.watch_lists.specs.Watching.{numbers}
use Rattle.cdcl_core.proofs.Spreading.{spreads, search-spread}
use Rattle.cdcl_core.proofs.parts.spread.Goals as goal

pub returns-clause-sound : goal.returns-clause-sound
returns-clause-sound c = record {
  over = record {
    watches_vars = c.propagate-found.ensures.vars ∙ c.requires.over.watches_vars;
    trail_vars = c.propagate-found.ensures.advances.vars ∙ c.requires.over.trail_vars;
    scratch_vars = c.requires.over.scratch_vars;
  };
  search = search-spread c.args.engine.now.store.clauses c.args.engine.now.watches.list c.propagate-found.new.self.list c.args.engine.now.trail c.propagate-found.new.trail c.requires.search
      c.propagate-found.ensures.advances c.values-values.ensures.course c.propagate-found.ensures.attached c.propagate-found.ensures.watches c.propagate-found.ensures.in_step c.propagate-found.ensures.unseen;
  learned = c.requires.learned;
}

pub returns-clause-spreads : goal.returns-clause-spreads
returns-clause-spreads c = spreads c.args.engine.now.store.clauses (numbers c.args.engine.now.watches.list) c.args.engine.now.trail c.propagate-found.new.trail c.propagate-found.ensures.advances
