use Rattle.std.proofs.Common.{◌∙◌}
use Rattle.cdcl_core.specs.Search.{given_in}
use Rattle.cdcl_core.proofs.Ending.{all-true}
use Rattle.cdcl_core.proofs.Numbering.{given-in-all}
use Rattle.cdcl_core.proofs.rounds.satisfied.Goals as goal

pub returns : goal.returns
returns c = λ limit. (
  c.in_ok-values.ensures.count ∙ c.requires.sound.over.trail_vars,
  all-true c.args.engine.now.store.clauses (given_in c.args.engine.now) c.args.engine.now.watches.list c.args.engine.now.trail c.args.engine.now.store.vars c.in_ok-values.values
      c.requires.sound.search (given-in-all c.args.engine.now.learned c.args.engine.now.store.clauses) c.requires.seen c.requires.set c.requires.sound.over.trail_vars c.vars-vars.ensures.named c.in_ok-values.ensures.each,
  λ a h. (let m = c.requires.met a h in c.in_ok-values.ensures.each a (m.0, m.1, m.2)),
)
