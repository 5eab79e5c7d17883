use Rattle.std.proofs.Common.{arith}
use Rattle.std.proofs.lemmas.Grind.{common_steps}
use Rattle.fer_events.specs.States.{start_state}
use Rattle.crash_state.proofs.Keeping.{start_state_fits, start_state_whole, fits_as, whole_as}
use Rattle.crash_state.proofs.state.State.reset.Goals as goal

pub invariant_of-self : goal.invariant_of-self
invariant_of-self c = whole_as _ (start_state c.args.events.now) (grind (arith, common_steps)) (start_state_whole c.args.events.now c.keeps_rules.ensures)

pub returns-clause-fits : goal.returns-clause-fits
returns-clause-fits c = fits_as c.args.events.now _ (start_state c.args.events.now) (grind (arith, common_steps)) (start_state_fits c.args.events.now c.keeps_rules.ensures)
