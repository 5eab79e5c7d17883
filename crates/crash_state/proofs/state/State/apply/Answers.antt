use Rattle.crash_state.proofs.Keeping.{after_event_fits, fits_as}
use Rattle.crash_state.proofs.state.State.apply.Goals as goal

pub returns-clause-fits : goal.returns-clause-fits
returns-clause-fits c =
    fits_as c.args.events.now c.take_effect.new.self _ c.take_effect.ensures (after_event_fits c.args.events.now c.args.self.now c.index-events-event.result c.requires.fits)
