use Rattle.std.proofs.Common.{sym, subst}
use Rattle.call_events.specs.Runs.{AreFormed}
use Rattle.call_events.proofs.Formed.{slot_formed}
use Rattle.call_events.proofs.asking.ask_path.Goals as goal

pub returns-clause-formed : goal.returns-clause-formed
returns-clause-formed c =
    subst AreFormed (sym c.in_ok-note_slot.ensures) (slot_formed c.args.files.now c.args.path.now c.requires.path c.requires.formed)
