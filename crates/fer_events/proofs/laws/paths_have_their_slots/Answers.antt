use Rattle.fer_events.proofs.PathSlots.{one_slot}
use Rattle.fer_events.proofs.laws.paths_have_their_slots.Goals as goal

pub returns : goal.returns
returns c = λ t path rules. one_slot t.dirs t.slots rules.dirs_there rules.dirs_once path
