use Rattle.std.proofs.Common.{refl, None}
use Rattle.crash_state.proofs.Places.{slots_at_place}
use Rattle.crash_state.proofs.state.State.put_file.Goals as goal

pub returns-in-Some : goal.returns-in-Some
returns-in-Some c = slots_at_place _ _ _ _ (λ _. c.args.file) None _ c.self.view_is c.in-Some.is refl
