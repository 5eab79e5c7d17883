use Rattle.std.proofs.Common.{refl}
use Rattle.crash_state.proofs.Places.{sizes_at_place}
use Rattle.crash_state.proofs.state.State.set_size.Goals as goal

pub returns-in-Some : goal.returns-in-Some
returns-in-Some c = sizes_at_place _ _ _ _ (λ _. c.args.size) 0 _ c.self.view_is c.in-Some.is refl
