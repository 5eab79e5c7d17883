use Rattle.std.proofs.Common.{refl, true}
use Rattle.crash_state.proofs.Places.{seen_at_place}
use Rattle.crash_state.proofs.state.State.see.Goals as goal

pub returns : goal.returns
returns c = seen_at_place _ _ _ _ (λ _. true) true _ c.self.view_is refl refl
