use Rattle.std.proofs.Common.{◌∙◌, ap}
use Rattle.fer_events.specs.States.{cleared}
use Rattle.crash_state.proofs.Places.{bytes_at_place}
use Rattle.crash_state.proofs.state.State.clear_from.Goals as goal

pub returns-in-Some : goal.returns-in-Some
returns-in-Some c =
    let change = cleared c.args.size in
    bytes_at_place _ _ _ _ change c.index_mut.result.now _ c.self.view_is c.in-Some.is (c.clear_from.ensures ∙ ap change c.index_mut.ensures.value)
