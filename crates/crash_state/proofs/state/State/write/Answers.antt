use Rattle.std.proofs.Common.{◌∙◌, ap}
use Rattle.fer_events.specs.States.{written}
use Rattle.crash_state.proofs.Places.{bytes_at_place}
use Rattle.crash_state.proofs.state.State.write.Goals as goal

pub returns-in-Some : goal.returns-in-Some
returns-in-Some c =
    let change = written c.args.at c.args.text.now in
    bytes_at_place _ _ _ _ change c.index_mut.result.now _ c.self.view_is c.in-Some.is (c.write.ensures ∙ ap change c.index_mut.ensures.value)
