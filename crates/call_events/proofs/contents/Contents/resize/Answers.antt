use Rattle.std.proofs.Common.{◌∙◌, ap}
use Rattle.call_events.specs.Changes.{resized}
use Rattle.call_events.proofs.FileContents.{changed_at}
use Rattle.call_events.proofs.contents.Contents.resize.Goals as goal

pub returns-in_ok-resize : goal.returns-in_ok-resize
returns-in_ok-resize c =
    let change = resized c.args.size in
    changed_at _ _ _ _ change c.index_mut.result.now _ c.self.view_is c.in-Some.is (c.in_ok-resize.ensures ∙ ap change c.index_mut.ensures.value)
