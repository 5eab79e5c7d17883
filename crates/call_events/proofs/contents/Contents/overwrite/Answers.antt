use Rattle.std.proofs.Common.{◌∙◌, ap}
use Rattle.call_events.specs.Changes.{overwritten}
use Rattle.call_events.proofs.FileContents.{changed_at}
use Rattle.call_events.proofs.contents.Contents.overwrite.Goals as goal

pub returns-in_ok-overwrite : goal.returns-in_ok-overwrite
returns-in_ok-overwrite c =
    let change = overwritten c.args.at c.args.text.now in
    changed_at _ _ _ _ change c.index_mut.result.now _ c.self.view_is c.in-Some.is (c.in_ok-overwrite.ensures ∙ ap change c.index_mut.ensures.value)
