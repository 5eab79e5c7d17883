use Rattle.std.proofs.Common.{ℕ, List, Option, ◌∙◌, ap}
use Rattle.fer_events.specs.declared.event.Event.{Event}
use Rattle.sync_sites.specs.Passing.{held_upto}
use Rattle.sync_sites.specs.SiteLists.{file_sync}
use Rattle.sync_sites.proofs.Lists.{appended_more}
use Rattle.sync_sites.proofs.Steps.{held_is}
use Rattle.sync_sites.proofs.syncs.push_file_syncs.Goals as goal

pub push_file_sync-requires-clause-held : goal.push_file_sync-requires-clause-held
push_file_sync-requires-clause-held c =
    c.as_slice.ensures ∙ c.in_ok-held.ensures
    ∙ ap (λ (h : List (Option ℕ)). held_upto c.args.number h c.events.result.now) (c.slots.ensures ∙ ap (λ s. s.slots) c.start.ensures)
    ∙ ap (λ (es : List Event). held_upto c.args.number c.args.events.now.start.slots es) c.events.ensures
    ∙ held_is c.args.number c.args.events.now

pub loop-file-preserved : goal.loop-file-preserved
loop-file-preserved c =
    appended_more (file_sync c.args.number c.args.events.now) c.loop-file.file c.args.syncs.now c.loop-file.syncs c.push_file_sync.new.syncs c.loop-file.invariant c.in_ok-push_file_sync.ensures
