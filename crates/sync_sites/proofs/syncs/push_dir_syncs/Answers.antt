use Rattle.sync_sites.specs.SiteLists.{dir_sync}
use Rattle.sync_sites.proofs.Lists.{appended_more}
use Rattle.sync_sites.proofs.syncs.push_dir_syncs.Goals as goal

pub loop-dir-preserved : goal.loop-dir-preserved
loop-dir-preserved c =
    appended_more (dir_sync c.args.number c.args.events.now) c.loop-dir.dir c.args.syncs.now c.loop-dir.syncs c.push_dir_sync.new.syncs c.loop-dir.invariant c.in_ok-push_dir_sync.ensures
