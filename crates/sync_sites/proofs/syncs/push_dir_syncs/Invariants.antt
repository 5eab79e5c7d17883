use Rattle.std.proofs.Common.{◌≡◌, ◌++◌}
use Rattle.std.specs.List.{flat_map, range_with_len}
use Rattle.sync_sites.specs.SiteLists.{dir_sync}
use Rattle.sync_sites.proofs.syncs.push_dir_syncs.Given as goal

abbrev pub invariant-loop-dir : goal.invariant-loop-dir
invariant-loop-dir l = l.syncs ≡ l.fn.syncs ++ flat_map (dir_sync l.number l.events) (range_with_len 0 l.dir)
