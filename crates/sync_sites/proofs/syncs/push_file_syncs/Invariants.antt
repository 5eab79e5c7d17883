use Rattle.std.proofs.Common.{◌≡◌, ◌++◌}
use Rattle.std.specs.List.{flat_map, range_with_len}
use Rattle.sync_sites.specs.SiteLists.{file_sync}
use Rattle.sync_sites.proofs.syncs.push_file_syncs.Given as goal

abbrev pub invariant-loop-file : goal.invariant-loop-file
invariant-loop-file l = l.syncs ≡ l.fn.syncs ++ flat_map (file_sync l.number l.events) (range_with_len 0 l.file)
