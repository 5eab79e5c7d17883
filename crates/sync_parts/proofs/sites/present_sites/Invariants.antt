use Rattle.std.proofs.Common.{◌≡◌, ◌++◌, drop}
use Rattle.sync_parts.specs.Sites.{sites_present}
use Rattle.sync_parts.proofs.sites.present_sites.Given as goal

abbrev pub invariant-loop-place : goal.invariant-loop-place
invariant-loop-place l = l.some ++ sites_present (drop l.place l.sites) (drop l.place l.present) ≡ sites_present l.sites l.present
