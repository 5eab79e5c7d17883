use Rattle.std.proofs.Common.{◌≡◌, ◌+◌, ◌++◌, drop}
use Rattle.sync_parts.specs.Sites.{calls_present}
use Rattle.sync_parts.proofs.sites.staying.Given as goal

abbrev pub invariant-loop-place : goal.invariant-loop-place
invariant-loop-place l = l.stays.items ++ calls_present (l.place + 1) (drop l.place l.body) l.sites l.present ≡ calls_present 1 l.body l.sites l.present
