use Rattle.std.proofs.Common.{◌≡◌, ◌++◌, drop}
use Rattle.sync_parts.specs.Sites.{present_at}
use Rattle.sync_parts.proofs.sites.push_behind.Given as goal

abbrev pub invariant-loop-k : goal.invariant-loop-k
invariant-loop-k l = l.stays.items ++ present_at l.number (drop l.k l.sites) (drop l.k l.present) ≡ l.fn.stays.items ++ present_at l.number l.sites l.present
