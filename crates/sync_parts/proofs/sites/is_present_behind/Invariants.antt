use Rattle.std.proofs.Common.{◌≡◌, false, drop}
use Rattle.std.specs.Prelude.{slice_index_or}
use Rattle.sync_parts.specs.Sites.{present_at}
use Rattle.sync_parts.proofs.sites.is_present_behind.Given as goal

abbrev pub invariant-loop-k : goal.invariant-loop-k
invariant-loop-k l = slice_index_or (present_at l.number (drop l.k l.sites) (drop l.k l.present)) l.left false ≡ slice_index_or (present_at l.number l.sites l.present) l.fn.place false
