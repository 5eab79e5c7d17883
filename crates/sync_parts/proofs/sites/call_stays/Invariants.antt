use Rattle.std.proofs.Common.{◌≡◌, ◌+◌, false, drop}
use Rattle.std.specs.Prelude.{slice_index_or}
use Rattle.sync_parts.specs.Sites.{calls_present, call_stays}
use Rattle.sync_parts.proofs.sites.call_stays.Given as goal

abbrev pub invariant-loop-place : goal.invariant-loop-place
invariant-loop-place l = slice_index_or (calls_present (l.place + 1) (drop l.place l.body) l.sites l.present) l.left false ≡ call_stays (calls_present 1 l.body l.sites l.present) l.call
