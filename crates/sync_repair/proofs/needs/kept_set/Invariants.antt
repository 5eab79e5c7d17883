use Rattle.std.proofs.Common.{◌≡◌, length, take, false}
use Rattle.std.specs.Prelude.{replicate}
use Rattle.sync_repair.specs.Marks.{with_things, things_of}
use Rattle.sync_repair.proofs.needs.kept_set.Given as goal

abbrev pub invariant-loop-place : goal.invariant-loop-place
invariant-loop-place l = record {
  full : length l.set.items ≡ l.count;
  marked : l.set.items ≡ with_things (things_of (take l.place l.needs)) (replicate l.count false);
}
