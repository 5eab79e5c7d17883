use Rattle.std.proofs.Common.{◌≡◌, ◌≤◌, ◌++◌, length, take, drop}
use Rattle.sync_parts.specs.Without.{renumbered}
use Rattle.sync_parts.proofs.crashes.renumber.Given as goal

abbrev pub invariant-loop-place : goal.invariant-loop-place
invariant-loop-place l = record {
  rest : take l.kept l.order ++ renumbered l.numbers (drop l.place l.order) ≡ renumbered l.numbers l.initial.order;
  count : l.kept ≤ l.place;
  same : length l.order ≡ length l.initial.order;
}
