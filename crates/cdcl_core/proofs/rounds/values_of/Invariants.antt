use Rattle.std.proofs.Common.{◌≡◌, ℕ, ◌<◌, ◌≤◌, slice_get, Some, Option, Bool, length}
use Rattle.cdcl_core.specs.Steps.{written}
use Rattle.cdcl_core.proofs.rounds.values_of.Given as goal

abbrev pub invariant-loop-value : goal.invariant-loop-value
invariant-loop-value l = record {
  len : length l.values ≡ l.value-index;
  within : l.value-index ≤ length l.value-items;
  each : (k : ℕ) (o : Option Bool) → k < l.value-index → slice_get l.value-items k ≡ Some o → slice_get l.values k ≡ Some (written o);
}
