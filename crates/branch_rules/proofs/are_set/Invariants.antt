use Rattle.std.proofs.Common.{◌≡◌, ◌≢◌, ◌<◌, ℕ, true, slice_get, Some, None}
use Rattle.branch_rules.proofs.are_set.Given as goal

abbrev pub invariant-loop-value : goal.invariant-loop-value
invariant-loop-value l = l.set ≡ true → (i : ℕ) → i < l.value-index → slice_get l.values i ≢ Some None
