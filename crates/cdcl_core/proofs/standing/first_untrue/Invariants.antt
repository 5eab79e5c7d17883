use Rattle.std.proofs.Common.{◌≡◌, ◌-◌, ℕ, ◌<◌, ◌≤◌, slice_get, length, Some}
use Rattle.clause_store.specs.declared.Lit.{Lit}
use Rattle.trail_core.specs.Course.{Holds}
use Rattle.cdcl_core.proofs.standing.first_untrue.Given as goal

abbrev pub invariant-next : goal.invariant-next
invariant-next l = record {
  begun : l.from ≤ l.place;
  within : l.place ≤ length l.lits;
  passed : (k : ℕ) (m : Lit) → l.from ≤ k → k < l.place → slice_get l.lits k ≡ Some m → Holds l.trail.entries m;
}

abbrev pub decreases-next : goal.decreases-next
decreases-next l = length l.lits - l.place
