use Rattle.std.proofs.Common.{◌≡◌, ℕ, ◌<◌, slice_get, Some}
use Rattle.clause_store.specs.declared.Lit.{Lit}
use Rattle.trail_core.specs.Course.{Fails}
use Rattle.rup_checker.specs.Trying.{IsTrying}
use Rattle.rup_checker.proofs.trials.deny_all.Given as goal

abbrev pub invariant-loop-lit : goal.invariant-loop-lit
invariant-loop-lit l = record {
  trying : IsTrying l.store l.watches l.trail l.clause;
  fails : (k : ℕ) (m : Lit) → k < l.lit-index → slice_get l.clause k ≡ Some m → Fails l.trail.entries m;
}
