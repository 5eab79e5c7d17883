use Rattle.std.proofs.Common.{◌≡◌, ◌≤◌, List, Some, slice_get, length}
use Rattle.std.specs.List.{Contains}
use Rattle.clause_store.specs.declared.Lit.{Lit}
use Rattle.clause_store.specs.Propagation.{IsImplied}
use Rattle.trail_core.specs.Course.{Entry}
use Rattle.cdcl_core.specs.Blame.{AreDecided, AreImplied, MarkedAreImplied}
use Rattle.cdcl_core.proofs.blame.go_back.Given as goal

abbrev pub invariant-back : goal.invariant-back
invariant-back l = record {
  len : length l.marks ≡ l.store.vars;
  within : l.at ≤ length l.trail.entries;
  decided : AreDecided l.trail.entries l.part;
  behind :
      (start clause : List Lit) (m : Lit) (e : Entry) → AreImplied l.store.clauses start l.part
      → MarkedAreImplied l.store.clauses start l.trail.entries l.marks l.at → slice_get l.store.clauses l.id ≡ Some clause
      → Contains clause m → Contains l.trail.entries e → e.lit.var ≡ m.var → IsImplied l.store.clauses start e.lit;
}

abbrev pub decreases-back : goal.decreases-back
decreases-back l = l.at
