use Rattle.std.proofs.Common.{◌≡◌, ℕ, ◌<◌, Some, slice_get, length}
use Rattle.clause_store.specs.declared.Lit.{Lit}
use Rattle.conflict_cut.specs.Draft.{IsMarked, StayMarked}
use Rattle.cdcl_core.proofs.blame.mark_all.Given as goal

abbrev pub invariant-loop-lit : goal.invariant-loop-lit
invariant-loop-lit l = record {
  len : length l.marks ≡ length l.initial.marks;
  marked : (k : ℕ) (m : Lit) → k < l.lit-index → slice_get l.clause k ≡ Some m → IsMarked l.marks m.var;
  stay : StayMarked l.initial.marks l.marks;
}
