use Rattle.std.proofs.Common.{◌≡◌, ℕ, ◌<◌, ◌≤◌, List, true, false, length}
use Rattle.std.specs.Prelude.{slice_get, Some}
use Rattle.clause_store.specs.declared.Lit.{Lit}
use Rattle.rup_checker.specs.Marks.{has, lacking, AllImplied, IsQuiet}
use Rattle.rup_checker.proofs.rounds.go_through.Given as goal

abbrev pub invariant-loop-id : goal.invariant-loop-id
invariant-loop-id l = record {
  room : length l.set ≡ length l.initial.set;
  sound : (start : List Lit) → AllImplied l.store.clauses start (has l.initial.set) → AllImplied l.store.clauses start (has l.set);
  kept : (m : Lit) → has l.initial.set m ≡ true → has l.set m ≡ true;
  fewer : l.changed ≡ true → lacking l.set < lacking l.initial.set;
  le : lacking l.set ≤ lacking l.initial.set;
  still : l.changed ≡ false → l.set ≡ l.initial.set;
  quiet : l.changed ≡ false → (k : ℕ) (c : List Lit) → k < l.id → slice_get l.store.clauses k ≡ Some c → IsQuiet c (has l.set);
}
