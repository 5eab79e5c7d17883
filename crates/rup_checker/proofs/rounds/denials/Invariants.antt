use Rattle.std.proofs.Common.{◌≡◌, ℕ, ◌+◌, ◌*◌, ◌<◌, true, get_or, vec_len}
use Rattle.std.specs.List.{Contains}
use Rattle.clause_store.specs.declared.Lit.{Lit}
use Rattle.clause_store.specs.Clauses.{negated}
use Rattle.rup_checker.specs.Marks.{has}
use Rattle.rup_checker.proofs.rounds.denials.Given as goal

abbrev pub invariant-loop-l : goal.invariant-loop-l
invariant-loop-l l = record {
  room : vec_len l.set ≡ 2 * l.vars + 2;
  only : (m : Lit) → has l.set.items m ≡ true → Contains l.clause (negated m);
  each : (k : ℕ) (d : Lit) → k < l.l-index → has l.set.items (negated (get_or l.clause k d)) ≡ true;
}
