use Rattle.std.proofs.Common.{◌≡◌, ◌+◌, ◌*◌, true, vec_len}
use Rattle.std.specs.List.{Contains}
use Rattle.clause_store.specs.declared.Lit.{Lit}
use Rattle.clause_store.specs.Clauses.{negated}
use Rattle.clause_store.specs.Propagation.{negations}
use Rattle.rup_checker.specs.Marks.{has, AllImplied, lacking}
use Rattle.rup_checker.proofs.rounds.follows_by_rounds.Given as goal

abbrev pub invariant-loop-set : goal.invariant-loop-set
invariant-loop-set l = record {
  room : vec_len l.set ≡ 2 * l.store.vars + 2;
  sound : AllImplied l.store.clauses (negations l.clause) (has l.set.items);
  starts : (m : Lit) → Contains l.clause (negated m) → has l.set.items m ≡ true;
}

abbrev pub decreases-loop-set : goal.decreases-loop-set
decreases-loop-set l = lacking l.set.items
