use Rattle.std.proofs.Common.{◌≡◌, ◌++◌, take}
use Rattle.clause_store.specs.Derivations.{EachFollows}
use Rattle.rup_checker.proofs.accepting.first_wrong.Given as goal

abbrev pub invariant-loop-number : goal.invariant-loop-number
invariant-loop-number l = record {
  vars : l.checker.vars ≡ l.fn.checker.vars;
  clauses : l.checker.clauses ≡ l.fn.checker.clauses ++ take l.number l.part.learned;
  follow : EachFollows l.fn.checker.clauses (take l.number l.part.learned);
}
