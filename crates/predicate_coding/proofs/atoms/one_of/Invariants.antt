use Rattle.std.proofs.Common.{◌≡◌, ◌∷◌, map, take}
use Rattle.clause_store.specs.Clauses.{negated}
use Rattle.order_coding.specs.Variables.{in_lit}
use Rattle.predicate_coding.proofs.atoms.one_of.Given as goal

abbrev pub invariant-loop-mark : goal.invariant-loop-mark
invariant-loop-mark l = l.clause.items ≡ negated l.fn.own ∷ map in_lit (take l.mark-index l.marks)
