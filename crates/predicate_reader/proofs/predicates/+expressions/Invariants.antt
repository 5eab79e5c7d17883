use Rattle.std.proofs.Common.{◌+◌, ◌*◌, length}
use Rattle.predicate_reader.specs.Fronts.{Expression, FurtherAnd, FurtherOr}
use Rattle.litmus_syntax.specs.declared.pred.Binding.TheVariants.{Conjunction, Disjunction}
use Rattle.predicate_reader.proofs.Reading.{IsJoined}
use Rattle.predicate_reader.proofs.predicates.+expressions.Given as goal

abbrev pub decreases-enclosed_at : goal.decreases-enclosed_at
decreases-enclosed_at l = 8 * length l.lexemes.now + 4

abbrev pub decreases-disjunction_at : goal.decreases-disjunction_at
decreases-disjunction_at l = 8 * length l.lexemes.now + 3

abbrev pub decreases-conjunction_at : goal.decreases-conjunction_at
decreases-conjunction_at l = 8 * length l.lexemes.now + 2

abbrev pub decreases-negated_at : goal.decreases-negated_at
decreases-negated_at l = 8 * length l.lexemes.now + 2

abbrev pub decreases-operand_at : goal.decreases-operand_at
decreases-operand_at l = 8 * length l.lexemes.now + 1

abbrev pub invariant-conjunction_at-loop-behind : goal.invariant-conjunction_at-loop-behind
invariant-conjunction_at-loop-behind l = IsJoined FurtherAnd (Expression Conjunction) l.lexemes l.left l.rest

abbrev pub decreases-conjunction_at-loop-behind : goal.decreases-conjunction_at-loop-behind
decreases-conjunction_at-loop-behind l = length l.rest

abbrev pub invariant-disjunction_at-loop-behind : goal.invariant-disjunction_at-loop-behind
invariant-disjunction_at-loop-behind l = IsJoined FurtherOr (Expression Disjunction) l.lexemes l.left l.rest

abbrev pub decreases-disjunction_at-loop-behind : goal.decreases-disjunction_at-loop-behind
decreases-disjunction_at-loop-behind l = length l.rest
