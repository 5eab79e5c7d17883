use Rattle.std.proofs.Common.{ℕ, sym, subst}
use Rattle.std.specs.List.{All}
use Rattle.clause_store.specs.Clauses.{InVars}
use Rattle.value_coding.specs.QuestionCells.{cells}
use Rattle.value_coding.specs.LastClauses.{value_formula}
use Rattle.predicate_coding.proofs.Central.{witness-values}
use Rattle.predicate_coding.proofs.laws.witnesses_have_values.Goals as goal

pub returns : goal.returns
returns c = λ t kept pred want crash rules forward w.
    witness-values t kept pred want crash rules w
    (c.crashes_have_last_writers.ensures t.events kept (cells t pred) crash forward w.crashes)
    (λ v more long d. c.longer_values_describe_the_same.ensures _ v more crash long d)
    (λ v more long all.
    (c.longer_values_change_nothing.ensures.clauses v more (value_formula t.events kept (cells t pred)).clauses
    (subst (λ (n : ℕ). All (All (InVars n)) (value_formula t.events kept (cells t pred)).clauses) (sym long)
    (c.last_writers_are_over_their_variables.ensures t.events kept (cells t pred) rules.few_events forward))).1 all)
    (λ v d all i cell is. c.one_writer_is_last.ensures.described t.events kept (cells t pred) v crash i cell w.crashes d all is)
