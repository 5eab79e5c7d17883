use Rattle.value_coding.proofs.GeneralExamples.{one-cells, one-formula, replaced-cells, replaced-formula}
use Rattle.value_coding.proofs.examples.cells_of_questions.Goals as goal

pub returns-clause-one : goal.returns-clause-one
returns-clause-one c = one-cells

pub returns-clause-one_vars : goal.returns-clause-one_vars
returns-clause-one_vars c = one-formula.0

pub returns-clause-one_clauses : goal.returns-clause-one_clauses
returns-clause-one_clauses c = one-formula.1

pub returns-clause-replaced : goal.returns-clause-replaced
returns-clause-replaced c = replaced-cells

pub returns-clause-replaced_vars : goal.returns-clause-replaced_vars
returns-clause-replaced_vars c = replaced-formula.0

pub returns-clause-replaced_clauses : goal.returns-clause-replaced_clauses
returns-clause-replaced_clauses c = replaced-formula.1
