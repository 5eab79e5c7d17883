use Rattle.value_coding.proofs.Decides.{last-decides}
use Rattle.value_coding.proofs.GeneralSegments.{question-decides}
use Rattle.value_coding.proofs.laws.the_last_writer_decides.Goals as goal

pub returns-clause-cell : goal.returns-clause-cell
returns-clause-cell c = λ t cell order rules there whole. last-decides t cell order rules there whole

pub returns-clause-question : goal.returns-clause-question
returns-clause-question c = λ t pred cell order rules h. question-decides t pred cell order rules h
