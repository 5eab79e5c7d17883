-- What `events` answers.
use Rattle.std.specs.Prelude.{◌≡◌}
use Rattle.report.specs.Answers.{Answer, EventTable}
use Rattle.ferrite_run.specs.declared.question.Question.{Question}

-- the events of the test, and the pairs of them that the model keeps
abbrev pub IsTable : Question → Answer → Type 0
IsTable q answer = answer ≡ EventTable q.events q.pairs
