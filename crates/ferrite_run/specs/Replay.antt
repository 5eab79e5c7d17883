-- What `replay` answers.
use Rattle.std.specs.Prelude.{◌≡◌}
use Rattle.fer_events.specs.declared.event.Crash.{Crash}
use Rattle.witness_replay.specs.declared.judgement.CrashJudgement.{CrashJudgement}
use Rattle.witness_replay.specs.declared.judgement.CrashJudgement.TheVariants.{Good}
use Rattle.witness_replay.specs.Judging.{IsJudged}
use Rattle.report.specs.Answers.{Answer, CrashAccepted, CrashRefused}
use Rattle.ferrite_run.specs.declared.question.Question.{Question}

-- the answer to a crash of this judgement: a good one is accepted, any other refused with the reason
abbrev pub answer_to : CrashJudgement → Answer
answer_to Good = CrashAccepted
answer_to judgement = CrashRefused judgement

-- the crash is judged against the question
abbrev pub IsReplayed : Question → Crash → Answer → Type 0
IsReplayed q crash answer =
    (judgement : CrashJudgement) × IsJudged q.events q.pairs.pairs q.litmus.pred q.litmus.want crash judgement × (answer ≡ answer_to judgement)
