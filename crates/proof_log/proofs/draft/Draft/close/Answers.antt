use Rattle.proof_log.proofs.DraftSteps.{unasked_fault}
use Rattle.proof_log.proofs.draft.Draft.close.Goals as goal

pub returns-then-awaits_question-clause-taken : goal.returns-then-awaits_question-clause-taken
returns-then-awaits_question-clause-taken c = let a = c.if-awaits_question.ensures in unasked_fault c.args.self.now c.requires.open c.if-awaits_question.ensures.0 c.if-awaits_question.ensures.1
