use Rattle.text_scan.specs.Lines.{lines_of}
use Rattle.proof_log.specs.declared.fault.LogKind.TheVariants.{BadLine, EndsEarly}
use Rattle.proof_log.specs.Stages.Stage.{fresh}
use Rattle.proof_log.proofs.Failing.{fails_empty, fails_first, fails_so, plain_fault}
use Rattle.proof_log.proofs.reading.read_head.Goals as goal

pub returns-in_default-clause-refused : goal.returns-in_default-clause-refused
returns-in_default-clause-refused c = λ number kind e.
    fails_so fresh 0 (lines_of c.args.bytes.now) 1 EndsEarly c.refused.result number kind c.refused.ensures e
    (fails_empty fresh 0 c.args.bytes.now c.in_default.ensures.cut (λ ended. absurd cc))

pub returns-in-None-clause-refused : goal.returns-in-None-clause-refused
returns-in-None-clause-refused c = λ number kind e.
    fails_so fresh 0 (lines_of c.args.bytes.now) 1 BadLine c.refused-in-None.result number kind c.refused-in-None.ensures e
    (fails_first fresh 0 (lines_of c.args.bytes.now) c.in-Some.line.now (lines_of c.in-Some.rest.now) BadLine c.in-Some.ensures.cut
    (plain_fault fresh c.in-Some.line.now (λ b. b) (λ next step. c.in-None.ensures step.0 step.1)))
