use Rattle.std.proofs.Common.{rules, ◌≡◌, ℕ, List, Option}
use Rattle.litmus_syntax.specs.declared.site.SiteKind.{SiteKind}
use Rattle.text_scan.specs.Lines.{lines_of}
use Rattle.proof_log.specs.declared.fault.LogKind.TheVariants.{BadLine, EndsEarly}
use Rattle.proof_log.specs.LogText.{sites_line}
use Rattle.proof_log.specs.Stages.{MayBeMadeWith}
use Rattle.proof_log.specs.Stages.Stage.{headed}
use Rattle.proof_log.proofs.Failing.{fails_empty, fails_first, fails_so, plain_fault}
use Rattle.proof_log.proofs.reading.read_sites.Goals as goal

pub returns-in_default-clause-refused : goal.returns-in_default-clause-refused
returns-in_default-clause-refused c = λ number kind e.
    fails_so (headed c.args.second) 1 (lines_of c.args.bytes.now) 2 EndsEarly c.refused.result number kind c.refused.ensures e
    (fails_empty (headed c.args.second) 1 c.args.bytes.now c.in_default.ensures.cut (λ ended. absurd cc))

pub returns-in-None-clause-refused : goal.returns-in-None-clause-refused
returns-in-None-clause-refused c = λ number kind e.
    let none : (made : Option SiteKind) (sites : List ℕ) → MayBeMadeWith c.args.second made sites → c.in-Some.line.now ≡ sites_line made sites → ⊥ = search rules in
    fails_so (headed c.args.second) 1 (lines_of c.args.bytes.now) 2 BadLine c.refused-in-None.result number kind c.refused-in-None.ensures e
    (fails_first (headed c.args.second) 1 (lines_of c.args.bytes.now) c.in-Some.line.now (lines_of c.in-Some.rest.now) BadLine c.in-Some.ensures.cut
    (plain_fault (headed c.args.second) c.in-Some.line.now (λ b. b) (λ next step. none step.0 step.1 step.2 step.3)))
