use Rattle.std.proofs.Common.{sym, ◌∙◌, subst, arith}
use Rattle.std.proofs.lemmas.Result.{IfOk-weaker}
use Rattle.text_scan.specs.Lines.{lines_of}
use Rattle.proof_log.specs.declared.log.Log.{Log}
use Rattle.proof_log.specs.declared.fault.LogKind.{LogKind}
use Rattle.proof_log.specs.declared.fault.LogKind.TheVariants.{TooLong}
use Rattle.proof_log.specs.declared.fault.LogFault.TheVariants.{Refused}
use Rattle.proof_log.specs.LogFiles.{IsLogText, IsLogRefused}
use Rattle.proof_log.specs.LogFiles.IsLogRefused.{too_long}
use Rattle.proof_log.specs.Stages.{Runs}
use Rattle.proof_log.specs.Stages.Stage.{fresh, ended}
use Rattle.proof_log.proofs.Failing.{same_refusal, same_fault}
use Rattle.proof_log.proofs.Refusing.{fails_refused, run_text}
use Rattle.proof_log.proofs.reading.read.Goals as goal

pub returns-then-bytes-gt-MOST_LOG_BYTES-clause-refused : goal.returns-then-bytes-gt-MOST_LOG_BYTES-clause-refused
returns-then-bytes-gt-MOST_LOG_BYTES-clause-refused c = λ line kind e.
    let same = same_refusal 0 line TooLong kind (sym c.refused.ensures ∙ same_fault {A = Log} c.refused.result (Refused line kind) e) in
    subst (λ (k : LogKind). IsLogRefused c.args.bytes.now line k) same.1 (too_long c.if-bytes-gt-MOST_LOG_BYTES.true (sym same.0))

pub returns-clause-read : goal.returns-clause-read
returns-clause-read c =
    IfOk-weaker c.read_all.result (λ l. Runs fresh (lines_of c.args.bytes.now) (ended l)) (λ l. IsLogText c.args.bytes.now l)
    (λ l run. run_text c.args.bytes.now l (omega (arith, c.if-bytes-gt-MOST_LOG_BYTES.false)) run) c.read_all.ensures.read

pub returns-clause-refused : goal.returns-clause-refused
returns-clause-refused c = λ line kind e.
    fails_refused c.args.bytes.now line kind (omega (arith, c.if-bytes-gt-MOST_LOG_BYTES.false)) (c.read_all.ensures.refused line kind e)
