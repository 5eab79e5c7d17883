use Rattle.std.proofs.Common.{arith}
use Rattle.sync_parts.specs.Sites.{sites_present}
use Rattle.ferrite_run.specs.Done.{Tells}
use Rattle.ferrite_run.specs.Judging.{IsJudgedOver}
use Rattle.ferrite_run.specs.Verify.{IsVerified}
use Rattle.ferrite_run.proofs.Judged.{judged_done}
use Rattle.ferrite_run.proofs.Numbers.{numbers_few}
use Rattle.ferrite_run.proofs.Ready.{replies_more}
use Rattle.ferrite_run.proofs.verifying.verify_named.Goals as goal

pub judge-requires-clause-few : goal.judge-requires-clause-few
judge-requires-clause-few c =
    let named = c.requires.named in
    let few = numbers_few c.args.set.now c.args.log.now.sites named.numbers in
    let full = named.full in
    let most = named.all.few in
    omega (arith, few, full, most)

pub returns : goal.returns
returns c =
    let q = c.args.question.now in
    let log = c.args.log.now in
    let f = c.in_ok-formula.formula in
    let present = sites_present c.args.sites.now c.args.set.now in
    record {
      verified = replies_more (Tells (IsJudgedOver f log)) (Tells (IsVerified q log)) c.judge.result
          (judged_done q log present f (c.in_ok-formula.ensures.about c.args.kind c.requires.named) c.accepted_logs_refute.ensures c.in_ok-formula.ensures.reached) c.judge.ensures.judged;
    }
