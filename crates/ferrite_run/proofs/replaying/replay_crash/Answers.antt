use Rattle.std.proofs.Common.{Bool, subst}
use Rattle.litmus_syntax.specs.declared.pred.Pred.{Pred}
use Rattle.witness_replay.specs.Judging.{IsJudged}
use Rattle.ferrite_run.specs.Done.{Tells}
use Rattle.ferrite_run.specs.Replay.{IsReplayed}
use Rattle.ferrite_run.proofs.Ready.{replies_more, told_only}
use Rattle.ferrite_run.proofs.replaying.replay_crash.Goals as goal

pub returns : goal.returns
returns c =
    let q = c.args.question.now in
    let crash = c.args.crash.now in
    let judgement = c.judge-judgement.result in
    let P : Pred → Bool → Type 0 = λ pred want. IsJudged q.events q.pairs.pairs pred want crash judgement in
    let judged : P q.litmus.pred q.litmus.want = subst (P q.litmus.pred) c.want.ensures (subst (λ pred. P pred c.want.result) c.pred.ensures c.judge-judgement.ensures.judged) in
    record {
      replayed = replies_more _ (Tells (IsReplayed q crash)) c.replied.result
          (λ a e. told_only (IsReplayed q crash) _ a (judgement, judged, c.answer_to.ensures.answered) e) c.replied.ensures.replied;
    }
