use Rattle.std.proofs.Common.{arith}
use Rattle.value_coding.proofs.MarkSteps.{behind_more, behind_all}
use Rattle.value_coding.proofs.marking.end_of.Goals as goal

pub loop-part-preserved : goal.loop-part-preserved
loop-part-preserved c = record {
  within = c.later-end.ensures.within c.loop-part.invariant.within c.part_end.ensures.within;
  behind = λ p low high.
      behind_more c.args.parts.now c.loop-part.part-index p _ (omega arith)
      (c.loop-part.invariant.behind p (omega (arith, c.later-end.ensures.first)) high)
      (c.part_end.ensures.behind p (omega (arith, c.later-end.ensures.second)) high);
}

pub returns-clause-behind : goal.returns-clause-behind
returns-clause-behind c = λ p low high.
    behind_all c.args.parts.now c.loop-part.part-index p (omega arith) (c.loop-part.invariant.behind p low high)
