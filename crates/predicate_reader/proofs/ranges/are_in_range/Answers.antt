use Rattle.std.proofs.Common.{◌∷◌, ◌∙◌, ap}
use Rattle.predicate_reader.proofs.Suffixes.{range_behind, range_with, range_nothing, no_range}
use Rattle.predicate_reader.proofs.ranges.are_in_range.Goals as goal

pub returns-then-is_wide : goal.returns-then-is_wide
returns-then-is_wide c = λ small.
    no_range _ _ (c.in-Some.ensures.cases.0 ∙ ap (λ x. x ∷ c.in-Some.behind.now) c.if-is_wide.ensures) (c.loop-first.invariant.1 small)

pub loop-first-preserved : goal.loop-first-preserved
loop-first-preserved c = (
  λ small. c.loop-first.invariant.0 (range_with _ _ _ c.in-Some.ensures.cases.0 c.if-is_wide.ensures small),
  λ small. range_behind _ _ _ c.in-Some.ensures.cases.0 (c.loop-first.invariant.1 small),
)

pub returns : goal.returns
returns c = c.loop-first.invariant.0 (range_nothing _ c.in_default.ensures.cases)
