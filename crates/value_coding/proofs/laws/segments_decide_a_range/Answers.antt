use Rattle.std.proofs.Common.{arith}
use Rattle.value_coding.proofs.GeneralRanges.{parts-of-range, range-of-parts}
use Rattle.value_coding.proofs.laws.segments_decide_a_range.Goals as goal

pub returns : goal.returns
returns c = λ t pred file at text row reads room long. (
  λ e. parts-of-range t pred file at text row reads e,
  λ has. range-of-parts t pred file at text row reads room (omega arith) has,
)
