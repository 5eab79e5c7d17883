use Rattle.std.proofs.Common.{◌<◌, ℕ, sym, subst}
use Rattle.value_coding.proofs.GeneralSegments.{segment-whole, segment-read, place-read, segment-of, places-are, cell-serves}
use Rattle.value_coding.proofs.laws.segments_are_not_divided.Goals as goal

pub returns-clause-events : goal.returns-clause-events
returns-clause-events c = λ t pred file run h. segment-whole t pred file run h

pub returns-clause-readings : goal.returns-clause-readings
returns-clause-readings c = λ t pred file run at len h there some. segment-read t pred file run at len h there some

pub returns-clause-all : goal.returns-clause-all
returns-clause-all c = λ t pred file at len place there low high short.
    segment-of t pred file place (subst (λ (n : ℕ). place < n) (sym places-are) short) (place-read t pred file at len place there low high)

pub returns-clause-cells : goal.returns-clause-cells
returns-clause-cells c = λ t pred cell h. cell-serves t pred cell h
