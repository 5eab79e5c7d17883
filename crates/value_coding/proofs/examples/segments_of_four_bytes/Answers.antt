use Rattle.value_coding.proofs.GeneralExamples.{one-segments, two-segments}
use Rattle.value_coding.proofs.examples.segments_of_four_bytes.Goals as goal

pub returns-clause-one : goal.returns-clause-one
returns-clause-one c = one-segments

pub returns-clause-two : goal.returns-clause-two
returns-clause-two c = two-segments
