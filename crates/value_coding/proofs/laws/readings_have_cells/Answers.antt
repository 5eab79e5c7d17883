use Rattle.value_coding.specs.declared.reading.Part.TheVariants.{Size, Key}
use Rattle.value_coding.proofs.GeneralCells.{part-of, slot-cell, size-cell, attr-cell, segment-cell}
use Rattle.value_coding.proofs.laws.readings_have_cells.Goals as goal

pub returns-clause-slots : goal.returns-clause-slots
returns-clause-slots c = λ t pred slot part l h. slot-cell t pred slot part l h

pub returns-clause-sizes : goal.returns-clause-sizes
returns-clause-sizes c = λ t pred slot file l h may. size-cell t pred file l (part-of t pred slot file Size h may)

pub returns-clause-attrs : goal.returns-clause-attrs
returns-clause-attrs c = λ t pred slot file key l k h may. attr-cell t pred file key l k (part-of t pred slot file (Key key) h may)

pub returns-clause-segments : goal.returns-clause-segments
returns-clause-segments c = λ t pred file run l h. segment-cell t pred file run l h
