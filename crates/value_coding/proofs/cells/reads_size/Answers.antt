use Rattle.std.proofs.Common.{sym, ◌∙◌}
use Rattle.value_coding.specs.QuestionCells.{is_size}
use Rattle.value_coding.proofs.ReadParts.{any_read}
use Rattle.value_coding.proofs.cells.reads_size.Goals as goal

pub returns : goal.returns
returns c = c.any_size.ensures ∙ sym (any_read c.args.events.now is_size c.args.file c.args.readings.now)
