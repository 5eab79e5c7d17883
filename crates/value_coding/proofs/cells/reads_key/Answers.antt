use Rattle.std.proofs.Common.{sym, ◌∙◌}
use Rattle.value_coding.specs.QuestionCells.{is_key}
use Rattle.value_coding.proofs.ReadParts.{any_read}
use Rattle.value_coding.proofs.cells.reads_key.Goals as goal

pub returns : goal.returns
returns c = c.any_key.ensures ∙ sym (any_read c.args.events.now (is_key c.args.key) c.args.file c.args.readings.now)
