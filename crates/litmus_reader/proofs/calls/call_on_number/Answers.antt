use Rattle.litmus_reader.proofs.Exact.{truncate_read}
use Rattle.litmus_reader.proofs.calls.call_on_number.Goals as goal

pub returns-in-Truncate : goal.returns-in-Truncate
returns-in-Truncate c = truncate_read c.args.name c.args.path c.args.number c.in_range.result c.in-Truncate.is c.in_range.ensures
