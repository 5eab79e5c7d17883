use Rattle.litmus_reader.proofs.Exact.{write_read}
use Rattle.litmus_reader.proofs.calls.call_on_place.Goals as goal

pub returns-in-Write : goal.returns-in-Write
returns-in-Write c = write_read c.args.name c.args.path c.args.number c.in_range.result c.args.text c.in-Write.is c.in_range.ensures
