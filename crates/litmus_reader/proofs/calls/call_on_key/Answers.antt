use Rattle.litmus_reader.proofs.Exact.{attr_read}
use Rattle.litmus_reader.proofs.calls.call_on_key.Goals as goal

pub returns-in-Attr : goal.returns-in-Attr
returns-in-Attr c = attr_read c.args.name c.args.path c.args.key c.args.number c.in_range.result c.in-Attr.is c.in_range.ensures
