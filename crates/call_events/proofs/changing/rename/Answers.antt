use Rattle.call_events.proofs.Keeping.{link_small}
use Rattle.call_events.proofs.changing.rename.Goals as goal

pub set_file-requires-2 : goal.set_file-requires-2
set_file-requires-2 c = link_small c.args.files.now _ c.args.from.now c.args.to.now c.file_of-file.result c.file_of-file.ensures c.set_file.ensures c.requires
