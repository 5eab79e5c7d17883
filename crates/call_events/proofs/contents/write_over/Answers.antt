use Rattle.std.proofs.Common.{arith}
use Rattle.call_events.proofs.FileContents.{written_by_part}
use Rattle.call_events.proofs.contents.write_over.Goals as goal

pub returns : goal.returns
returns c = written_by_part _ _ _ _ _ (omega arith) c.copy_from_slice.ensures.after
