use Rattle.std.proofs.Common.{arith}
use Rattle.crash_state.proofs.Bytes.{written_by_part}
use Rattle.crash_state.proofs.file_bytes.write_text.Goals as goal

pub returns : goal.returns
returns c = written_by_part _ _ _ _ _ (omega arith) c.copy_from_slice.ensures.after
