use Rattle.std.proofs.Common.{arith}
use Rattle.witness_replay.proofs.CrashReading.{line_within, text_found}
use Rattle.witness_replay.proofs.reading.crash_of_text.Goals as goal

pub crash_of_line-requires : goal.crash_of_line-requires
crash_of_line-requires c = omega (arith, line_within c.args.bytes.now c.in-Some.line.now c.in-Some.ensures)

pub returns-in-None : goal.returns-in-None
returns-in-None c = λ crash is. c.in-None.ensures is.line is.of_bytes

pub returns-in_ok-found-in-Some : goal.returns-in_ok-found-in-Some
returns-in_ok-found-in-Some c =
    text_found c.args.bytes.now c.in-Some.line.now c.in_ok-found-in-Some.found (omega arith) c.in-Some.ensures c.in_ok-found-in-Some.ensures
