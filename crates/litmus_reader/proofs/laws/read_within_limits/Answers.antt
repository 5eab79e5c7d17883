use Rattle.text_scan.specs.Lines.{lines_of}
use Rattle.litmus_reader.proofs.Keeping.{kept_limits, stated_formed}
use Rattle.litmus_reader.proofs.laws.read_within_limits.Goals as goal

pub returns : goal.returns
returns c = λ bytes litmus read.
    kept_limits (record { formed = c.kept_limits.ensures.formed; short = c.kept_limits.ensures.short }) read.1 litmus
    (stated_formed c.what_is_said_is_formed.ensures 1 (lines_of bytes) read.1 read.2) read.3
