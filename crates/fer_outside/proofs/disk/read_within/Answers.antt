-- The bytes of a read for which no memory was left were read as well.
use Rattle.std.proofs.Common.{◌++◌, take, arith}
use Rattle.std.proofs.lemmas.Grind.{common_steps}
use Rattle.std.proofs.KnownBytes.{Consumes-trans}
use Rattle.fer_outside.proofs.disk.read_within.Goals as goal

pub returns-then-is_err-clause-stops : goal.returns-then-is_err-clause-stops
returns-then-is_err-clause-stops g c =
    let before = c.loop-buffer.bytes.items in
    let last = take c.in-Ok.count c.read.new.buf in (
      before ++ last,
      grind (arith, common_steps),
      Consumes-trans _ _ _ before last c.loop-buffer.invariant.consumed c.in-Ok.ensures.bytes.0,
    )
