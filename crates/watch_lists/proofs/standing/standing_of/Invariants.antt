use Rattle.std.proofs.Common.{take}
use Rattle.watch_lists.specs.Standing.{IsStanding}
use Rattle.watch_lists.proofs.standing.standing_of.Given as goal

abbrev pub invariant-loop-lit : goal.invariant-loop-lit
invariant-loop-lit l = IsStanding l.trail.entries (take l.lit-index l.clause) l.found
