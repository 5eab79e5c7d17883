use Rattle.std.proofs.Common.{◌≡◌, drop}
use Rattle.call_events.specs.Refusals.{first_of}
use Rattle.call_events.proofs.refusing.first_of.Given as goal

abbrev pub invariant-loop-cause : goal.invariant-loop-cause
invariant-loop-cause l = first_of (drop l.cause-index l.causes) ≡ first_of l.causes
