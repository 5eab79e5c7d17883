use Rattle.std.proofs.Common.{length}
use Rattle.proof_log.specs.Reading.{AreSitesSoFar}
use Rattle.proof_log.proofs.opening.numbers_of.Given as goal

abbrev pub invariant-loop-site : goal.invariant-loop-site
invariant-loop-site l = AreSitesSoFar l.bytes l.sites.items l.last l.rest

abbrev pub decreases-loop-site : goal.decreases-loop-site
decreases-loop-site l = length l.rest
