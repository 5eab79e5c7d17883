use Rattle.std.proofs.Common.{arith}
use Rattle.witness_replay.proofs.PlacesOfOrders.{kept_within}
use Rattle.witness_replay.proofs.standing.first_misplaced.Goals as goal

pub loop-before-init : goal.loop-before-init
loop-before-init c = λ a b low broken.
    let is = kept_within c.args.pairs.now a b c.n-n.ensures.listed broken.0 in
    omega (arith, is.0.0, low)

pub returns : goal.returns
returns c = λ a b broken.
    let is = kept_within c.args.pairs.now a b c.n-n.ensures.listed broken.0 in
    c.loop-before.invariant a b (omega (arith, is.0.1, c.n-n.ensures.n)) broken
