use Rattle.std.proofs.Common.{ℕ, ◌+◌, Option, ◌∙◌, ap, arith}
use Rattle.std.specs.Prelude.{unwrap_or}
use Rattle.std.proofs.lemmas.List.{length-set}
use Rattle.order_coding.proofs.GeneralOrders.{ordered-contains}
use Rattle.witness_replay.proofs.PlacesOfOrders.{places_tell, first_index, one_more_place}
use Rattle.witness_replay.proofs.standing.places_of.Goals as goal

pub loop-before-preserved : goal.loop-before-preserved
loop-before-preserved c =
    let k = c.loop-before.before in
    let order = c.args.order.now in
    let there = ordered-contains c.args.n order (k + 1) c.requires.ordered (omega arith, omega arith) in
    let is = c.unwrap_or.ensures ∙ ap (λ (p : Option ℕ). unwrap_or p 0) c.place_of.ensures ∙ first_index (k + 1) order there in
    record {
      len = length-set c.loop-before.places k c.unwrap_or.result ∙ c.loop-before.invariant.len;
      places = one_more_place order c.loop-before.places k c.unwrap_or.result (omega (arith, c.loop-before.invariant.len)) is c.loop-before.invariant.places;
    }

pub returns : goal.returns
returns c = places_tell c.args.n c.args.order.now c.loop-before.places c.requires.ordered (λ a is. c.loop-before.invariant.places a is.0 (omega (arith, is.1)))
