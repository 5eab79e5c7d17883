use Rattle.std.proofs.Common.{refl, ◌∙◌, arith}
use Rattle.std.proofs.lemmas.List.{length-set}
use Rattle.sync_parts.proofs.Tables.{none-numbered, few-places, next-number}
use Rattle.sync_parts.proofs.crashes.new_numbers.Goals as goal

pub loop-place-init : goal.loop-place-init
loop-place-init c = record { numbered = λ x. none-numbered 129 x; long = refl }

pub overflow_cast-numbers : goal.overflow_cast-numbers
overflow_cast-numbers c =
    let few = few-places c.args.places.now c.requires.ascending c.requires.within c.loop-place.place c.loop-place-test.true in
    omega (arith, few)

pub overflow_add-numbers : goal.overflow_add-numbers
overflow_add-numbers c =
    let few = few-places c.args.places.now c.requires.ascending c.requires.within c.loop-place.place c.loop-place-test.true in
    omega (arith, few)

pub loop-place-preserved : goal.loop-place-preserved
loop-place-preserved c =
    let places = c.args.places.now in
    let k = c.loop-place.place in
    record {
      numbered = λ x. next-number places c.loop-place.numbers k c.loop-place-test.true c.requires.ascending c.requires.within c.loop-place.invariant.long c.loop-place.invariant.numbered x;
      long = length-set c.loop-place.numbers _ _ ∙ c.loop-place.invariant.long;
    }
