use Rattle.std.proofs.Common.{arith, ◌≡◌, get_or, false, ◌∙◌}
use Rattle.std.proofs.lemmas.Bool.Decides.{nat_tests}
use Rattle.std.proofs.lemmas.List.{length-set}
use Rattle.sync_shrink.specs.Sets.{without}
use Rattle.sync_shrink.specs.Steps.{at_trial}
use Rattle.sync_shrink.proofs.SetLaws.{trial-value, fill-more, fill-all}
use Rattle.sync_shrink.proofs.walking.fill_trial.Goals as goal
use Rattle.sync_shrink.proofs.walking.fill_trial.Goals.{then-place-thing, else-place-thing+then-place-thing-2, else-place-thing+else-place-thing-2}

pub loop-place-preserved : goal.loop-place-preserved
loop-place-preserved c =
    let i = c.loop-place.invariant in
    let value = trial-value c.args.kept.now c.args.thing c.loop-place.place c.loop-place-test.true in
    let v : c.if-place-thing.trial ≡ get_or (without c.args.thing (at_trial c.args.thing c.args.kept.now)) c.loop-place.place false =
    elim c.if-place-thing.branch [
      | then-place-thing w ↦ grind (arith, nat_tests, value)
      | else-place-thing+then-place-thing-2 w ↦ grind (arith, nat_tests, value)
      | else-place-thing+else-place-thing-2 w ↦ grind (arith, nat_tests, value)
    ] in
    record {
      full = length-set c.loop-place.trial c.loop-place.place c.if-place-thing.trial ∙ i.full;
      filled = fill-more c.loop-place.trial c.args.kept.now c.args.thing c.loop-place.place c.if-place-thing.trial i.full c.loop-place-test.true i.filled v;
    }

pub returns : goal.returns
returns c =
    let i = c.loop-place.invariant in
    fill-all c.loop-place.trial c.args.kept.now c.args.thing c.loop-place.place i.full c.loop-place-test.false i.filled
