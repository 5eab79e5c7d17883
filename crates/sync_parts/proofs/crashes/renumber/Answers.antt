use Rattle.std.proofs.Common.{◌≡◌, ◌<◌, length, ◌++◌, ◌==◌, take, not, true, false, sym, ◌∙◌, ap, arith}
use Rattle.std.proofs.lemmas.Bool.Decides.{nat_tests}
use Rattle.std.proofs.lemmas.List.{length-set}
use Rattle.std.proofs.lemmas.Option.{get_or_from_slice_get}
use Rattle.std.specs.Prelude.{slice_index}
use Rattle.sync_parts.proofs.Steps.{put-number, pass-number}
use Rattle.sync_parts.proofs.crashes.renumber.Goals as goal
use Rattle.sync_parts.proofs.crashes.renumber.Goals.{then-number-ne0, else-number-ne0}

pub loop-place-preserved : goal.loop-place-preserved
loop-place-preserved c =
    let numbers = c.args.numbers.now in
    let order = c.loop-place.order in
    let kept = c.loop-place.kept in
    let place = c.loop-place.place in
    let x = c.number_in-number.result in
    let there : place < length order = omega (arith, c.loop-place-test.true, c.len-place-end.ensures, c.loop-place.invariant.same) in
    let is = c.number_in-number.ensures ∙ ap (slice_index numbers) (sym (get_or_from_slice_get order place c.get.result.now 0 c.get.ensures)) in
    elim c.if-number-ne0.branch [
      | then-number-ne0 w ↦
          let some : (not (x == 0)) ≡ true = let e = w.if-number-ne0.true in grind (arith, nat_tests) in
          let set = w.order-is ∙ w.set.ensures in
          rw (set, w.kept-is) (record {
            rest = put-number numbers order kept place x there c.loop-place.invariant.count is some ∙ c.loop-place.invariant.rest;
            count = omega (arith, c.loop-place.invariant.count);
            same = length-set order kept x ∙ c.loop-place.invariant.same;
          })
      | else-number-ne0 w ↦
          let none : (not (x == 0)) ≡ false = let e = w.if-number-ne0.false in grind (arith, nat_tests) in
          rw (w.order-is, w.kept-is) (record {
            rest = ap (λ l. take kept order ++ l) (pass-number numbers order kept place x there c.loop-place.invariant.count is none) ∙ c.loop-place.invariant.rest;
            count = omega (arith, c.loop-place.invariant.count);
            same = c.loop-place.invariant.same;
          })
    ]
