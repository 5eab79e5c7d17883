use Rattle.std.proofs.Common.{◌+◌, ◌||◌, Bool, sym, ◌∙◌, ap}
use Rattle.fer_events.specs.Pairs.{has_pair}
use Rattle.fer_events.specs.Lifting.{lifted_pairs}
use Rattle.fer_events.specs.Rows.{row_upto}
use Rattle.fer_events.proofs.RowLaws.{lifted_rows}
use Rattle.fer_events.proofs.lifting.lift.Goals as goal

pub loop-place-preserved : goal.loop-place-preserved
loop-place-preserved c =
    let places = c.args.places.now in
    let p = c.args.small.now in
    let k = c.loop-place.place in
    record {
      n = c.lift_row.ensures.n ∙ c.loop-place.invariant.n;
      pairs = λ x y.
          c.lift_row.ensures.pairs x y
          ∙ ap (λ (b : Bool). has_pair (lifted_pairs places (row_upto p (k + 1) p.n)) x y || b) (c.loop-place.invariant.pairs x y)
          ∙ sym (lifted_rows places p k x y);
    }
