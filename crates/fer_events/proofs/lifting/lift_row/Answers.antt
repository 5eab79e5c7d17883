use Rattle.std.proofs.Common.{◌≡◌, ◌+◌, ◌-◌, ◌||◌, Bool, sym, ◌∙◌, ap, arith}
use Rattle.fer_events.specs.Pairs.{PairList, has_pair}
use Rattle.fer_events.proofs.RowLaws.{lifted_row-listed, lifted_row-other}
use Rattle.fer_events.proofs.lifting.lift_row.Goals as goal
use Rattle.fer_events.proofs.lifting.lift_row.Goals.{then-has, else-has}

pub loop-place-preserved : goal.loop-place-preserved
loop-place-preserved c =
    let places = c.args.places.now in
    let p = c.args.small.now in
    let a = c.args.first in
    let k = c.loop-place.place in
    let before = c.args.large.now.pairs in
    elim c.if-has.branch [
      | then-has w ↦ record {
        n = ap (λ (q : PairList). q.n) w.large-is ∙ w.set.ensures.n ∙ c.loop-place.invariant.n;
        pairs = λ x y.
            let here : (k + 1) - 1 ≡ k = omega arith in
            let more = lifted_row-listed places p a k x y (sym c.has.ensures ∙ w.if-has.true) in
            let was = c.loop-place.invariant.pairs x y in
            let now = w.set.ensures.pairs x y in
            ap (λ (q : PairList). has_pair q.pairs x y) w.large-is ∙ grind (arith, here, more, was, now);
      }
      | else-has w ↦ record {
        n = ap (λ (q : PairList). q.n) w.large-is ∙ c.loop-place.invariant.n;
        pairs = λ x y.
            let same = lifted_row-other places p a k x y (sym c.has.ensures ∙ w.if-has.false) in
            ap (λ (q : PairList). has_pair q.pairs x y) w.large-is ∙ c.loop-place.invariant.pairs x y ∙ ap (λ (b : Bool). b || has_pair before x y) (sym same);
      }
    ]
