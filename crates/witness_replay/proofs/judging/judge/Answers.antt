use Rattle.std.proofs.Common.{ℕ, ◌≤◌, List, subst, sym, ◌∙◌}
use Rattle.fer_events.specs.declared.event.Event.{Event}
use Rattle.witness_replay.specs.Judging.{IsOrder, no_order}
use Rattle.witness_replay.specs.Places.{IsParted}
use Rattle.witness_replay.proofs.Judgements.{judged_broken, judged_split, judged_good, judged_untrue, same_bits, other_bits}
use Rattle.witness_replay.proofs.judging.judge.Goals as goal

pub returns-then-not-is_order-clause-judged : goal.returns-then-not-is_order-clause-judged
returns-then-not-is_order-clause-judged c =
    let F : ℕ → Type 0 = λ k. IsOrder k c.args.crash.now → ⊥ in
    no_order (subst F (c.n-n.ensures.n ∙ c.requires.counted) c.if-not-is_order.ensures)

pub returns-in-Some-clause-judged : goal.returns-in-Some-clause-judged
returns-in-Some-clause-judged c =
    judged_broken c.args.events.now c.args.pairs.now c.args.pred.now c.args.want c.args.crash.now c.n-n.result c.as_slice.result.now c.places_of-places.result
    c.requires.counted c.n-n.ensures.n c.as_slice.ensures c.n-n.ensures.listed c.if-not-is_order.ensures c.places_of-places.ensures
    c.in-Some.a c.in-Some.b c.in-Some.ensures

pub returns-in-Some-first_parted-clause-judged : goal.returns-in-Some-first_parted-clause-judged
returns-in-Some-first_parted-clause-judged c =
    judged_split c.args.events.now c.args.pairs.now c.args.pred.now c.args.want c.args.crash.now c.n-n.result c.as_slice.result.now c.places_of-places.result
    c.requires.counted c.n-n.ensures.n c.as_slice.ensures c.n-n.ensures.listed c.if-not-is_order.ensures c.places_of-places.ensures
    c.in-Some-first_parted.txn c.in_default.ensures
    (let F : List Event → Type 0 = λ es. IsParted es c.places_of-places.result c.args.crash.now.cut c.in-Some-first_parted.txn × ((other : ℕ) → IsParted es c.places_of-places.result c.args.crash.now.cut other → c.in-Some-first_parted.txn ≤ other) in
    subst F c.events.ensures c.in-Some-first_parted.ensures)

pub returns-then-truth_behind-want-clause-judged : goal.returns-then-truth_behind-want-clause-judged
returns-then-truth_behind-want-clause-judged c =
    judged_good c.args.events.now c.args.pairs.now c.args.pred.now c.args.want c.args.crash.now c.n-n.result c.as_slice.result.now c.places_of-places.result
    c.requires.counted c.n-n.ensures.n c.as_slice.ensures c.n-n.ensures.listed c.if-not-is_order.ensures c.places_of-places.ensures
    c.in_default.ensures
    (let F : List Event → Type 0 = λ es. (txn : ℕ) → IsParted es c.places_of-places.result c.args.crash.now.cut txn → ⊥ in
    subst F c.events.ensures c.in_default-first_parted.ensures)
    (sym c.truth_behind.ensures.truth ∙ same_bits c.truth_behind.result c.args.want c.if-truth_behind-want.true)

pub returns-else-truth_behind-want-clause-judged : goal.returns-else-truth_behind-want-clause-judged
returns-else-truth_behind-want-clause-judged c =
    judged_untrue c.args.events.now c.args.pairs.now c.args.pred.now c.args.want c.args.crash.now c.n-n.result c.as_slice.result.now c.places_of-places.result
    c.requires.counted c.n-n.ensures.n c.as_slice.ensures c.n-n.ensures.listed c.if-not-is_order.ensures c.places_of-places.ensures
    c.in_default.ensures
    (let F : List Event → Type 0 = λ es. (txn : ℕ) → IsParted es c.places_of-places.result c.args.crash.now.cut txn → ⊥ in
    subst F c.events.ensures c.in_default-first_parted.ensures)
    (λ h. other_bits c.truth_behind.result c.args.want c.if-truth_behind-want.false (c.truth_behind.ensures.truth ∙ h))
