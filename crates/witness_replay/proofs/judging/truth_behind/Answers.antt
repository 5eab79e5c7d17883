use Rattle.std.proofs.Common.{ℕ, ◌≡◌, List, length, take, get_or, subst, sym, ◌∙◌, ap, arith}
use Rattle.order_coding.specs.Variables.{IsNumber}
use Rattle.witness_replay.proofs.Permutes.{permuted_length}
use Rattle.witness_replay.proofs.PlacesOfOrders.{before_within}
use Rattle.witness_replay.proofs.judging.truth_behind.Goals as goal

pub split_at-requires : goal.split_at-requires
split_at-requires c =
    omega (arith, c.requires.ordered.1, permuted_length (length c.args.events.now.events) c.args.crash.now.order c.requires.ordered.0, ap (λ (xs : List ℕ). length xs) c.as_slice.ensures)

pub apply-requires-clause-there : goal.apply-requires-clause-there
apply-requires-clause-there c =
    let n = length c.args.events.now.events in
    let k = c.loop-event.event-index in
    let front : c.split_at.result.0.now ≡ take c.args.crash.now.cut c.args.crash.now.order =
    c.split_at.ensures.front ∙ ap (λ (xs : List ℕ). take c.args.crash.now.cut xs) c.as_slice.ensures in
    subst (λ (xs : List ℕ). IsNumber n (get_or xs k 0)) (sym front)
    (before_within n c.args.crash.now.cut k c.args.crash.now.order c.requires.ordered.0 (omega (arith, ap (λ (xs : List ℕ). length xs) front)))
