use Rattle.std.proofs.Common.{ℕ, ◌≡◌, ◌+◌, inl, inr, true, false, List, length, Contains, ap, sym, ◌∙◌, subst, arith}
use Rattle.std.proofs.lemmas.Bool.{cases_eq}
use Rattle.order_coding.proofs.GeneralOrders.{ordered-contains}
use Rattle.witness_replay.proofs.Permutes.{permutes, permuted_length}
use Rattle.witness_replay.proofs.PlacesOfOrders.{found_is_contained, contained_is_found}
use Rattle.witness_replay.proofs.standing.is_order.Goals as goal

pub returns-then-order-n : goal.returns-then-order-n
returns-then-order-n c = λ is. omega (arith, permuted_length c.args.n c.args.crash.now.order is.0, ap (λ (xs : List ℕ). length xs) c.as_slice-order.ensures)

pub returns-then-not-contains : goal.returns-then-not-contains
returns-then-not-contains c = λ is.
    let k = c.loop-before.before in
    let order = c.as_slice-order.result.now in
    let F : List ℕ → Type 0 = λ xs. Contains xs (k + 1) in
    let there = subst F (sym c.as_slice-order.ensures) (ordered-contains c.args.n c.args.crash.now.order (k + 1) is.0 (omega arith, omega arith)) in
    let bad : false ≡ true = sym c.if-not-contains.true ∙ c.contains.ensures.value ∙ contained_is_found order (k + 1) there in
    cc

pub loop-before-preserved : goal.loop-before-preserved
loop-before-preserved c = λ a above below.
    let k = c.loop-before.before in
    let order = c.as_slice-order.result.now in
    elim (cases_eq a (k + 1)) [
      | inl same ↦
          let F : ℕ → Type 0 = λ x. Contains order x in
          subst F (sym same) (found_is_contained order (k + 1) (sym c.contains.ensures.value ∙ c.if-not-contains.false))
      | inr other ↦ c.loop-before.invariant a above (omega (arith, other))
    ]

pub returns : goal.returns
returns c = (
  permutes c.args.n c.args.crash.now.order (omega (arith, ap (λ (xs : List ℕ). length xs) c.as_slice-order.ensures))
      (λ a is. subst (λ (xs : List ℕ). Contains xs a) c.as_slice-order.ensures (c.loop-before.invariant a is.0 (omega (arith, is.1)))),
  omega arith,
)
