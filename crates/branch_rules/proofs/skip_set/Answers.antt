use Rattle.std.proofs.Common.{◌+◌, ◌-◌, ℕ, Some, None, ◌≢◌, slice_get, take, drop, subst, arith, ◌≡◌}
use Rattle.branch_rules.proofs.Blocks.{block-passed}
use Rattle.branch_rules.proofs.skip_set.Goals as goal

pub block-preserved : goal.block-preserved
block-preserved c =
    let sixty : c.block.start + 64 - c.block.start ≡ 64 = omega arith in
    let P : ℕ → Type 0 = λ n. (i : ℕ) → slice_get (take n (drop c.block.start c.args.values.now)) i ≢ Some None in
    record {
      within = omega (arith, c.block-test.true, c.block.invariant.within);
      passed = block-passed c.args.values.now c.block.start 64 (subst P sixty c.if-not-are_set.ensures) c.block.invariant.passed;
    }
