use Rattle.std.proofs.Common.{◌<◌, ◌≤◌, ℕ, length, get_or, arith}
use Rattle.branch_rules.specs.Choosing.{IsOpen}
use Rattle.branch_rules.specs.Heap.{rank, rank_of}
use Rattle.branch_rules.proofs.Rising.{under-le, under-ranked, under-split}
use Rattle.branch_rules.proofs.heap.+highest.Goals as goal

pub returns-then-at-heap-clause-best : goal.returns-then-at-heap-clause-best
returns-then-at-heap-clause-best t c = λ i u lt without. absurd (omega (arith, under-le c.args.at i u, lt, c.if-at-heap.true))

pub returns-then-is_passed-clause-best : goal.returns-then-is_passed-clause-best
returns-then-is_passed-clause-best t c = λ i u lt without.
    omega (arith, under-ranked c.args.scores.now c.args.heap.now (length c.args.heap.now) c.requires.ranked c.args.at i u lt, c.if-is_passed.ensures)

pub returns-then-is_open-clause-best : goal.returns-then-is_open-clause-best
returns-then-is_open-clause-best t c = λ i u lt without.
    under-ranked c.args.scores.now c.args.heap.now (length c.args.heap.now) c.requires.ranked c.args.at i u lt

pub returns-clause-best : goal.returns-clause-best
returns-clause-best t c =
    let Q : ℕ → Type 0 = λ i. i < length c.args.heap.now → IsOpen c.args.values.now (get_or c.args.heap.now i 0) → rank c.args.scores.now (get_or c.args.heap.now i 0) ≤ rank_of c.args.scores.now c.highest.result in
    under-split Q c.args.at
    (λ lt without. absurd (c.if-is_open.ensures without))
    (λ i u lt without. omega (arith, c.highest-left.ensures.best i u lt without, c.highest.ensures.kept))
    c.highest.ensures.best
