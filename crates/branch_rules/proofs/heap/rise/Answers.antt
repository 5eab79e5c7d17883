use Rattle.std.proofs.Common.{◌≤◌, ◌∙◌, List, ℕ, length, sym, subst, arith}
use Rattle.branch_rules.specs.Heap.{IsAlmost, IsIndexed, parent}
use Rattle.branch_rules.proofs.Rising.{low-enough, risen}
use Rattle.branch_rules.proofs.heap.rise.Goals as goal

pub returns-then-not-is_above-clause-ranked : goal.returns-then-not-is_above-clause-ranked
returns-then-not-is_above-clause-ranked c = low-enough c.args.scores.now c.up.heap c.args.size c.up.at c.up.invariant.almost c.up.invariant.at_in c.if-not-is_above.ensures

pub up-preserved : goal.up-preserved
up-preserved c =
    let i = c.up.invariant in
    let P : List ℕ → Type 0 = λ xs. IsAlmost c.args.scores.now xs c.args.size (parent c.up.at) in
    let Q : ℕ → Type 0 = λ n. IsIndexed c.exchange.new.heap c.exchange.new.places c.args.count n in
    let len : c.args.size ≤ length c.up.heap = omega (arith, c.requires.size_in, i.indexed.within, i.indexed.room) in
    record {
      len = c.exchange.ensures.indexed.room ∙ i.len;
      indexed = subst Q i.len c.exchange.ensures.indexed;
      almost = subst P (sym c.exchange.ensures.exchanged) (risen c.args.scores.now c.up.heap c.args.size c.up.at i.almost i.at_in len (omega (arith, c.up-test.true)) c.if-not-is_above.ensures);
      at_in = omega (arith, i.at_in, c.up-test.true);
      same = λ p. (λ z. (c.exchange.ensures.same p).0 ((i.same p).0 z), λ z. (i.same p).1 ((c.exchange.ensures.same p).1 z));
    }
