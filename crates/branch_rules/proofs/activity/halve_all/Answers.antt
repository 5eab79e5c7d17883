use Rattle.std.proofs.Common.{◌/◌, List, ℕ, sym, subst}
use Rattle.branch_rules.specs.Heap.{IsKept, IsRanked, IsIndexed}
use Rattle.branch_rules.proofs.Tables.{kept-halved}
use Rattle.branch_rules.proofs.activity.halve_all.Goals as goal

pub returns-clause-kept : goal.returns-clause-kept
returns-clause-kept c =
    let P : List ℕ → Type 0 = λ xs. IsKept xs c.rebuild.new.heap c.rebuild.new.places c.args.count (c.args.step / 2) in
    let R : List ℕ → Type 0 = λ xs. IsRanked xs c.rebuild.new.heap c.args.count in
    let Q : ℕ → Type 0 = λ n. IsIndexed c.rebuild.new.heap c.rebuild.new.places c.args.count n in
    subst P (sym c.halve.ensures)
    (kept-halved c.args.scores.now c.args.heap.now c.args.places.now c.rebuild.new.heap c.rebuild.new.places c.args.count c.args.step
    c.requires c.rebuild.ensures.same (subst R c.halve.ensures c.rebuild.ensures.ranked) (subst Q c.requires.indexed.room c.rebuild.ensures.indexed))
