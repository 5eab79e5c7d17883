use Rattle.std.proofs.Common.{◌∙◌, ℕ, length, sym, subst}
use Rattle.branch_rules.specs.Heap.{IsIndexed}
use Rattle.branch_rules.proofs.Tables.{still-almost, kept-added}
use Rattle.branch_rules.proofs.activity.add_step.Goals as goal
use Rattle.branch_rules.proofs.activity.add_step.Goals.{After-admit-count}

indexed : (c : After-admit-count) → IsIndexed c.admit-count.new.heap c.admit-count.new.places c.admit-count.result (length c.admit-count.new.heap)
indexed c =
    let P : ℕ → Type 0 = λ n. IsIndexed c.admit-count.new.heap c.admit-count.new.places c.admit-count.result n in
    subst P (sym c.admit-count.ensures.indexed.room) c.admit-count.ensures.indexed

pub rise-requires-clause-almost : goal.rise-requires-clause-almost
rise-requires-clause-almost c =
    still-almost c.args.scores.now c.args.var c.args.step c.requires.there.0 c.requires.there.1 c.admit-count.new.heap c.admit-count.new.places c.admit-count.result (indexed (goal.at.rise-requires-clause-almost c).After-admit-count) c.admit-count.ensures.placed c.admit-count.ensures.almost

pub returns-clause-kept : goal.returns-clause-kept
returns-clause-kept c =
    let P : ℕ → Type 0 = λ n. IsIndexed c.rise.new.heap c.rise.new.places c.admit-count.result n in
    kept-added c.args.scores.now c.args.heap.now c.args.places.now c.admit-count.new.places c.rise.new.heap c.rise.new.places c.args.count c.admit-count.result c.args.step c.args.var
    c.requires.kept c.requires.there.0 c.requires.there.1 c.requires.room c.admit-count.ensures.placed c.admit-count.ensures.others c.rise.ensures.same c.rise.ensures.ranked
    (subst P (c.admit-count.ensures.indexed.room ∙ c.requires.kept.indexed.room) c.rise.ensures.indexed)
