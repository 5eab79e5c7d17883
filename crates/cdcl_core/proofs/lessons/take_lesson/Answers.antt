use Rattle.std.proofs.Common.{ℕ, List, [], ◌∷◌, ◌++◌, ap, sym, ◌∙◌, subst}
use Rattle.std.specs.List.{Contains}
use Rattle.clause_store.specs.declared.Lit.{Lit}
use Rattle.clause_store.specs.Clauses.{Formula}
use Rattle.watch_lists.specs.Watching.{Watching}
use Rattle.cdcl_core.specs.Search.{IsSearch}
use Rattle.cdcl_core.proofs.Step.{jump-back, jump-more, unit-at, search-at, lesson, search-after}
use Rattle.cdcl_core.proofs.lessons.take_lesson.Goals as goal

pub open_lit-lit-requires-clause-some : goal.open_lit-lit-requires-clause-some
open_lit-lit-requires-clause-some c =
    let u = unit-at c.args.engine.now.store c.args.engine.now.watches c.args.engine.now.trail c.cut-level.new.scratch.lits c.lits.result.now c.args.conflict c.cut-level.result
    c.requires.search c.requires.level c.requires.false_clause c.cut-level.ensures.asserting c.cut-level.ensures.below c.lits.ensures c.back_to.new.self c.back_to.ensures in
    (u.0, u.1, u.2)

pub learn-requires-clause-unit : goal.learn-requires-clause-unit
learn-requires-clause-unit c =
    unit-at c.args.engine.now.store c.args.engine.now.watches c.args.engine.now.trail c.cut-level.new.scratch.lits c.lits-2.result.now c.args.conflict c.cut-level.result
    c.requires.search c.requires.level c.requires.false_clause c.cut-level.ensures.asserting c.cut-level.ensures.below c.lits-2.ensures c.back_to.new.self c.back_to.ensures

pub returns-in_err-id-clause-search : goal.returns-in_err-id-clause-search
returns-in_err-id-clause-search c =
    let P : Formula → Type 0 = λ f. IsSearch f.clauses c.learn.new.watches.list c.back_to.new.self in
    let Q : Watching → Type 0 = λ w. IsSearch c.args.engine.now.store.clauses w.list c.back_to.new.self in
    subst P (sym c.in_err-id.ensures.same) (subst Q (sym c.in_err-id.ensures.same_watches)
    (search-at c.args.engine.now.store c.args.engine.now.watches c.args.engine.now.trail c.cut-level.new.scratch.lits c.lits-2.result.now c.args.conflict c.cut-level.result
    c.requires.search c.requires.level c.requires.false_clause c.cut-level.ensures.asserting c.cut-level.ensures.below c.lits-2.ensures c.back_to.new.self c.back_to.ensures))

pub returns-in_err-id-clause-jump : goal.returns-in_err-id-clause-jump
returns-in_err-id-clause-jump c = jump-back c.args.engine.now.trail c.back_to.new.self c.cut-level.result c.cut-level.ensures.below c.back_to.ensures

pub returns-clause-search : goal.returns-clause-search
returns-clause-search c =
    let P : List Lit → Type 0 = λ xs. Contains xs c.open_lit-lit.result in
    search-after c.args.engine.now.store c.args.engine.now.watches c.args.engine.now.trail c.cut-level.new.scratch.lits c.lits-2.result.now c.args.conflict c.cut-level.result
    c.requires.search c.requires.level c.requires.false_clause c.cut-level.ensures.asserting c.cut-level.ensures.below c.lits-2.ensures
    c.learn.new.store c.learn.new.watches c.back_to.new.self c.imply.new.self c.open_lit-lit.result c.in_ok-id.id c.back_to.ensures c.requires.over.trail_vars c.cut-level.ensures.named
    (subst P (c.lits.ensures ∙ sym c.lits-2.ensures) c.open_lit-lit.ensures.has) c.open_lit-lit.ensures.free c.in_ok-id.ensures.number c.in_ok-id.ensures.store c.in_ok-id.ensures.hooked c.imply.ensures

pub returns-clause-jump : goal.returns-clause-jump
returns-clause-jump c =
    jump-more c.args.engine.now.trail c.back_to.new.self c.imply.new.self c.open_lit-lit.result c.in_ok-id.id
    (jump-back c.args.engine.now.trail c.back_to.new.self c.cut-level.result c.cut-level.ensures.below c.back_to.ensures) c.imply.ensures

pub returns-clause-lesson : goal.returns-clause-lesson
returns-clause-lesson c = (
  c.lits-2.result.now,
  lesson c.args.engine.now.store c.args.engine.now.watches c.args.engine.now.trail c.cut-level.new.scratch.lits c.lits-2.result.now c.args.conflict c.cut-level.result
      c.requires.search c.requires.level c.requires.false_clause c.cut-level.ensures.asserting c.cut-level.ensures.below c.lits-2.ensures c.cut-level.ensures.follows,
  c.in_ok-id.ensures.store,
  c.in_ok-id.ensures.learned ∙ ap (λ (n : ℕ). c.args.engine.now.learned ++ n ∷ []) c.in_ok-id.ensures.number,
)
