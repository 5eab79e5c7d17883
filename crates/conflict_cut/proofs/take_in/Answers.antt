use Rattle.std.proofs.Common.{◌≢◌, ◌+◌, inr, ap, sym, ◌∙◌, arith}
use Rattle.clause_store.specs.declared.Lit.{Lit}
use Rattle.conflict_cut.specs.Draft.{IsUnderway}
use Rattle.conflict_cut.proofs.Taking.{was-false, lit-present, lit-room, lit-low, count-in}
use Rattle.conflict_cut.proofs.take_in.Goals as goal
use Rattle.conflict_cut.proofs.take_in.Goals.{Then-level}

pub returns-then-level-eq0-clause-taken : goal.returns-then-level-eq0-clause-taken
returns-then-level-eq0-clause-taken c =
    let f = was-false c.args.trail.now c.args.draft.now c.args.lit c.is_marked.result c.requires.fails c.is_marked.ensures c.if-is_marked.false in
    inr (f.0, f.1, f.2, sym (c.level_of-level.ensures f.0 f.1 (ap (λ (k : Lit). k.var) f.2)) ∙ c.if-level-eq0.true)

one-more : (c : Then-level) → IsUnderway c.args.trail.now (c.args.count + 1) c.mark.new.self
one-more c =
    let f = was-false c.args.trail.now c.args.draft.now c.args.lit c.is_marked.result c.requires.fails c.is_marked.ensures c.if-is_marked.false in
    lit-present c.args.trail.now c.args.count c.args.draft.now c.requires.underway c.args.lit f c.is_marked.result c.is_marked.ensures c.if-is_marked.false c.mark.new.self c.mark.ensures.marks
    (sym (c.level_of-level.ensures f.0 f.1 (ap (λ (k : Lit). k.var) f.2)) ∙ c.if-level.true ∙ c.level.ensures.level)

pub overflow_add-result : goal.overflow_add-result
overflow_add-result c =
    let u = one-more c in
    omega (arith, count-in c.args.trail.now (c.args.count + 1) c.mark.new.self u, u.marks_len, c.requires.underway.marks_len, c.mark.ensures.short)

pub returns-then-level-clause-underway : goal.returns-then-level-clause-underway
returns-then-level-clause-underway c = one-more c

pub keep-requires : goal.keep-requires
keep-requires c =
    let f = was-false c.args.trail.now c.args.draft.now c.args.lit c.is_marked.result c.requires.fails c.is_marked.ensures c.if-is_marked.false in
    lit-room c.args.trail.now c.args.count c.args.draft.now c.requires.underway c.args.lit f c.is_marked.result c.is_marked.ensures c.if-is_marked.false c.mark.new.self c.mark.ensures.marks

pub returns-clause-underway : goal.returns-clause-underway
returns-clause-underway c =
    let f = was-false c.args.trail.now c.args.draft.now c.args.lit c.is_marked.result c.requires.fails c.is_marked.ensures c.if-is_marked.false in
    let level = c.level_of-level.ensures f.0 f.1 (ap (λ (k : Lit). k.var) f.2) in
    let other : f.0.level ≢ c.args.trail.now.level = λ q. c.if-level.false (level ∙ q ∙ sym c.level.ensures.level) in
    let above : f.0.level ≢ 0 = λ q. c.if-level-eq0.false (level ∙ q) in
    lit-low c.args.trail.now c.args.count c.args.draft.now c.requires.underway c.args.lit f c.is_marked.result c.is_marked.ensures c.if-is_marked.false c.mark.new.self c.mark.ensures.marks
    c.keep.new.self c.keep.ensures other above
