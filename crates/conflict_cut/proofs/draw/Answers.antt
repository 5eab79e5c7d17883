use Rattle.std.proofs.Common.{◌≡◌, ◌++◌, ◌∷◌, [], List, ap, sym, subst, ◌∙◌}
use Rattle.std.specs.List.{Contains}
use Rattle.std.proofs.lemmas.Option.{same_Some}
use Rattle.clause_store.specs.declared.Lit.{Lit}
use Rattle.clause_store.specs.Clauses.{negated}
use Rattle.conflict_cut.specs.Cut.{IsGreatest, IsAsserting}
use Rattle.conflict_cut.specs.Draft.{Drafting, IsMarked, IsDrawn, Suffice}
use Rattle.conflict_cut.proofs.Drawing.{begun, conflict-suffices, at-end, drawn-none, asserting-none, drawn-one, asserting-one}
use Rattle.conflict_cut.proofs.draw.Goals as goal
use Rattle.conflict_cut.proofs.draw.Goals.{After-take_all-count}
use Rattle.trail_core.specs.Standing.{AllFail}

suffices : (c : After-take_all-count) → Suffice c.args.store.now.clauses c.args.trail.now.entries c.take_all-count.new.draft.marks
suffices c =
    let f = c.requires.false_clause in
    let fails : AllFail c.args.trail.now.entries c.clause.result.now =
    subst (λ (cl : List Lit). AllFail c.args.trail.now.entries cl) (same_Some f.0 c.clause.result.now (sym f.1 ∙ c.clause.ensures.clause)) f.2 in
    conflict-suffices c.args.store.now.clauses c.args.trail.now c.take_all-count.new.draft.marks c.args.conflict c.clause.result.now c.level.ensures.course c.requires.reasons c.clause.ensures.clause fails c.take_all-count.ensures.taken

pub take_all-count-requires-clause-underway : goal.take_all-count-requires-clause-underway
take_all-count-requires-clause-underway c = begun c.args.trail.now c.args.draft.now c.level.ensures.course (c.requires.len ∙ sym c.requires.over) c.requires.clean c.requires.empty

pub greatest-requires : goal.greatest-requires
greatest-requires c = λ l h.
    let has : Contains c.take_all-count.new.draft.lits l = subst (λ (ls : List Lit). Contains ls l) c.lits.ensures h in
    (c.take_all-count.ensures.underway.kept l has).1

pub returns-then-count-eq0-clause-drawn : goal.returns-then-count-eq0-clause-drawn
returns-then-count-eq0-clause-drawn c =
    drawn-none c.args.store.now.clauses c.args.trail.now c.take_all-count.result c.take_all-count.new.draft c.take_all-count.ensures.underway c.if-count-eq0.true
    (suffices (goal.at.returns-then-count-eq0-clause-drawn c).After-take_all-count)

pub returns-then-count-eq0-clause-asserting : goal.returns-then-count-eq0-clause-asserting
returns-then-count-eq0-clause-asserting c =
    asserting-none c.args.store.now.clauses c.args.trail.now c.take_all-count.result c.take_all-count.new.draft c.args.conflict c.clause.result.now c.greatest.result c.take_all-count.ensures.underway c.if-count-eq0.true c.requires.level c.clause.ensures.clause c.take_all-count.ensures.taken

pub walk-last-requires-clause-walking : goal.walk-last-requires-clause-walking
walk-last-requires-clause-walking c =
    at-end c.args.store.now.clauses c.args.trail.now c.take_all-count.result c.take_all-count.new.draft c.take_all-count.ensures.underway c.if-count-eq0.false
    (suffices (goal.at.walk-last-requires-clause-walking c).After-take_all-count)

pub greatest-level-requires : goal.greatest-level-requires
greatest-level-requires c = λ l h.
    let has : Contains c.walk-last.new.draft.lits l = subst (λ (ls : List Lit). Contains ls l) c.lits-2.ensures h in
    (c.walk-last.ensures.walking.1.underway.kept l has).1

pub returns-clause-drawn : goal.returns-clause-drawn
returns-clause-drawn c =
    let w = c.walk-last.ensures.walking in
    let e = c.walk-last.ensures.last in
    let d = c.walk-last.new.draft in
    let on : IsMarked c.walk-last.new.draft.marks e.0.lit.var = subst (λ (l : Lit). IsMarked c.walk-last.new.draft.marks l.var) (sym e.2) e.4 in
    let lit : negated e.0.lit ≡ c.negated.result = ap negated e.2 ∙ sym c.negated.ensures in
    let now : record d { lits = d.lits ++ negated e.0.lit ∷ [] } ≡ c.keep.new.self =
    ap (λ (l : Lit). record c.walk-last.new.draft { lits = c.walk-last.new.draft.lits ++ l ∷ [] }) lit ∙ sym c.keep.ensures in
    subst (λ (x : Drafting). IsDrawn c.args.store.now.clauses c.args.trail.now x) now
    (drawn-one c.args.store.now.clauses c.args.trail.now w.0 d w.1 e.0 e.1 e.3 on)

pub returns-clause-asserting : goal.returns-clause-asserting
returns-clause-asserting c = λ present.
    let w = c.walk-last.ensures.walking in
    let e = c.walk-last.ensures.last in
    let d = c.walk-last.new.draft in
    let on : IsMarked c.walk-last.new.draft.marks e.0.lit.var = subst (λ (l : Lit). IsMarked c.walk-last.new.draft.marks l.var) (sym e.2) e.4 in
    let lit : negated e.0.lit ≡ c.negated.result = ap negated e.2 ∙ sym c.negated.ensures in
    let now : record d { lits = d.lits ++ negated e.0.lit ∷ [] } ≡ c.keep.new.self =
    ap (λ (l : Lit). record c.walk-last.new.draft { lits = c.walk-last.new.draft.lits ++ l ∷ [] }) lit ∙ sym c.keep.ensures in
    let greatest : IsGreatest c.args.trail.now.entries (λ l. Contains c.walk-last.new.draft.lits l) c.greatest-level.result =
    subst (λ (ls : List Lit). IsGreatest c.args.trail.now.entries (λ l. Contains ls l) c.greatest-level.result) c.lits-2.ensures c.greatest-level.ensures.greatest in
    subst (λ (x : Drafting). IsAsserting c.args.trail.now x.lits c.greatest-level.result) now
    (asserting-one c.args.store.now.clauses c.args.trail.now w.0 d w.1 e.0 e.1 e.3 on c.greatest-level.result greatest)
