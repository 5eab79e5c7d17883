use Rattle.std.proofs.Common.{◌≡◌, ◌-◌, ◌++◌, ◌∷◌, [], Bool, true, false, List, get_or, ap, sym, ◌∙◌, arith}
use Rattle.std.proofs.lemmas.Option.{slice_get_within}
use Rattle.clause_store.specs.declared.Lit.{Lit}
use Rattle.trail_core.proofs.GeneralPlaces.{contains-get}
use Rattle.conflict_cut.specs.Draft.{IsMarked}
use Rattle.cdcl_core.proofs.Blaming.{entry-here, explains-none, explains-decided, explains-implied, decided-more}
use Rattle.cdcl_core.proofs.blame.step_back.Goals as goal

pub overflow_sub-lit : goal.overflow_sub-lit
overflow_sub-lit c = (entry-here c.args.trail.now c.lits.result.now c.args.at c.requires.course c.lits.ensures.lits c.requires.there).3.0

pub bounds-marks-lit : goal.bounds-marks-lit
bounds-marks-lit c =
    let e = entry-here c.args.trail.now c.lits.result.now c.args.at c.requires.course c.lits.ensures.lits c.requires.there in
    omega (arith, e.3.0, e.3.1, c.requires.len, c.requires.over)

unmarked : (marks : List Bool) (l m : Lit) → l ≡ m → get_or marks (m.var - 1) false ≡ false → IsMarked marks l.var → ⊥
unmarked marks l m e out on = (let bad : true ≡ false = sym on ∙ ap (λ (x : Lit). get_or marks (x.var - 1) false) e ∙ out in cc)

pub returns-then-not-marks-lit-clause-explains : goal.returns-then-not-marks-lit-clause-explains
returns-then-not-marks-lit-clause-explains c =
    let e = entry-here c.args.trail.now c.lits.result.now c.args.at c.requires.course c.lits.ensures.lits c.requires.there in
    explains-none c.args.store.now.clauses c.args.trail.now.entries c.args.at e.0 e.1 c.args.marks.now c.args.part.now
    (unmarked c.args.marks.now e.0.lit (get_or c.lits.result.now c.args.at (record { var = 0; positive = false })) e.2 c.if-not-marks-lit.true)

pub reason_of-requires : goal.reason_of-requires
reason_of-requires c =
    let e = entry-here c.args.trail.now c.lits.result.now c.args.at c.requires.course c.lits.ensures.lits c.requires.there in
    (e.0, contains-get c.args.trail.now.entries c.args.at e.0 e.1, ap (λ (l : Lit). l.var) e.2)

pub clause-requires : goal.clause-requires
clause-requires c =
    let e = entry-here c.args.trail.now c.lits.result.now c.args.at c.requires.course c.lits.ensures.lits c.requires.there in
    let n = sym (c.reason_of.ensures e.0 (contains-get c.args.trail.now.entries c.args.at e.0 e.1) (ap (λ (l : Lit). l.var) e.2)) ∙ c.in-Some.is in
    let r = c.requires.reasons c.args.at e.0 c.in-Some.id e.1 n in
    slice_get_within c.args.store.now.clauses c.in-Some.id r.0 r.1

pub returns-in_ok-push-in-None-clause-decided : goal.returns-in_ok-push-in-None-clause-decided
returns-in_ok-push-in-None-clause-decided c =
    let e = entry-here c.args.trail.now c.lits.result.now c.args.at c.requires.course c.lits.ensures.lits c.requires.there in
    let n = sym (c.reason_of.ensures e.0 (contains-get c.args.trail.now.entries c.args.at e.0 e.1) (ap (λ (l : Lit). l.var) e.2)) ∙ c.in-None.is in
    decided-more c.args.store.now.clauses c.args.trail.now.entries c.args.at e.0 e.1 c.args.part.now c.push.new.self
    (c.in_ok-push-in-None.ensures.ok ∙ ap (λ (l : Lit). c.args.part.now ++ l ∷ []) (sym e.2)) n c.requires.decided

pub returns-in_ok-push-in-None-clause-explains : goal.returns-in_ok-push-in-None-clause-explains
returns-in_ok-push-in-None-clause-explains c =
    let e = entry-here c.args.trail.now c.lits.result.now c.args.at c.requires.course c.lits.ensures.lits c.requires.there in
    explains-decided c.args.store.now.clauses c.args.trail.now.entries c.args.at e.0 e.1 c.args.marks.now c.args.part.now c.push.new.self
    (c.in_ok-push-in-None.ensures.ok ∙ ap (λ (l : Lit). c.args.part.now ++ l ∷ []) (sym e.2))

pub returns-in-Some-clause-explains : goal.returns-in-Some-clause-explains
returns-in-Some-clause-explains c =
    let e = entry-here c.args.trail.now c.lits.result.now c.args.at c.requires.course c.lits.ensures.lits c.requires.there in
    let n = sym (c.reason_of.ensures e.0 (contains-get c.args.trail.now.entries c.args.at e.0 e.1) (ap (λ (l : Lit). l.var) e.2)) ∙ c.in-Some.is in
    explains-implied c.args.store.now.clauses c.args.trail.now.entries c.args.at e.0 e.1 c.args.marks.now c.mark_all.new.marks c.args.part.now c.in-Some.id c.clause.result.now
    c.requires.reasons n c.clause.ensures.clause c.mark_all.ensures.marked c.mark_all.ensures.stay
