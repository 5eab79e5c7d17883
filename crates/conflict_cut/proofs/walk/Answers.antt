use Rattle.std.proofs.Common.{◌≡◌, ◌-◌, false, get_or, ap, sym, subst, ◌∙◌, arith}
use Rattle.clause_store.specs.declared.Lit.{Lit}
use Rattle.conflict_cut.specs.Draft.{IsMarked}
use Rattle.trail_core.proofs.GeneralPlaces.{contains-get}
use Rattle.conflict_cut.proofs.Walking.{not-begun, one-back, entry-of, present, pass-over}
use Rattle.conflict_cut.proofs.walk.Goals as goal

pub overflow_sub-at : goal.overflow_sub-at
overflow_sub-at c = not-begun c.args.store.now.clauses c.args.trail.now c.back.at c.back.count c.back.draft c.back.invariant.walking

pub is_marked-requires-clause-lo : goal.is_marked-requires-clause-lo
is_marked-requires-clause-lo c =
    (entry-of c.args.store.now.clauses c.args.trail.now c.back.at c.back.count c.back.draft c.back.invariant.walking c.back.invariant.within c.lits-lits.result.now c.lits-lits.ensures.lits (record { var = 0; positive = false })).3.0

pub is_marked-requires-clause-hi : goal.is_marked-requires-clause-hi
is_marked-requires-clause-hi c =
    let e = entry-of c.args.store.now.clauses c.args.trail.now c.back.at c.back.count c.back.draft c.back.invariant.walking c.back.invariant.within c.lits-lits.result.now c.lits-lits.ensures.lits (record { var = 0; positive = false }) in
    omega (arith, e.3.1, c.back.invariant.walking.underway.marks_len)

pub returns-then-count-eq1-clause-last : goal.returns-then-count-eq1-clause-last
returns-then-count-eq1-clause-last c =
    let e = entry-of c.args.store.now.clauses c.args.trail.now c.back.at c.back.count c.back.draft c.back.invariant.walking c.back.invariant.within c.lits-lits.result.now c.lits-lits.ensures.lits (record { var = 0; positive = false }) in
    let lit = get_or c.lits-lits.result.now (c.back.at - 1) (record { var = 0; positive = false }) in
    let marked : IsMarked c.back.draft.marks lit.var = sym c.is_marked.ensures ∙ c.if-is_marked.true in
    let on : IsMarked c.back.draft.marks e.0.lit.var = subst (λ (l : Lit). IsMarked c.back.draft.marks l.var) (sym e.2) marked in (
      e.0,
      contains-get c.args.trail.now.entries (c.back.at - 1) e.0 e.1,
      e.2,
      present c.args.store.now.clauses c.args.trail.now (c.back.at - 1) c.back.count c.back.draft
          (one-back c.args.store.now.clauses c.args.trail.now c.back.at c.back.count c.back.draft c.back.invariant.walking) c.requires.reasons e.0 e.1 on,
      marked,
    )

pub go_through-count-requires-clause-here : goal.go_through-count-requires-clause-here
go_through-count-requires-clause-here c =
    let e = entry-of c.args.store.now.clauses c.args.trail.now c.back.at c.back.count c.back.draft c.back.invariant.walking c.back.invariant.within c.lits-lits.result.now c.lits-lits.ensures.lits (record { var = 0; positive = false }) in
    (e.0, e.1, e.2)

pub back-smaller-then-is_marked : goal.back-smaller-then-is_marked
back-smaller-then-is_marked c =
    let begun = not-begun c.args.store.now.clauses c.args.trail.now c.back.at c.back.count c.back.draft c.back.invariant.walking in
    omega (arith, begun)

pub back-smaller : goal.back-smaller
back-smaller c =
    let begun = not-begun c.args.store.now.clauses c.args.trail.now c.back.at c.back.count c.back.draft c.back.invariant.walking in
    omega (arith, begun)

pub back-preserved : goal.back-preserved
back-preserved c =
    let e = entry-of c.args.store.now.clauses c.args.trail.now c.back.at c.back.count c.back.draft c.back.invariant.walking c.back.invariant.within c.lits-lits.result.now c.lits-lits.ensures.lits (record { var = 0; positive = false }) in
    let out : get_or c.back.draft.marks (e.0.lit.var - 1) false ≡ false = ap (λ (l : Lit). get_or c.back.draft.marks (l.var - 1) false) e.2 ∙ sym c.is_marked.ensures ∙ c.if-is_marked.false in
    record {
      walking =
          pass-over c.args.store.now.clauses c.args.trail.now (c.back.at - 1) c.back.count c.back.draft
          (one-back c.args.store.now.clauses c.args.trail.now c.back.at c.back.count c.back.draft c.back.invariant.walking) e.0 e.1 out;
      within = omega (arith, c.back.invariant.within);
    }
