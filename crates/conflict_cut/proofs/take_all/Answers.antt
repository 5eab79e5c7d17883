use Rattle.std.proofs.Common.{◌≡◌, ℕ, inl, inr, false, Some, slice_get, get_or, sym, ◌∙◌, subst, arith, below_more}
use Rattle.std.proofs.lemmas.Option.{slice_get-get_or, slice_get_within, same_Some}
use Rattle.clause_store.specs.declared.Lit.{Lit}
use Rattle.conflict_cut.specs.Draft.{IsTaken}
use Rattle.trail_core.proofs.GeneralPlaces.{contains-get, get-contained}
use Rattle.conflict_cut.proofs.Taking.{taken-stays}
use Rattle.conflict_cut.proofs.take_all.Goals as goal

pub loop-lit-preserved : goal.loop-lit-preserved
loop-lit-preserved c =
    let i = c.loop-lit.lit-index in
    let lit = get_or c.args.clause.now c.loop-lit.lit-index (record { var = 0; positive = false }) in
    let at = slice_get-get_or c.args.clause.now c.loop-lit.lit-index (record { var = 0; positive = false }) c.loop-lit-test.true in
    let es = c.args.trail.now.entries in
    let new = c.take_in-count.new.draft.marks in
    record {
      underway = c.take_in-count.ensures.underway;
      taken = λ k m lt e.
          below_more (λ (j : ℕ). (x : Lit) → slice_get c.args.clause.now j ≡ Some x → IsTaken es new x) i
          (λ j lj x ej. taken-stays es c.loop-lit.draft.marks new c.take_in-count.ensures.stay x (c.loop-lit.invariant.taken j x lj ej))
          (λ x ej. (let P : Lit → Type 0 = λ y. IsTaken es new y in subst P (same_Some lit x (sym at ∙ ej)) c.take_in-count.ensures.taken))
          k lt m e;
      stay = λ p m. c.take_in-count.ensures.stay p (c.loop-lit.invariant.stay p m);
      only = λ p m. elim (c.take_in-count.ensures.only p m) [
        | inl old ↦ c.loop-lit.invariant.only p old
        | inr q ↦ inr (lit, contains-get c.args.clause.now i lit at, q)
      ];
    }

pub returns-clause-taken : goal.returns-clause-taken
returns-clause-taken c = λ l h.
    let at = get-contained c.args.clause.now l h in
    c.loop-lit.invariant.taken at.0 l (omega (arith, slice_get_within c.args.clause.now at.0 l at.1, c.loop-lit-test.false)) at.1
