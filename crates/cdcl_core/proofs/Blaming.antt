-- Following reasons back along a trail.
use Rattle.std.proofs.Common.{◌≡◌, ℕ, ◌+◌, ◌-◌, ◌<◌, inl, inr, Bool, false, List, [], ◌∷◌, ◌++◌, length, get_or, slice_get, Some, None, ap, sym, ◌∙◌, subst, below_more}
use Rattle.std.specs.List.{Contains}
use Rattle.std.proofs.lemmas.Option.{same_Some}
use Rattle.std.proofs.lemmas.List.Elements.{All-contains, Contains-push, Contains-push_cases, Contains-append_left}
use Rattle.clause_store.specs.declared.Lit.{Lit}
use Rattle.clause_store.specs.Propagation.{IsImplied}
use Rattle.clause_store.specs.Propagation.IsImplied.{forced}
use Rattle.clause_store.specs.Clauses.{InVars}
use Rattle.trail_core.specs.Course.{Entry, Course, IsCourse, lits_of}
use Rattle.trail_core.proofs.GeneralPlaces.{contains-get}
use Rattle.conflict_cut.specs.Cut.{AreReasons}
use Rattle.conflict_cut.specs.Draft.{IsMarked, StayMarked}
use Rattle.conflict_cut.proofs.GeneralLevels.{take-get}
use Rattle.conflict_cut.proofs.Walking.{entry-at}
use Rattle.cdcl_core.specs.Blame.{AreMarked, AreDecided, AreImplied, MarkedAreImplied, Explains}

module _ (clauses : List (List Lit)) (es : List Entry) (at : ℕ) (e : Entry) (here : slice_get es at ≡ Some e) where
  -- one entry more
  up-to : (start : List Lit) (marks : List Bool) → MarkedAreImplied clauses start es marks at → (IsMarked marks e.lit.var → IsImplied clauses start e.lit) → MarkedAreImplied clauses start es marks (at + 1)
  up-to start marks before now k f lt got m =
      below_more (λ (j : ℕ). (x : Entry) → slice_get es j ≡ Some x → IsMarked marks x.lit.var → IsImplied clauses start x.lit) at
      (λ j lj x ej. before j x lj ej)
      (λ x ej mx. (let P : Entry → Type 0 = λ y. IsMarked marks y.lit.var → IsImplied clauses start y.lit in subst P (same_Some e x (sym here ∙ ej)) now mx))
      k lt f got m

  pub explains-none : (marks : List Bool) (part : List Lit) → (IsMarked marks e.lit.var → ⊥) → Explains clauses es at marks marks part part
  explains-none marks part out start implied before = (implied, up-to start marks before (λ m. absurd (out m)))

  pub explains-decided : (marks : List Bool) (part part' : List Lit) → part' ≡ part ++ e.lit ∷ [] → Explains clauses es at marks marks part part'
  explains-decided marks part part' is start implied before =
      let P : List Lit → Type 0 = λ x. AreImplied clauses start x in
      let all = subst P is implied in (
        λ l h. all l (Contains-append_left part (e.lit ∷ []) l h),
        up-to start marks before (λ m. all e.lit (Contains-push part e.lit)),
      )

  pub explains-implied : (marks marks' : List Bool) (part : List Lit) (id : ℕ) (clause : List Lit) → AreReasons clauses es → e.reason ≡ Some id → slice_get clauses id ≡ Some clause
      → AreMarked marks' clause → StayMarked marks marks' → Explains clauses es at marks marks' part part
  explains-implied marks marks' part id clause reasons n got marked stay start implied before = (
    implied,
    up-to start marks (λ k f lt ej m. before k f lt ej (stay (f.lit.var - 1) m)) (λ m.
        let r = reasons at e id here n in
        let same : clause ≡ r.0 = same_Some clause r.0 (sym got ∙ r.1) in
        forced r.0 e.lit (contains-get clauses id r.0 r.1) r.2 (λ x hx ne.
        let f = r.3 x hx ne in
        let there = take-get at es f.0 f.1 in
        let in-clause : Contains clause x = subst (λ y. Contains y x) (sym same) hx in
        let on : IsMarked marks' f.0.lit.var = subst (λ (v : ℕ). IsMarked marks' v) (sym (ap (λ (l : Lit). l.var) f.2)) (marked x in-clause) in
        let P : Lit → Type 0 = λ l. IsImplied clauses start l in
        subst P f.2 (before there.0 f.0 there.1 there.2 on))),
  )

  pub decided-more : (part part' : List Lit) → part' ≡ part ++ e.lit ∷ [] → e.reason ≡ None → AreDecided es part → AreDecided es part'
  decided-more part part' is n k = subst (AreDecided es) (sym is) (λ l h. elim (Contains-push_cases part e.lit l h) [
    | inl old ↦ k l old
    | inr new ↦ (e, contains-get es at e here, new, n)
  ])

-- the entry whose literal is looked at
pub entry-here : (t : Course) (lits : List Lit) (at : ℕ) → IsCourse t → lits ≡ lits_of t.entries → at < length t.entries
    → (e : Entry) × (slice_get t.entries at ≡ Some e) × (e.lit ≡ get_or lits at (record { var = 0; positive = false })) × InVars t.vars (get_or lits at (record { var = 0; positive = false }))
entry-here t lits at course is lt =
    let f = entry-at t.entries at (record { var = 0; positive = false }) lt in
    let same : f.0.lit ≡ get_or lits at (record { var = 0; positive = false }) = f.2 ∙ ap (λ ls. get_or ls at (record { var = 0; positive = false })) (sym is) in
    (f.0, f.1, same, subst (λ (l : Lit). InVars t.vars l) same (All-contains (λ (e : Entry). InVars t.vars e.lit) t.entries f.0 course.named (contains-get t.entries at f.0 f.1)))
