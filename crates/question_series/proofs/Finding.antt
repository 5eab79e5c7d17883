-- What stays true of a series while its solver searches, and what the end of a search says of the assumed literals.
use Rattle.std.proofs.Common.{◌≡◌, ℕ, ◌+◌, ◌-◌, ◌^◌, min, inl, inr, List, [], ◌++◌, length, Option, Some, None, sym, ◌∙◌, ap, subst, arith}
use Rattle.std.specs.List.{Contains}
use Rattle.std.proofs.lemmas.List.Elements.{Contains-append_left, Contains-append_right, Contains-append_cases}
use Rattle.clause_store.specs.declared.Lit.{Lit}
use Rattle.clause_store.specs.Propagation.{Conflicts, Follows, IsNew, negations}
use Rattle.clause_store.proofs.GeneralLiterals.{negations-negations}
use Rattle.clause_store.proofs.LeastSet.{more-follows, more-conflicts}
use Rattle.clause_store.proofs.InTurn.{turn-join}
use Rattle.cdcl_core.specs.Answering.{Solving, AreLessons, IsVerdict}
use Rattle.cdcl_core.specs.declared.Verdict.TheVariants.{Refuted, Spent}
use Rattle.question_series.specs.Settling.{IsSeries, IsRefuting}

-- what was learned stays, with more behind it
abbrev pub Grows : Solving → Solving → Type 0
Grows old new = (more : List (List Lit)) × (new.learned ≡ old.learned ++ more) × AreLessons (old.clauses ++ old.learned) more

module _ (old new : Solving) (same : new.clauses ≡ old.clauses) (grows : Grows old new) where
  stays : (c : List Lit) → Contains (old.clauses ++ old.learned) c → Contains (new.clauses ++ new.learned) c
  stays c h =
      let longer : Contains (old.clauses ++ (old.learned ++ grows.0)) c = elim (Contains-append_cases old.clauses old.learned c h) [
        | inl first ↦ Contains-append_left old.clauses (old.learned ++ grows.0) c first
        | inr second ↦ Contains-append_right old.clauses (old.learned ++ grows.0) c (Contains-append_left old.learned grows.0 c second)
      ] in
      subst (λ (cs : List (List Lit)). Contains (cs ++ new.learned) c) (sym same)
      (subst (λ (ls : List (List Lit)). Contains (old.clauses ++ ls) c) (sym grows.1) longer)

  -- what is refuted stays refuted
  pub still-refuting : (part : Option (List Lit)) → IsRefuting old part → IsRefuting new part
  still-refuting None is = is
  still-refuting (Some lits) is = more-follows (old.clauses ++ old.learned) (new.clauses ++ new.learned) (negations lits) stays is

  -- lessons stay lessons
  pub still-lessons : AreLessons old.clauses old.learned → AreLessons new.clauses new.learned
  still-lessons before =
      let joined : AreLessons old.clauses (old.learned ++ grows.0) = record {
        follow = turn-join Follows old.clauses old.learned grows.0 before.follow grows.2.follow;
        new = turn-join IsNew old.clauses old.learned grows.0 before.new grows.2.new;
        some = λ h. elim (Contains-append_cases old.learned grows.0 [] h) [
          | inl first ↦ before.some first
          | inr second ↦ grows.2.some second
        ];
      } in
      subst (λ (cs : List (List Lit)). AreLessons cs new.learned) (sym same)
      (subst (λ (ls : List (List Lit)). AreLessons old.clauses ls) (sym grows.1) joined)

module _ (s : Solving) (lits : List Lit) (most : ℕ) where
  -- a part that is refuted meets a conflict
  pub found-refuted : (part : List Lit) → IsVerdict s lits most (Refuted part) → Conflicts (s.clauses ++ s.learned) lits
  found-refuted part (some, follows) =
      more-conflicts (s.clauses ++ s.learned) (s.clauses ++ s.learned) part lits (λ c h. h) some
      (subst (λ (ls : List Lit). Conflicts (s.clauses ++ s.learned) ls) (negations-negations part) follows)

  -- where the limit is met, it is the one that was asked for, and there is no conflict
  pub found-spent : (learned limit : ℕ) → most ≡ min (learned + limit) (2 ^ 64 - 1) → IsVerdict s lits most Spent
      → (length s.learned ≡ learned + limit) × (Conflicts (s.clauses ++ s.learned) lits → ⊥)
  found-spent learned limit is (full, undecided, below) = (
    full ∙ omega (arith, is, below),
    λ found. undecided (subst (λ (ls : List Lit). Conflicts (s.clauses ++ s.learned) ls) (sym (negations-negations lits)) found),
  )

-- so what is true of a series stays so
pub still-series :
    (old new : Solving) (vars count : ℕ) (before after : Option (List Lit)) → new.vars ≡ old.vars → new.clauses ≡ old.clauses → Grows old new
    → IsSeries old vars count before → IsRefuting new after → IsSeries new vars count after
still-series old new vars count before after same_vars same grows series refuting = record {
  vars = series.vars ∙ sym same_vars;
  clauses = series.clauses ∙ ap length (sym same);
  learned = still-lessons old new same grows series.learned;
  refuting = refuting;
}
