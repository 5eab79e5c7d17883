-- Sets of literals that grow from round to round.
use Rattle.std.proofs.Common.{◌≡◌, ℕ, ◌+◌, ◌<◌, ◌⊎◌, inl, inr, List, Bool, true, false, ap, sym, ◌∙◌, subst, Some, slice_get, below_more}
use Rattle.std.proofs.lemmas.Option.{same_Some}
use Rattle.std.specs.List.{Contains}
use Rattle.clause_store.specs.declared.Lit.{Lit}
use Rattle.clause_store.specs.Clauses.{negated}
use Rattle.clause_store.specs.Propagation.{Conflicts, HasAll, IsClosedAt}
use Rattle.clause_store.specs.Propagation.IsImplied.{forced}
use Rattle.clause_store.proofs.LeastSet.{closed-no_conflict}
use Rattle.clause_store.proofs.GeneralLiterals.{lit_cases}
use Rattle.rup_checker.specs.Marks.{OthersNegated, AllNegated, AllImplied, IsQuiet}

pub quiet-more :
    (clauses : List (List Lit)) (i : ℕ) (c : List Lit) (set : Lit → Bool)
    → ((k : ℕ) (d : List Lit) → k < i → slice_get clauses k ≡ Some d → IsQuiet d set)
    → slice_get clauses i ≡ Some c → IsQuiet c set
    → (k : ℕ) (d : List Lit) → k < i + 1 → slice_get clauses k ≡ Some d → IsQuiet d set
quiet-more clauses i c set before e here k d h e' =
    let P : ℕ → Type 0 = λ n. (x : List Lit) → slice_get clauses n ≡ Some x → IsQuiet x set in
    let now : P i = λ x ex. subst (λ (y : List Lit). IsQuiet y set) (same_Some c x (sym e ∙ ex)) here in
    below_more P i (λ n l x ex. before n x l ex) now k h d e'

pub sound-forced :
    (clauses : List (List Lit)) (start c : List Lit) (l : Lit) (s t : Lit → Bool)
    → Contains clauses c → Contains c l → OthersNegated c s l
    → ((m : Lit) → t m ≡ true → (s m ≡ true) ⊎ (m ≡ l))
    → AllImplied clauses start s → AllImplied clauses start t
sound-forced clauses start c l s t hc hl others grew all m tm =
    elim (grew m tm) [
      | inl sm ↦ all m sm
      | inr e ↦ rw e (forced c l hc hl (λ k kc ne. all (negated k) (others k kc ne)))
    ]

-- where the set has the negations of all literals of a clause, there is a conflict
pub conflict-found :
    (clauses : List (List Lit)) (start : List Lit) (set : Lit → Bool)
    → AllImplied clauses start set → (c : List Lit) × Contains clauses c × AllNegated c set → Conflicts clauses start
conflict-found clauses start set all found = (found.0, found.1, λ m h. all (negated m) (found.2 m h))

both : (set : Lit → Bool) (l : Lit) → set l ≡ true → set l ≡ false → ⊥
both set l e f = let bad : true ≡ false = sym e ∙ f in cc bad

-- a quiet clause gives propagation nothing to add and is not false
quiet-closed : (c : List Lit) (set : Lit → Bool) → IsQuiet c set → IsClosedAt c set
quiet-closed c set (o, ho, fo, inl is) = λ l hl rest. elim (lit_cases o l) [
  | inl same ↦ ap set (sym same.0) ∙ is
  | inr other ↦ absurd (both set (negated o) (rest o ho other.0) fo)
]
quiet-closed c set (o, ho, fo, inr (m, hm, ne, fm)) = λ l hl rest. elim (lit_cases o l) [
  | inl same ↦ absurd (both set (negated m) (rest m hm (λ e. ne (e ∙ sym same.0))) fm)
  | inr other ↦ absurd (both set (negated o) (rest o ho other.0) fo)
]

-- where all clauses are quiet, there is no conflict
pub quiet-no_conflict :
    (clauses : List (List Lit)) (start : List Lit) (set : Lit → Bool) → HasAll set start
    → ((c : List Lit) → Contains clauses c → IsQuiet c set) → Conflicts clauses start → ⊥
quiet-no_conflict clauses start set has quiet =
    closed-no_conflict clauses start set has (λ c hc. quiet-closed c set (quiet c hc)) (λ c hc. let q = quiet c hc in (q.0, q.1, q.2))
