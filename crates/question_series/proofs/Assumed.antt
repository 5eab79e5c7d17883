-- The literals of kept pairs, beside the clauses of a question without them.
use Rattle.std.proofs.Common.{◌≡◌, ℕ, suc, ◌+◌, ◌≤◌, ◌<◌, Bool, true, false, not, List, [], ◌∷◌, ◌++◌, length, map, refl, sym, ◌∙◌, ap, subst, arith, append_assoc}
use Rattle.std.specs.List.{All, Contains}
use Rattle.std.proofs.lemmas.List.Elements.{All-weaker, All-map, All-contains, All-contains_itself}
use Rattle.std.proofs.lemmas.Bool.Decides.{nat_tests}
use Rattle.litmus_syntax.specs.declared.pred.Pred.{Pred}
use Rattle.clause_store.specs.declared.Lit.{Lit}
use Rattle.clause_store.specs.Clauses.{InVars, negated}
use Rattle.clause_store.specs.Propagation.{HasAll, units}
use Rattle.clause_store.specs.Truth.{is_true, MakesTrue, MakesAllTrue}
use Rattle.clause_store.proofs.GeneralLists.{Contains-from_map}
use Rattle.fer_events.specs.Orders.{AreForward}
use Rattle.fer_events.specs.Tables.{Trace}
use Rattle.order_coding.specs.Variables.{order_vars, before_lit}
use Rattle.order_coding.specs.Families.{kept_pairs, order_clauses}
use Rattle.order_coding.proofs.GeneralLists.{Any-here}
use Rattle.order_coding.proofs.GeneralLiterals.{before_lit-within}
use Rattle.order_coding.proofs.Named.{kept-first}
use Rattle.value_coding.specs.QuestionCells.{cells}
use Rattle.value_coding.specs.LastClauses.{each_last}
use Rattle.value_coding.specs.Writers.{writers}
use Rattle.predicate_coding.specs.Coding.{coding, cell_vars, node_in, wanted}
use Rattle.predicate_coding.specs.Nodes.{own_lit}
use Rattle.question_series.specs.Assumed.{kept_lits}

-- values that make literals true make each true as a clause
units-true : (values : List Bool) (lits : List Lit) → HasAll (is_true values) lits → MakesAllTrue values (units lits)
units-true values lits all =
    All-map (MakesTrue values) (λ l. l ∷ []) lits
    (All-weaker (Contains lits) (λ l. MakesTrue values (l ∷ [])) (λ l h. Any-here (λ m. is_true values m ≡ true) l [] (all l h)) lits (All-contains_itself lits))

module _ (n : ℕ) where
  abbrev IsForward : ℕ × ℕ → Type 0
  IsForward p = (1 ≤ p.0) × (p.0 < p.1) × (p.1 ≤ n)

  -- the literals are of the order's variables
  lit-named : (p : ℕ × ℕ) → IsForward p → InVars (order_vars n) (before_lit n p.0 p.1)
  lit-named p (low, less, high) =
      before_lit-within n p.0 p.1 (low, omega (arith, less, high)) (omega (arith, low, less), high) (λ e. omega (arith, less, e))

  pub lits-named : (vars : ℕ) (kept : List (ℕ × ℕ)) → order_vars n ≤ vars → AreForward n kept → All (InVars vars) (kept_lits n kept)
  lits-named vars kept room forward =
      All-map (InVars vars) (λ p. before_lit n p.0 p.1) kept
      (All-weaker IsForward (λ p. InVars vars (before_lit n p.0 p.1)) (λ p f. let named = lit-named p f in (named.0, omega (arith, named.1, room))) kept forward)

  -- each is a variable, not the negation of one
  lit-positive : (p : ℕ × ℕ) → IsForward p → (before_lit n p.0 p.1).positive ≡ true
  lit-positive p (low, less, high) = grind (arith, nat_tests)

  positive : (kept : List (ℕ × ℕ)) (l : Lit) → AreForward n kept → Contains (kept_lits n kept) l → l.positive ≡ true
  positive kept l forward h =
      let from = Contains-from_map (λ p. before_lit n p.0 p.1) kept l h in
      sym (ap (λ (m : Lit). m.positive) from.2) ∙ lit-positive from.0 (All-contains IsForward kept from.0 forward from.1)

  -- so none stands beside its negation
  pub lits-apart : (kept : List (ℕ × ℕ)) → AreForward n kept → (l : Lit) → Contains (kept_lits n kept) l → Contains (kept_lits n kept) (negated l) → ⊥
  lits-apart kept forward l h k =
      let bad : false ≡ true = sym (ap not (positive kept l forward h)) ∙ positive kept (negated l) forward k in cc

  -- as clauses, they are those of the kept pairs
  pub units-kept : (kept : List (ℕ × ℕ)) → units (kept_lits n kept) ≡ kept_pairs n kept
  units-kept [] = refl
  units-kept (p ∷ ps) = ap (λ cs. (before_lit n p.0 p.1 ∷ []) ∷ cs) (units-kept ps)

  pub count-kept : (kept : List (ℕ × ℕ)) → length (kept_pairs n kept) ≡ length kept
  count-kept [] = refl
  count-kept (p ∷ ps) = ap suc (count-kept ps)

  -- values that make them true make the clauses true
  pub kept-true : (values : List Bool) (kept : List (ℕ × ℕ)) → HasAll (is_true values) (kept_lits n kept) → MakesAllTrue values (kept_pairs n kept)
  kept-true values kept all = subst (MakesAllTrue values) (units-kept kept) (units-true values (kept_lits n kept) all)

front : (k o without l n w : List (List Lit)) → o ≡ k ++ without → o ++ l ++ n ++ w ≡ k ++ (without ++ l ++ n ++ w)
front k o without l n w is =
    ap (λ cs. cs ++ l ++ n ++ w) is ∙ ap (λ cs. cs ++ n ++ w) (append_assoc k without l) ∙ ap (λ cs. cs ++ w) (append_assoc k (without ++ l) n)
    ∙ append_assoc k (without ++ l ++ n) w

-- the clauses of kept pairs stand before those of the question without them
pub coded-front :
    (t : Trace) (kept : List (ℕ × ℕ)) (pred : Pred) (want : Bool)
    → (coding t kept pred want).clauses ≡ kept_pairs (length t.events) kept ++ (coding t [] pred want).clauses
coded-front t kept pred want =
    front (kept_pairs (length t.events) kept) (order_clauses t.events kept) (order_clauses t.events [])
    (each_last (length t.events) (order_vars (length t.events) + 1) (map (writers t.events) (cells t pred)))
    ((node_in t pred pred).clauses (cell_vars t pred + 1))
    ((wanted (own_lit (node_in t pred pred) (cell_vars t pred + 1)) want ∷ []) ∷ [])
    (kept-first t.events kept)
