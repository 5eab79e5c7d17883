-- Each clause of last writers is over the variables of the order and of the cells.
use Rattle.std.proofs.Common.{◌≢◌, ℕ, ◌+◌, ◌-◌, ◌≤◌, inl, inr, List, [], ◌∷◌, ◌++◌, length, map, sym, arith}
use Rattle.std.specs.List.{All}
use Rattle.std.proofs.lemmas.Bool.{cases_eq, eq-eqb}
use Rattle.std.proofs.lemmas.List.Elements.{All-append, All-nil, All-cons, All-map, All-weaker}
use Rattle.clause_store.specs.declared.Lit.{Lit}
use Rattle.clause_store.specs.Clauses.{InVars, negated}
use Rattle.fer_events.specs.declared.event.Event.{Event}
use Rattle.fer_events.specs.Orders.{numbers}
use Rattle.order_coding.specs.Variables.{IsNumber, order_vars, in_lit, before_lit}
use Rattle.order_coding.specs.Families.{order_clauses}
use Rattle.order_coding.proofs.GeneralLists.{All-from_contains, All-flat_map, eq-no, order-of}
use Rattle.order_coding.proofs.GeneralLiterals.{in_lit-within, before_lit-within}
use Rattle.order_coding.proofs.GeneralOrders.{numbers-within}
use Rattle.value_coding.specs.declared.cell.Cell.{Cell}
use Rattle.value_coding.specs.Writers.{writers}
use Rattle.value_coding.specs.LastClauses.{last_lit, writer_at, some_last, other_before, last_is, none_is, last_clauses, each_last, last_vars, value_formula}
use Rattle.value_coding.specs.LastWriting.{AreWriters, lasts, nones, others}
use Rattle.value_coding.proofs.LastStages.{some-named}
use Rattle.value_coding.proofs.CodedSteps.{are-writers}

module _ (n first vars : ℕ) (ws : List ℕ) (w : AreWriters n ws) (some : 1 ≤ first) (room : first + length ws ≤ vars) (order : order_vars n ≤ vars) where
  abbrev Is : Lit → Type 0
  Is = InVars vars

  wide : (l : Lit) → InVars (order_vars n) l → Is l
  wide l h = (h.0, omega (arith, h.1, order))

  last-in : (j : ℕ) → j ≤ length ws → Is (last_lit first j)
  last-in j h = (omega arith, omega arith)

  number : (k : ℕ) → IsNumber (length ws) k → IsNumber n (writer_at ws k)
  number k is = w.numbers (k - 1) 0 (omega (arith, is.0, is.1))

  apart : (j k : ℕ) → IsNumber (length ws) j → IsNumber (length ws) k → k ≢ j → writer_at ws k ≢ writer_at ws j
  apart j k ij ik ne = elim (order-of k j) [
    | inl l ↦ w.apart (k - 1) (j - 1) 0 (omega (arith, ik.0)) (omega (arith, ij.0, ij.1))
    | inr (inl same) ↦ absurd (ne same)
    | inr (inr l) ↦ λ e. w.apart (j - 1) (k - 1) 0 (omega (arith, ij.0)) (omega (arith, ik.0, ik.1)) (sym e)
  ]

  in-in : (k : ℕ) → IsNumber (length ws) k → Is (in_lit (writer_at ws k))
  in-in k is = wide (in_lit (writer_at ws k)) (in_lit-within n (writer_at ws k) (number k is))

  before-in : (j k : ℕ) → IsNumber (length ws) j → IsNumber (length ws) k → k ≢ j → Is (before_lit n (writer_at ws k) (writer_at ws j))
  before-in j k ij ik ne =
      wide (before_lit n (writer_at ws k) (writer_at ws j))
      (before_lit-within n (writer_at ws k) (writer_at ws j) (number k ik) (number j ij) (apart j k ij ik ne))

  two : (l m : Lit) → Is l → Is m → All Is (l ∷ m ∷ [])
  two l m h k = All-cons Is l (m ∷ []) h (All-cons Is m [] k (All-nil Is))

  other-named : (j k : ℕ) → IsNumber (length ws) j → IsNumber (length ws) k → All (All Is) (other_before n first ws j k)
  other-named j k ij ik = elim (cases_eq k j) [
    | inl same ↦ rw (eq-eqb k j same) (All-nil (All Is))
    | inr ne ↦
        rw (eq-no k j ne)
        (All-cons (All Is) (negated (last_lit first j) ∷ negated (in_lit (writer_at ws k)) ∷ before_lit n (writer_at ws k) (writer_at ws j) ∷ []) []
        (All-cons Is (negated (last_lit first j)) (negated (in_lit (writer_at ws k)) ∷ before_lit n (writer_at ws k) (writer_at ws j) ∷ []) (last-in j ij.1)
        (two (negated (in_lit (writer_at ws k))) (before_lit n (writer_at ws k) (writer_at ws j)) (in-in k ik) (before-in j k ij ik ne)))
        (All-nil (All Is)))
  ]

  last-named : (j : ℕ) → IsNumber (length ws) j → All (All Is) (last_is n first ws j)
  last-named j is =
      All-cons (All Is) (negated (last_lit first j) ∷ in_lit (writer_at ws j) ∷ []) (others n first ws j)
      (two (negated (last_lit first j)) (in_lit (writer_at ws j)) (last-in j is.1) (in-in j is))
      (All-flat_map (All Is) (other_before n first ws j) (numbers (length ws)) (λ k h. other-named j k is (numbers-within (length ws) k h)))

  pub cell-named : All (All Is) (last_clauses n first ws)
  cell-named =
      All-append (All Is) ((some_last first ws ∷ []) ++ lasts n first ws) (nones first ws)
      (All-append (All Is) (some_last first ws ∷ []) (lasts n first ws)
      (All-cons (All Is) (some_last first ws) [] (some-named first vars ws some room) (All-nil (All Is)))
      (All-flat_map (All Is) (last_is n first ws) (numbers (length ws)) (λ j h. last-named j (numbers-within (length ws) j h))))
      (All-map (All Is) (none_is first ws) (numbers (length ws)) (All-from_contains (λ k. All Is (none_is first ws k)) (numbers (length ws)) (λ k h.
      two (negated (last_lit first 0)) (negated (in_lit (writer_at ws k))) (last-in 0 (omega arith)) (in-in k (numbers-within (length ws) k h)))))

each-named :
    (events : List Event) (cells : List Cell) (first vars : ℕ) → length events ≤ 128 → 1 ≤ first
    → first + last_vars (map (writers events) cells) ≤ vars + 1 → order_vars (length events) ≤ vars
    → All (All (InVars vars)) (each_last (length events) first (map (writers events) cells))
each-named events [] first vars few some room order = All-nil (All (InVars vars))
each-named events (cell ∷ more) first vars few some room order =
    All-append (All (InVars vars)) (last_clauses (length events) first (writers events cell)) (each_last (length events) (first + (length (writers events cell) + 1)) (map (writers events) more))
    (cell-named (length events) first vars (writers events cell) (are-writers events cell few) some (omega arith) order)
    (each-named events more (first + (length (writers events cell) + 1)) vars few (omega arith) (omega arith) order)

pub formula-named :
    (events : List Event) (kept : List (ℕ × ℕ)) (cells : List Cell) → length events ≤ 128
    → All (All (InVars (order_vars (length events)))) (order_clauses events kept)
    → All (All (InVars (value_formula events kept cells).vars)) (value_formula events kept cells).clauses
formula-named events kept cells few named =
    let top : ℕ = (value_formula events kept cells).vars in
    All-append (All (InVars top)) (order_clauses events kept) (each_last (length events) (order_vars (length events) + 1) (map (writers events) cells))
    (All-weaker (All (InVars (order_vars (length events)))) (All (InVars top)) (λ clause h.
    All-weaker (InVars (order_vars (length events))) (InVars top) (λ l is. (is.0, omega (arith, is.1))) clause h) (order_clauses events kept) named)
    (each-named events cells (order_vars (length events) + 1) top few (omega arith) (omega arith) (omega arith))
