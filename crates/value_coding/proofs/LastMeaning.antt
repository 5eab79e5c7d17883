-- What it is for values to make the clauses of one cell true.
use Rattle.std.proofs.Common.{◌≡◌, ◌≢◌, inl, inr, ℕ, ◌+◌, ◌<◌, ◌≤◌, Bool, List, [], ◌∷◌, ◌++◌, length, map, sym, ◌∙◌, subst, arith}
use Rattle.std.specs.List.{All, flat_map}
use Rattle.std.proofs.lemmas.Bool.{cases_eq, eq-eqb}
use Rattle.std.proofs.lemmas.List.Elements.{All-append, All-nil, All-cons, All-head, All-tail, All-map, All-contains}
use Rattle.std.proofs.lemmas.List.FromFn.{length-map-range_with_len, get_or-map-range_with_len}
use Rattle.clause_store.specs.declared.Lit.{Lit}
use Rattle.clause_store.specs.Clauses.{negated}
use Rattle.clause_store.specs.Truth.{MakesTrue, MakesAllTrue}
use Rattle.clause_store.proofs.GeneralLists.{Contains-map}
use Rattle.fer_events.specs.Orders.{numbers}
use Rattle.order_coding.specs.Variables.{IsNumber, in_lit, before_lit}
use Rattle.order_coding.proofs.GeneralLists.{All-from_contains, All-left, All-right, All-flat_map, All-from_flat_map, eq-no}
use Rattle.order_coding.proofs.GeneralOrders.{numbers-contain, numbers-within}
use Rattle.value_coding.specs.LastClauses.{last_lit, writer_at, some_last, other_before, last_is, none_is, last_clauses}
use Rattle.order_coding.proofs.GeneralClauses.{truth, negated-false, of-two, two, two-not, of-three, three}

pub record LastMeant (v : List Bool) (n first : ℕ) (ws : List ℕ) : Type 0 where
  pub some : (j : ℕ) × (j ≤ length ws) × truth v (last_lit first j)
  pub inside : (j : ℕ) → IsNumber (length ws) j → truth v (last_lit first j) → truth v (in_lit (writer_at ws j))
  pub before :
      (j k : ℕ) → IsNumber (length ws) j → IsNumber (length ws) k → k ≢ j → truth v (last_lit first j) → truth v (in_lit (writer_at ws k))
      → truth v (before_lit n (writer_at ws k) (writer_at ws j))
  pub none : (k : ℕ) → IsNumber (length ws) k → truth v (last_lit first 0) → truth v (in_lit (writer_at ws k)) → ⊥

module _ (v : List Bool) (n first : ℕ) (ws : List ℕ) where
  abbrev m : ℕ
  m = length ws

  some-of : MakesTrue v (some_last first ws) → (j : ℕ) × (j ≤ m) × truth v (last_lit first j)
  some-of (k, l, h, e, t) =
      let short : k < m + 1 = omega (arith, length-map-range_with_len (last_lit first) 0 (m + 1)) in
      let is : last_lit first k ≡ l = sym (get_or-map-range_with_len (last_lit first) 0 (m + 1) k k l short (omega arith)) ∙ e in
      (k, omega arith, subst (truth v) (sym is) t)

  of-some : (j : ℕ) → j ≤ m → truth v (last_lit first j) → MakesTrue v (some_last first ws)
  of-some j h t = (
    j,
    last_lit first j,
    omega (arith, length-map-range_with_len (last_lit first) 0 (m + 1)),
    get_or-map-range_with_len (last_lit first) 0 (m + 1) j j (last_lit first j) (omega arith) (omega arith),
    t,
  )

  abbrev lasts : List (List Lit)
  lasts = flat_map (last_is n first ws) (numbers m)

  abbrev nones : List (List Lit)
  nones = map (none_is first ws) (numbers m)

  of-last : MakesAllTrue v lasts → (j : ℕ) → IsNumber m j → All (MakesTrue v) (last_is n first ws j)
  of-last all j is = All-from_flat_map (MakesTrue v) (last_is n first ws) (numbers m) j all (numbers-contain m j is)

  before-of :
      (j k : ℕ) → IsNumber m j → IsNumber m k → k ≢ j → All (MakesTrue v) (last_is n first ws j)
      → truth v (last_lit first j) → truth v (in_lit (writer_at ws k)) → truth v (before_lit n (writer_at ws k) (writer_at ws j))
  before-of j k ij ik ne all t s =
      let rest = All-tail (MakesTrue v) (negated (last_lit first j) ∷ in_lit (writer_at ws j) ∷ []) (flat_map (other_before n first ws j) (numbers m)) all in
      let mine = All-from_flat_map (MakesTrue v) (other_before n first ws j) (numbers m) k rest (numbers-contain m k ik) in
      let clause = rw (eq-no k j ne) at mine in
      of-three v (last_lit first j) (in_lit (writer_at ws k)) (before_lit n (writer_at ws k) (writer_at ws j))
      (All-head (MakesTrue v) _ [] clause) t s

  pub last-meant : MakesAllTrue v (last_clauses n first ws) → LastMeant v n first ws
  last-meant all =
      let front = All-left (MakesTrue v) ((some_last first ws ∷ []) ++ lasts) nones all in
      let back = All-right (MakesTrue v) ((some_last first ws ∷ []) ++ lasts) nones all in
      let top = All-left (MakesTrue v) (some_last first ws ∷ []) lasts front in
      let rest = All-right (MakesTrue v) (some_last first ws ∷ []) lasts front in
      record {
        some = some-of (All-head (MakesTrue v) (some_last first ws) [] top);
        inside = λ j is t.
            of-two v (last_lit first j) (in_lit (writer_at ws j))
            (All-head (MakesTrue v) _ (flat_map (other_before n first ws j) (numbers m)) (of-last rest j is)) t;
        before = λ j k ij ik ne t s. before-of j k ij ik ne (of-last rest j ij) t s;
        none = λ k is t s.
            let clause = All-contains (MakesTrue v) nones (none_is first ws k) back (Contains-map (none_is first ws) (numbers m) k (numbers-contain m k is)) in
            negated-false v (in_lit (writer_at ws k)) (of-two v (last_lit first 0) (negated (in_lit (writer_at ws k))) clause t) s;
      }

  module _ (h : LastMeant v n first ws) where
    other-made : (j k : ℕ) → IsNumber m j → IsNumber m k → All (MakesTrue v) (other_before n first ws j k)
    other-made j k ij ik = elim (cases_eq k j) [
      | inl same ↦ rw (eq-eqb k j same) (All-nil (MakesTrue v))
      | inr ne ↦
          rw (eq-no k j ne)
          (All-cons (MakesTrue v) (negated (last_lit first j) ∷ negated (in_lit (writer_at ws k)) ∷ before_lit n (writer_at ws k) (writer_at ws j) ∷ []) []
          (three v (last_lit first j) (in_lit (writer_at ws k)) (before_lit n (writer_at ws k) (writer_at ws j)) (λ t s. h.before j k ij ik ne t s))
          (All-nil (MakesTrue v)))
    ]

    last-made-one : (j : ℕ) → IsNumber m j → All (MakesTrue v) (last_is n first ws j)
    last-made-one j is =
        All-cons (MakesTrue v) (negated (last_lit first j) ∷ in_lit (writer_at ws j) ∷ []) (flat_map (other_before n first ws j) (numbers m))
        (two v (last_lit first j) (in_lit (writer_at ws j)) (λ t. h.inside j is t))
        (All-flat_map (MakesTrue v) (other_before n first ws j) (numbers m) (λ k c. other-made j k is (numbers-within m k c)))

    pub last-made : MakesAllTrue v (last_clauses n first ws)
    last-made =
        All-append (MakesTrue v) ((some_last first ws ∷ []) ++ lasts) nones
        (All-append (MakesTrue v) (some_last first ws ∷ []) lasts
        (All-cons (MakesTrue v) (some_last first ws) [] (of-some h.some.0 h.some.1 h.some.2) (All-nil (MakesTrue v)))
        (All-flat_map (MakesTrue v) (last_is n first ws) (numbers m) (λ j c. last-made-one j (numbers-within m j c))))
        (All-map (MakesTrue v) (none_is first ws) (numbers m)
        (All-from_contains (λ k. MakesTrue v (none_is first ws k)) (numbers m)
        (λ k c. two-not v (last_lit first 0) (in_lit (writer_at ws k)) (λ t s. h.none k (numbers-within m k c) t s))))
