-- The kept pairs, found row by row.
use Rattle.std.proofs.Common.{◌≡◌, ℕ, ◌+◌, ◌-◌, ◌≤◌, true, false, List, [], ◌∷◌, ◌++◌, length, map, filter, cond, sym, ◌∙◌, ap, arith, append-nil}
use Rattle.std.specs.List.{flat_map, range_with_len}
use Rattle.std.proofs.lemmas.List.{map-append, length-append}
use Rattle.std.proofs.lemmas.List.Elements.{filter-append}
use Rattle.std.proofs.lemmas.List.Concat.{flat_map-cons}
use Rattle.std.proofs.lemmas.Grind.{flat_map-append}
use Rattle.clause_store.specs.declared.Lit.{Lit}
use Rattle.fer_events.specs.Orders.{numbers}
use Rattle.fer_events.specs.Pairs.{PairList, has_pair, IsListed}
use Rattle.order_coding.specs.Variables.{before_lit}
use Rattle.order_coding.proofs.GeneralLists.{range_more}
use Rattle.question_series.specs.Assumed.{kept_lits, row, rows}

-- the numbers below the next one
next-number : (k : ℕ) → 1 ≤ k → range_with_len 1 (k + 1 - 1) ≡ range_with_len 1 (k - 1) ++ k ∷ []
next-number k some =
    let longer : k + 1 - 1 ≡ k - 1 + 1 = omega (arith, some) in
    let last : 1 + (k - 1) ≡ k = omega (arith, some) in
    ap (range_with_len 1) longer ∙ range_more 1 (k - 1) ∙ ap (λ i. range_with_len 1 (k - 1) ++ i ∷ []) last

all-numbers : (n k : ℕ) → k ≡ n + 1 → range_with_len 1 (k - 1) ≡ numbers n
all-numbers n k end = let same : k - 1 ≡ n = omega (arith, end) in ap (range_with_len 1) same

module _ (kept : List (ℕ × ℕ)) (a : ℕ) where
  row-append : (xs ys : List ℕ) → row kept a (xs ++ ys) ≡ row kept a xs ++ row kept a ys
  row-append xs ys =
      ap (filter (λ q. has_pair kept q.0 q.1)) (map-append (λ b. (a, b)) xs ys)
      ∙ filter-append (λ q. has_pair kept q.0 q.1) (map (λ b. (a, b)) xs) (map (λ b. (a, b)) ys)

  pub row-more : (b : ℕ) → 1 ≤ b → row kept a (range_with_len 1 (b + 1 - 1)) ≡ row kept a (range_with_len 1 (b - 1)) ++ row kept a (b ∷ [])
  row-more b some = ap (row kept a) (next-number b some) ∙ row-append (range_with_len 1 (b - 1)) (b ∷ [])

  -- a pair is kept
  pub row-yes : (b : ℕ) → has_pair kept a b ≡ true → row kept a (b ∷ []) ≡ (a, b) ∷ []
  row-yes b is = ap (λ t. cond t ((a, b) ∷ []) []) is

  -- or not
  pub row-no : (b : ℕ) → has_pair kept a b ≡ false → row kept a (b ∷ []) ≡ []
  row-no b is = ap (λ t. cond t ((a, b) ∷ []) []) is

  pub count-yes : (b : ℕ) → 1 ≤ b → has_pair kept a b ≡ true
      → length (row kept a (range_with_len 1 (b + 1 - 1))) ≡ length (row kept a (range_with_len 1 (b - 1))) + 1
  count-yes b some is =
      ap length (row-more b some ∙ ap (λ qs. row kept a (range_with_len 1 (b - 1)) ++ qs) (row-yes b is))
      ∙ length-append (row kept a (range_with_len 1 (b - 1))) ((a, b) ∷ [])

  pub count-no : (b : ℕ) → 1 ≤ b → has_pair kept a b ≡ false
      → length (row kept a (range_with_len 1 (b + 1 - 1))) ≡ length (row kept a (range_with_len 1 (b - 1)))
  count-no b some is =
      ap length (row-more b some ∙ ap (λ qs. row kept a (range_with_len 1 (b - 1)) ++ qs) (row-no b is) ∙ append-nil (row kept a (range_with_len 1 (b - 1))))

  pub row-all : (n k : ℕ) → k ≡ n + 1 → row kept a (range_with_len 1 (k - 1)) ≡ row kept a (numbers n)
  row-all n k end = ap (row kept a) (all-numbers n k end)

module _ (n : ℕ) (kept : List (ℕ × ℕ)) where
  abbrev of-number : ℕ → List (ℕ × ℕ)
  of-number a = map (λ b. (a, b)) (numbers n)

  pub rows-more : (a : ℕ) → 1 ≤ a → rows n kept (range_with_len 1 (a + 1 - 1)) ≡ rows n kept (range_with_len 1 (a - 1)) ++ row kept a (numbers n)
  rows-more a some =
      ap (rows n kept) (next-number a some)
      ∙ ap (filter (λ q. has_pair kept q.0 q.1))
      (flat_map-append of-number (range_with_len 1 (a - 1)) (a ∷ [])
      ∙ ap (λ qs. flat_map of-number (range_with_len 1 (a - 1)) ++ qs) (flat_map-cons of-number a [] ∙ append-nil (of-number a)))
      ∙ filter-append (λ q. has_pair kept q.0 q.1) (flat_map of-number (range_with_len 1 (a - 1))) (of-number a)

  pub count-rows : (a count of : ℕ) → 1 ≤ a → count ≡ length (rows n kept (range_with_len 1 (a - 1))) → of ≡ length (row kept a (numbers n))
      → count + of ≡ length (rows n kept (range_with_len 1 (a + 1 - 1)))
  count-rows a count of some before here =
      ap (λ k. k + of) before ∙ ap (λ k. length (rows n kept (range_with_len 1 (a - 1))) + k) here
      ∙ sym (length-append (rows n kept (range_with_len 1 (a - 1))) (row kept a (numbers n))) ∙ ap length (sym (rows-more a some))

  abbrev lit : ℕ × ℕ → Lit
  lit p = before_lit n p.0 p.1

  pub lits-more : (a : ℕ) → 1 ≤ a
      → kept_lits n (rows n kept (range_with_len 1 (a + 1 - 1))) ≡ kept_lits n (rows n kept (range_with_len 1 (a - 1))) ++ kept_lits n (row kept a (numbers n))
  lits-more a some = ap (map lit) (rows-more a some) ∙ map-append lit (rows n kept (range_with_len 1 (a - 1))) (row kept a (numbers n))

  pub lits-row-more : (a b : ℕ) → 1 ≤ b
      → kept_lits n (row kept a (range_with_len 1 (b + 1 - 1))) ≡ kept_lits n (row kept a (range_with_len 1 (b - 1))) ++ kept_lits n (row kept a (b ∷ []))
  lits-row-more a b some = ap (map lit) (row-more kept a b some) ∙ map-append lit (row kept a (range_with_len 1 (b - 1))) (row kept a (b ∷ []))

-- after all rows
pub rows-all : (p : PairList) (k : ℕ) → IsListed p → k ≡ p.n + 1 → rows p.n p.pairs (range_with_len 1 (k - 1)) ≡ p.pairs
rows-all p k listed end = ap (rows p.n p.pairs) (all-numbers p.n k end) ∙ sym listed
