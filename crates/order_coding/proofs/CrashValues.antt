-- Every crash has values that make the families true.
use Rattle.std.proofs.Common.{◌≡◌, ◌≢◌, ℕ, zero, suc, ◌+◌, ◌-◌, ◌<◌, ◌≤◌, inl, inr, List, ◌++◌, length, map, get_or, ltb, Bool, true, false, not, refl, ◌∙◌, ap, arith}
use Rattle.std.specs.List.{flat_map, range_with_len}
use Rattle.std.proofs.Math.ListN.{get_or-append}
use Rattle.std.proofs.Math.Seq.{get_or-append_right}
use Rattle.std.proofs.lemmas.Bool.{cases_eq, eq-eqb, lt-ltb}
use Rattle.std.proofs.lemmas.Bool.Decides.{nat_tests}
use Rattle.std.proofs.lemmas.List.{length-append}
use Rattle.std.proofs.lemmas.List.Concat.{flat_map-cons}
use Rattle.std.proofs.lemmas.List.FromFn.{length-map-range_with_len, get_or-map-range_with_len}
use Rattle.clause_store.specs.Truth.{is_true}
use Rattle.fer_events.specs.Orders.{numbers}
use Rattle.order_coding.specs.Variables.{IsNumber, order_vars, pair_var, before_lit}
use Rattle.order_coding.specs.Decoded.{is_in, is_before}
use Rattle.order_coding.proofs.GeneralLiterals.{before_lit-up, before_lit-down, is_before-is, is_before-same}
use Rattle.order_coding.proofs.GeneralNumbering.{row_start, row-next, row-le, row-last}

row-before : (n a x : ℕ) → 1 ≤ a → a < x → x ≤ n → row_start n (a + 1) ≤ row_start n x
row-before n a x h l k =
    let e : a + 1 + (x - (a + 1)) ≡ x = omega arith in
    let le = row-le n (a + 1) (x - (a + 1)) (omega arith) (omega arith) in
    rw e at le

-- the values that say which events are in, and of each two a < b whether a is before
module _ (n : ℕ) (inside : ℕ → Bool) (before : ℕ → ℕ → Bool) where
  abbrev row : ℕ → List Bool
  row a = map (before a) (range_with_len (a + 1) (n - a))

  abbrev rows : ℕ → ℕ → List Bool
  rows a m = flat_map row (range_with_len a m)

  abbrev pub values_of : List Bool
  values_of = map inside (numbers n) ++ rows 1 n

  length-row : (a : ℕ) → length (row a) ≡ n - a
  length-row a = length-map-range_with_len (before a) (a + 1) (n - a)

  length-rows : (m a : ℕ) → 1 ≤ a → a + m ≡ n + 1 → row_start n a + length (rows a m) ≡ row_start n (n + 1)
  length-rows zero a h e = let same : a ≡ n + 1 = omega arith in rw same (omega arith)
  length-rows (suc m) a h e =
      let split = length-append (row a) (rows (a + 1) m) in
      let is : length (rows a (suc m)) ≡ length (row a ++ rows (a + 1) m) = ap length (flat_map-cons row a (range_with_len (a + 1) m)) in
      omega (arith, is, split, length-row a, length-rows m (a + 1) (omega arith) (omega arith), row-next n a (h, omega arith))

  pub length-values : length values_of ≡ order_vars n
  length-values =
      omega (
        arith,
        length-append (map inside (numbers n)) (rows 1 n),
        length-map-range_with_len inside 1 n,
        length-rows n 1 (omega arith) (omega arith),
        row-last n,
      )

  -- the row of x stands behind those of the events before it
  rows-read :
      (m a x y i : ℕ) → 1 ≤ a → a + m ≡ n + 1 → a ≤ x → x < y → y ≤ n
      → i + row_start n a + x + 1 ≡ row_start n x + y → get_or (rows a m) i false ≡ before x y
  rows-read zero a x y i h e l k lim at = absurd (omega arith)
  rows-read (suc m) a x y i h e l k lim at = elim (cases_eq a x) [
    | inl same ↦
        let start : row_start n a ≡ row_start n x = ap (row_start n) same in
        let short : i < length (row a) = omega (arith, length-row a) in
        rw (flat_map-cons row a (range_with_len (a + 1) m))
        (get_or-append (row a) (rows (a + 1) m) false i short
        ∙ get_or-map-range_with_len (before a) (a + 1) (n - a) i y false (omega arith) (omega arith)
        ∙ ap (λ k. before k y) same)
    | inr ne ↦
        let next = row-next n a (h, omega arith) in
        let far = row-before n a x h (omega arith) (omega arith) in
        rw (flat_map-cons row a (range_with_len (a + 1) m))
        (get_or-append_right (row a) (rows (a + 1) m) i false (omega (arith, length-row a))
        ∙ rows-read m (a + 1) x y (i - length (row a)) (omega arith) (omega arith) (omega arith) k lim (omega (arith, length-row a)))
  ]

  pub read-in : (e : ℕ) → IsNumber n e → is_in values_of e ≡ inside e
  read-in e is =
      let short : e - 1 < length (map inside (numbers n)) = omega (arith, is.0, is.1, length-map-range_with_len inside 1 n) in
      get_or-append (map inside (numbers n)) (rows 1 n) false (e - 1) short
      ∙ get_or-map-range_with_len inside 1 n (e - 1) e false (omega (arith, is.0, is.1)) (omega (arith, is.0))

  read-pair : (a b : ℕ) → 1 ≤ a → a < b → b ≤ n → get_or values_of (pair_var n a b - 1) false ≡ before a b
  read-pair a b la l lb =
      let here : length (map inside (numbers n)) ≡ n = length-map-range_with_len inside 1 n in
      let first : row_start n 1 ≡ 0 = (let e : 1 - 1 ≡ 0 = refl in omega arith) in
      get_or-append_right (map inside (numbers n)) (rows 1 n) (pair_var n a b - 1) false (omega arith)
      ∙ rows-read n 1 a b (pair_var n a b - 1 - length (map inside (numbers n))) (omega arith) (omega arith) la l lb (omega arith)

  pub read-up : (a b : ℕ) → 1 ≤ a → a < b → b ≤ n → is_true values_of (before_lit n a b) ≡ before a b
  read-up a b la l lb = ap (is_true values_of) (before_lit-up n a b l) ∙ read-pair a b la l lb

  pub read-down : (a b : ℕ) → 1 ≤ b → b < a → a ≤ n → is_true values_of (before_lit n a b) ≡ not (before b a)
  read-down a b lb l la = ap (is_true values_of) (before_lit-down n a b l) ∙ ap not (read-pair b a lb l la)
