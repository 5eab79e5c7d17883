-- Every pair of the numbers of some events in program order, as a list and pair by pair.
use Rattle.std.proofs.Common.{◌≡◌, ℕ, zero, suc, ◌+◌, ◌≤◌, ◌<◌, Bool, true, false, ◌&&◌, ◌||◌, eqb, leb, ltb, List, [], ◌∷◌, ◌++◌, map, filter, refl, ◌∙◌, ap, arith}
use Rattle.std.specs.List.{flat_map, range_with_len}
use Rattle.std.proofs.lemmas.Bool.Decides.{nat_tests}
use Rattle.std.proofs.lemmas.List.{map-append}
use Rattle.std.proofs.lemmas.List.Elements.{filter-append, filter_agree}
use Rattle.fer_events.specs.Orders.{numbers, all_pairs, pairs_from}
use Rattle.fer_events.specs.Pairs.{PairList, has_pair, square, IsListed}
use Rattle.fer_events.proofs.Ranges.{range_split}

-- the pair is one of numbers of the n events, in program order, and the first number is `last` at most
abbrev pub is_forward : ℕ → ℕ → ℕ → ℕ → Bool
is_forward n last x y = leb 1 x && (leb x last && (ltb x y && leb y n))

abbrev forward : ℕ → ℕ × ℕ → Bool
forward n q = is_forward n n q.0 q.1

-- one pair more in a row
pub later_more : (f s x y : ℕ) (b : Bool) → f ≤ s
    → (((eqb f x && eqb (s + 1) y) || ((eqb f x && (ltb f y && leb y s)) || b)) ≡ ((eqb f x && (ltb f y && leb y (s + 1))) || b))
later_more f s x y b ordered = grind (arith, nat_tests)

pub later_none : (f x y : ℕ) (b : Bool) → b ≡ ((eqb f x && (ltb f y && leb y f)) || b)
later_none f x y b = grind (arith, nat_tests)

-- one row more
pub rows_more : (n k x y : ℕ) → ((eqb (k + 1) x && (ltb (k + 1) y && leb y n)) || is_forward n k x y) ≡ is_forward n (k + 1) x y
rows_more n k x y = grind (arith, nat_tests)

pub rows_none : (n x y : ℕ) → false ≡ is_forward n 0 x y
rows_none n x y = grind (arith, nat_tests)

row_none : (n low first k : ℕ) → first + k ≤ low + 1 → filter (forward n) (map (λ b. (low, b)) (range_with_len first k)) ≡ []
row_none n low first zero short = refl
row_none n low first (suc k) short =
    let test : forward n (low, first) ≡ false = grind (arith, nat_tests) in
    rw test (row_none n low (first + 1) k (omega arith))

row_all : (n low first k : ℕ) → 1 ≤ low → low ≤ n → low < first → first + k ≤ n + 1
    → filter (forward n) (map (λ b. (low, b)) (range_with_len first k)) ≡ map (λ b. (low, b)) (range_with_len first k)
row_all n low first zero some inside before within = refl
row_all n low first (suc k) some inside before within =
    let test : forward n (low, first) ≡ true = grind (arith, nat_tests) in
    rw test (ap (λ (l : List (ℕ × ℕ)). (low, first) ∷ l) (row_all n low (first + 1) k some inside (omega arith) (omega arith)))

-- a row of the square
row : (n low m : ℕ) → 1 ≤ low → low + suc m ≡ n + 1 → filter (forward n) (map (λ b. (low, b)) (numbers n)) ≡ map (λ b. (low, b)) (range_with_len (low + 1) m)
row n low m some long =
    let pair : ℕ → ℕ × ℕ = λ b. (low, b) in
    let whole : n ≡ low + m = omega arith in
    let next : 1 + low ≡ low + 1 = omega arith in
    ap (λ (k : ℕ). filter (forward n) (map pair (numbers k))) whole
    ∙ ap (λ (l : List ℕ). filter (forward n) (map pair l)) (range_split 1 low m)
    ∙ ap (filter (forward n)) (map-append pair (range_with_len 1 low) (range_with_len (1 + low) m))
    ∙ filter-append (forward n) (map pair (range_with_len 1 low)) (map pair (range_with_len (1 + low) m))
    ∙ ap (λ (l : List (ℕ × ℕ)). l ++ filter (forward n) (map pair (range_with_len (1 + low) m))) (row_none n low 1 low (omega arith))
    ∙ row_all n low (1 + low) m some (omega arith) (omega arith) (omega arith)
    ∙ ap (λ (k : ℕ). map pair (range_with_len k m)) next

rows : (n low m : ℕ) → 1 ≤ low → low + m ≡ n + 1 → filter (forward n) (flat_map (λ a. map (λ b. (a, b)) (numbers n)) (range_with_len low m)) ≡ pairs_from low m
rows n low zero some long = refl
rows n low (suc m) some long =
    let later : List (ℕ × ℕ) = flat_map (λ a. map (λ b. (a, b)) (numbers n)) (range_with_len (low + 1) m) in
    filter-append (forward n) (map (λ b. (low, b)) (numbers n)) later
    ∙ ap (λ (l : List (ℕ × ℕ)). l ++ filter (forward n) later) (row n low m some long)
    ∙ ap (λ (l : List (ℕ × ℕ)). map (λ b. (low, b)) (range_with_len (low + 1) m) ++ l) (rows n (low + 1) m (omega arith) (omega arith))

-- the pairs that have each forward pair, and no other, are all pairs
pub all_forward : (p : PairList) (n : ℕ) → p.n ≡ n → IsListed p → ((x y : ℕ) → has_pair p.pairs x y ≡ is_forward n n x y) → p ≡ record { n = n; pairs = all_pairs n }
all_forward p n same listed has =
    let make : ℕ → List (ℕ × ℕ) → PairList = λ k l. record { n = k; pairs = l } in
    let pairs : p.pairs ≡ all_pairs n =
    listed ∙ ap (λ (k : ℕ). filter (λ q. has_pair p.pairs q.0 q.1) (square k)) same
    ∙ filter_agree (λ q. has_pair p.pairs q.0 q.1) (forward n) (λ q. has q.0 q.1) (square n) ∙ rows n 1 n (omega arith) (omega arith) in
    ap (λ (k : ℕ). make k p.pairs) same ∙ ap (make n) pairs
