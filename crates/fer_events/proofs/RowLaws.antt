-- The pairs of a list, row by row.
use Rattle.std.proofs.Common.{◌≡◌, ℕ, ◌+◌, List, [], ◌∷◌, ◌++◌, true, false, ◌||◌, ◌&&◌, map, filter, sym, ◌∙◌, ap, arith, refl}
use Rattle.std.specs.Prelude.{◌==◌}
use Rattle.std.specs.List.{flat_map}
use Rattle.std.proofs.lemmas.Grind.{flat_map-append}
use Rattle.std.proofs.lemmas.List.{append-nil, map-append}
use Rattle.std.proofs.lemmas.List.Elements.{filter-append}
use Rattle.std.proofs.lemmas.List.Folds.{list_any-append}
use Rattle.std.proofs.lemmas.Bool.Decides.{nat_tests}
use Rattle.fer_events.specs.Orders.{numbers}
use Rattle.fer_events.specs.Pairs.{PairList, IsListed, has_pair}
use Rattle.fer_events.specs.Lifting.{lifted, lifted_pairs}
use Rattle.fer_events.specs.Rows.{is_listed, row_upto, rows_upto}
use Rattle.fer_events.proofs.Ranges.{range_split}

-- the numbers up to the next one
pub numbers_more : (k : ℕ) → numbers (k + 1) ≡ numbers k ++ (k + 1) ∷ []
numbers_more k = let e : 1 + k ≡ k + 1 = omega arith in range_split 1 k 1 ∙ ap (λ (j : ℕ). numbers k ++ j ∷ []) e

-- one pair more, if it is listed
pub row_more : (p : PairList) (a k : ℕ) → row_upto p a (k + 1) ≡ row_upto p a k ++ filter (is_listed p) ((a, k + 1) ∷ [])
row_more p a k =
    let pair : ℕ → ℕ × ℕ = λ b. (a, b) in
    ap (λ (ns : List ℕ). filter (is_listed p) (map pair ns)) (numbers_more k)
    ∙ ap (λ (l : List (ℕ × ℕ)). filter (is_listed p) l) (map-append pair (numbers k) ((k + 1) ∷ []))
    ∙ filter-append (is_listed p) (map pair (numbers k)) ((a, k + 1) ∷ [])

-- one row more
pub rows_more : (p : PairList) (k : ℕ) → rows_upto p (k + 1) ≡ rows_upto p k ++ row_upto p (k + 1) p.n
rows_more p k =
    let pairs : ℕ → List (ℕ × ℕ) = λ a. map (λ b. (a, b)) (numbers p.n) in
    ap (λ (ns : List ℕ). filter (is_listed p) (flat_map pairs ns)) (numbers_more k)
    ∙ ap (λ (l : List (ℕ × ℕ)). filter (is_listed p) l) (flat_map-append pairs (numbers k) ((k + 1) ∷ []) ∙ ap (λ (l : List (ℕ × ℕ)). flat_map pairs (numbers k) ++ l) (append-nil (pairs (k + 1))))
    ∙ filter-append (is_listed p) (flat_map pairs (numbers k)) (pairs (k + 1))

-- all rows are the whole list
pub all_rows : (p : PairList) → IsListed p → rows_upto p p.n ≡ p.pairs
all_rows p listed = sym listed

-- pairs of a joined list, lifted, are pairs of one of its parts
lifted-append : (places : List ℕ) (xs ys : List (ℕ × ℕ)) (x y : ℕ)
    → has_pair (lifted_pairs places (xs ++ ys)) x y ≡ (has_pair (lifted_pairs places xs) x y || has_pair (lifted_pairs places ys) x y)
lifted-append places xs ys x y =
    ap (λ (l : List (ℕ × ℕ)). has_pair l x y) (map-append (λ p. (lifted places p.0, lifted places p.1)) xs ys)
    ∙ list_any-append _ (lifted_pairs places xs) (lifted_pairs places ys)

-- a listed pair is lifted with the row
pub lifted_row-listed : (places : List ℕ) (p : PairList) (a k x y : ℕ) → has_pair p.pairs a (k + 1) ≡ true
    → has_pair (lifted_pairs places (row_upto p a (k + 1))) x y
    ≡ (((lifted places a == x) && (lifted places (k + 1) == y)) || has_pair (lifted_pairs places (row_upto p a k)) x y)
lifted_row-listed places p a k x y there =
    let one : filter (is_listed p) ((a, k + 1) ∷ []) ≡ (a, k + 1) ∷ [] = rw there refl in
    let all = ap (λ (l : List (ℕ × ℕ)). has_pair (lifted_pairs places l) x y) (row_more p a k ∙ ap (λ (l : List (ℕ × ℕ)). row_upto p a k ++ l) one) ∙ lifted-append places (row_upto p a k) ((a, k + 1) ∷ []) x y in
    grind (arith, nat_tests, all)

-- one that isn't adds nothing
pub lifted_row-other : (places : List ℕ) (p : PairList) (a k x y : ℕ) → has_pair p.pairs a (k + 1) ≡ false
    → has_pair (lifted_pairs places (row_upto p a (k + 1))) x y ≡ has_pair (lifted_pairs places (row_upto p a k)) x y
lifted_row-other places p a k x y missing =
    let none : filter (is_listed p) ((a, k + 1) ∷ []) ≡ [] = rw missing refl in
    ap (λ (l : List (ℕ × ℕ)). has_pair (lifted_pairs places l) x y) (row_more p a k ∙ ap (λ (l : List (ℕ × ℕ)). row_upto p a k ++ l) none ∙ append-nil (row_upto p a k))

-- a row is lifted with the rows before it
pub lifted_rows : (places : List ℕ) (p : PairList) (k x y : ℕ)
    → has_pair (lifted_pairs places (rows_upto p (k + 1))) x y
    ≡ (has_pair (lifted_pairs places (row_upto p (k + 1) p.n)) x y || has_pair (lifted_pairs places (rows_upto p k)) x y)
lifted_rows places p k x y =
    let all = ap (λ (l : List (ℕ × ℕ)). has_pair (lifted_pairs places l) x y) (rows_more p k) ∙ lifted-append places (rows_upto p k) (row_upto p (k + 1) p.n) x y in
    grind (arith, all)
