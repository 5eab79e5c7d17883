-- General: runs end with the last place that is read, so that no place behind it needs to be looked at.
use Rattle.std.proofs.Common.{◌≡◌, ℕ, zero, suc, ◌+◌, ◌-◌, ◌<◌, ◌≤◌, Bool, true, false, ◌&&◌, cond, List, [], ◌∷◌, ◌++◌, map, filter, Contains, refl, sym, ◌∙◌, ap, arith}
use Rattle.std.specs.List.{prefix_len, range_with_len}
use Rattle.std.proofs.lemmas.List.{append-nil}
use Rattle.std.proofs.lemmas.List.Elements.{filter-append}
use Rattle.clause_store.proofs.GeneralLists.{Contains-head, Contains-tail, Contains-from_filter}
use Rattle.order_coding.proofs.GeneralLists.{range_within}
use Rattle.value_coding.specs.Runs.{begins, goes_on, run_length, runs}

and-false : (a b : Bool) → a ≡ false → (a && b) ≡ false
and-false true b e = cc
and-false false b e = refl

filter-none : (p : ℕ → Bool) (low n : ℕ) → ((k : ℕ) → low ≤ k → k < low + n → p k ≡ false) → filter p (range_with_len low n) ≡ []
filter-none p low zero h = refl
filter-none p low (suc n) h = rw (h low (omega arith) (omega arith)) (filter-none p (low + 1) n (λ k l m. h k (omega arith) (omega arith)))

prefix-none : (p : ℕ → Bool) (low n : ℕ) → p low ≡ false → prefix_len p (range_with_len low n) ≡ 0
prefix-none p low zero h = refl
prefix-none p low (suc n) h = rw h refl

range-split : (low m n : ℕ) → range_with_len low (m + n) ≡ range_with_len low m ++ range_with_len (low + m) n
range-split low zero n = let e : low + zero ≡ low = omega arith in let f : zero + n ≡ n = omega arith in ap (range_with_len low) f ∙ ap (λ (k : ℕ). range_with_len k n) (sym e)
range-split low (suc m) n =
    let e : low + 1 + m ≡ low + suc m = omega arith in
    let f : suc m + n ≡ suc (m + n) = omega arith in
    ap (range_with_len low) f
    ∙ ap (λ (xs : List ℕ). low ∷ xs) (range-split (low + 1) m n ∙ ap (λ (k : ℕ). range_with_len (low + 1) m ++ range_with_len k n) e)

prefix-end : (p : ℕ → Bool) (low m d : ℕ) → (0 < d → p (low + m) ≡ false) → prefix_len p (range_with_len low (m + d)) ≡ prefix_len p (range_with_len low m)
prefix-end p low m zero h = let e : m + zero ≡ m = omega arith in ap (λ (n : ℕ). prefix_len p (range_with_len low n)) e
prefix-end p low zero (suc d) h =
    let e : low + zero ≡ low = omega arith in
    let f : zero + suc d ≡ suc d = omega arith in
    ap (λ (n : ℕ). prefix_len p (range_with_len low n)) f ∙ prefix-none p low (suc d) (ap p (sym e) ∙ h (omega arith))
prefix-end p low (suc m) (suc d) h =
    let e : low + 1 + m ≡ low + suc m = omega arith in
    let f : suc m + suc d ≡ suc (m + suc d) = omega arith in
    ap (λ (n : ℕ). prefix_len p (range_with_len low n)) f
    ∙ ap (λ (n : ℕ). cond (p low) (1 + n) 0) (prefix-end p (low + 1) m (suc d) (λ some. ap p e ∙ h some))

pub map-agree : {B : Type 0} (f g : ℕ → B) (xs : List ℕ) → ((x : ℕ) → Contains xs x → f x ≡ g x) → map f xs ≡ map g xs
map-agree f g [] h = refl
map-agree {B} f g (x ∷ xs) h =
    ap (λ (y : B). y ∷ map f xs) (h x (Contains-head x xs))
    ∙ ap (λ (ys : List B). g x ∷ ys) (map-agree f g xs (λ y c. h y (Contains-tail x xs y c)))

pub runs-end : (reads : ℕ → Bool) (edges : List ℕ) (k n : ℕ) → k ≤ n → ((place : ℕ) → k ≤ place → place < n → reads place ≡ false) → runs reads edges n ≡ runs reads edges k
runs-end reads edges k n l none =
    let e : n ≡ k + (n - k) = omega arith in
    let off : (place : ℕ) → k ≤ place → place < n → begins reads edges place ≡ false = λ place h m. and-false (reads place) _ (none place h m) in
    let front : filter (begins reads edges) (range_with_len 0 n) ≡ filter (begins reads edges) (range_with_len 0 k) =
    ap (λ (m : ℕ). filter (begins reads edges) (range_with_len 0 m)) e
    ∙ ap (filter (begins reads edges)) (range-split 0 k (n - k))
    ∙ filter-append (begins reads edges) (range_with_len 0 k) (range_with_len (0 + k) (n - k))
    ∙ ap (λ (xs : List ℕ). filter (begins reads edges) (range_with_len 0 k) ++ xs) (filter-none (begins reads edges) (0 + k) (n - k) (λ place h m. off place (omega arith) (omega arith)))
    ∙ append-nil (filter (begins reads edges) (range_with_len 0 k)) in
    ap (map (λ place. (place, run_length reads edges n place))) front
    ∙ map-agree (λ place. (place, run_length reads edges n place)) (λ place. (place, run_length reads edges k place)) (filter (begins reads edges) (range_with_len 0 k)) (λ place c.
    let kept = Contains-from_filter (begins reads edges) (range_with_len 0 k) place c in
    let short = range_within 0 k place kept.0 in
    let f : n - (place + 1) ≡ k - (place + 1) + (n - k) = omega (arith, short.1) in
    let g : place + 1 + (k - (place + 1)) ≡ k = omega (arith, short.1) in
    ap (λ (m : ℕ). (place, 1 + m))
    (ap (λ (m : ℕ). prefix_len (goes_on reads edges) (range_with_len (place + 1) m)) f
    ∙ prefix-end (goes_on reads edges) (place + 1) (k - (place + 1)) (n - k) (λ some. and-false (reads (place + 1 + (k - (place + 1)))) _ (none (place + 1 + (k - (place + 1))) (omega (arith, short.1)) (omega (arith, short.1))))))
