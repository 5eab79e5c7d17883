-- General: the numbers of the variables: those of the pairs of events follow those of the events, without a gap.
use Rattle.std.proofs.Common.{◌≡◌, ℕ, zero, suc, ◌+◌, ◌-◌, ◌*◌, ◌/◌, ◌<◌, ◌≤◌, sym, ◌∙◌, ap, arith}
use Rattle.order_coding.specs.Variables.{IsNumber, order_vars, pair_var}

-- how many pairs stand before those whose first event is a
abbrev pub row_start : ℕ → ℕ → ℕ
row_start n a = (a - 1) * (2 * n - a) / 2

half-more : (x y : ℕ) → (x + 2 * y) / 2 ≡ x / 2 + y
half-more x y = omega arith

product-next : (k d : ℕ) → (k + 1) * (k + 2 * d) ≡ k * (k + 1 + 2 * d) + 2 * d
product-next k d = omega arith

-- event a has n - a pairs with later ones
pub row-next : (n a : ℕ) → IsNumber n a → row_start n (a + 1) ≡ row_start n a + (n - a)
row-next n a is =
    let k : ℕ = a - 1 in
    let d : ℕ = n - a in
    let before : (a - 1) * (2 * n - a) ≡ k * (k + 1 + 2 * d) =
    (let e : 2 * n - a ≡ k + 1 + 2 * d = omega (arith, is.0, is.1) in ap (λ m. k * m) e) in
    let after : (a + 1 - 1) * (2 * n - (a + 1)) ≡ (k + 1) * (k + 2 * d) =
    (let e : a + 1 - 1 ≡ k + 1 = omega (arith, is.0) in
    let f : 2 * n - (a + 1) ≡ k + 2 * d = omega (arith, is.0, is.1) in
    ap (λ m. m * (2 * n - (a + 1))) e ∙ ap (λ m. (k + 1) * m) f) in
    ap (λ m. m / 2) (after ∙ product-next k d) ∙ half-more (k * (k + 1 + 2 * d)) d ∙ ap (λ m. m / 2 + d) (sym before)

-- rows begin one after another
pub row-le : (n a d : ℕ) → 1 ≤ a → a + d ≤ n + 1 → row_start n a ≤ row_start n (a + d)
row-le n a zero h k = let e : a + zero ≡ a = omega arith in rw e (omega arith)
row-le n a (suc d) h k =
    let e : a + suc d ≡ a + d + 1 = omega arith in
    rw e (omega (arith, row-next n (a + d) (omega arith, omega arith), row-le n a d h (omega arith)))

pub row-last : (n : ℕ) → row_start n (n + 1) ≡ n * (n - 1) / 2
row-last n =
    let e : n + 1 - 1 ≡ n = omega arith in
    let f : 2 * n - (n + 1) ≡ n - 1 = omega arith in
    ap (λ m. m * (2 * n - (n + 1)) / 2) e ∙ ap (λ m. n * m / 2) f

pub pair_var_within :
    (n a b : ℕ) → 1 ≤ a → a < b → b ≤ n → (1 ≤ pair_var n a b) × (pair_var n a b ≤ order_vars n)
pair_var_within n a b h l k =
    let next = row-next n a (h, omega arith) in
    let last : row_start n (a + 1) ≤ row_start n (n + 1) =
    (let e : a + 1 + (n - a) ≡ n + 1 = omega arith in
    rw (← e) (row-le n (a + 1) (n - a) (omega arith) (omega arith))) in
    (omega (arith, h, l), omega (arith, next, last, row-last n))
