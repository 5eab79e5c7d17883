-- Luby's sequence: how long its turns are, where each number of a turn stands in the next one, and that every turn that is
-- long enough has the same number at a place.
use Rattle.std.proofs.Common.{ℕ, zero, suc, ◌≡◌, ◌≤◌, ◌<◌, ◌+◌, ◌^◌, ◌++◌, ◌∷◌, [], length, get_or, refl, sym, ◌∙◌, ap, subst, arith, length-append, ◌/◌}
use Rattle.std.proofs.Math.Nat.{two-pow-succ}
use Rattle.std.proofs.lemmas.List.{get_or_append_left, get_or-append-add}
use Rattle.std.proofs.Math.Seq.{get_or-append_seam}
use Rattle.cdcl_core.specs.Luby.{luby_turn, luby}

-- a turn has twice the numbers of the turn before, and one more
pub longer-turn : (k : ℕ) → length (luby_turn (suc k)) ≡ suc (length (luby_turn k) + length (luby_turn k))
unfolding luby_turn
longer-turn k = omega (arith, length-append (luby_turn k ++ luby_turn k) (2 ^ k ∷ []), length-append (luby_turn k) (luby_turn k))

no-numbers : length (luby_turn zero) ≡ 0
unfolding luby_turn
no-numbers = refl

pub turn-length : (k : ℕ) → suc (length (luby_turn k)) ≡ 2 ^ k
turn-length zero = ap suc no-numbers
turn-length (suc k) = omega (arith, longer-turn k, turn-length k, two-pow-succ k)

-- the numbers of a turn begin the next one, and come once more behind themselves; behind them stands the greatest
pub first-half : (k i : ℕ) → i < length (luby_turn k) → get_or (luby_turn (suc k)) i 0 ≡ get_or (luby_turn k) i 0
unfolding luby_turn
first-half k i lt =
    get_or_append_left (luby_turn k ++ luby_turn k) (2 ^ k ∷ []) 0 i (omega (arith, lt, length-append (luby_turn k) (luby_turn k)))
    ∙ get_or_append_left (luby_turn k) (luby_turn k) 0 i lt

pub second-half : (k i : ℕ) → i < length (luby_turn k) → get_or (luby_turn (suc k)) (length (luby_turn k) + i) 0 ≡ get_or (luby_turn k) i 0
unfolding luby_turn
second-half k i lt =
    get_or_append_left (luby_turn k ++ luby_turn k) (2 ^ k ∷ []) 0 (length (luby_turn k) + i) (omega (arith, lt, length-append (luby_turn k) (luby_turn k)))
    ∙ get_or-append-add (luby_turn k) (luby_turn k) i 0

pub last-number : (k : ℕ) → get_or (luby_turn (suc k)) (length (luby_turn k) + length (luby_turn k)) 0 ≡ 2 ^ k
unfolding luby_turn
last-number k =
    subst (λ (n : ℕ). get_or (luby_turn k ++ luby_turn k ++ 2 ^ k ∷ []) n 0 ≡ 2 ^ k) (length-append (luby_turn k) (luby_turn k))
    (get_or-append_seam (luby_turn k ++ luby_turn k) (2 ^ k) [] 0)

-- each turn begins those behind it
behind-turn : (d k i n : ℕ) → n ≡ d + k → i < length (luby_turn k) → (i < length (luby_turn n)) × (get_or (luby_turn n) i 0 ≡ get_or (luby_turn k) i 0)
behind-turn zero k i n is lt = subst (λ (m : ℕ). (i < length (luby_turn m)) × (get_or (luby_turn m) i 0 ≡ get_or (luby_turn k) i 0)) (omega (arith, is)) (lt, refl)
behind-turn (suc d) k i n is lt =
    let before = behind-turn d k i (d + k) refl lt in
    let next : suc (d + k) ≡ n = omega (arith, is) in
    subst (λ (m : ℕ). (i < length (luby_turn m)) × (get_or (luby_turn m) i 0 ≡ get_or (luby_turn k) i 0)) next
    (omega (arith, before.0, longer-turn (d + k)), first-half (d + k) i before.0 ∙ before.1)

long-enough : (k : ℕ) → k ≤ length (luby_turn k)
long-enough zero = omega arith
long-enough (suc k) = omega (arith, long-enough k, longer-turn k)

pub in-turn : (k i : ℕ) → i < length (luby_turn k) → get_or (luby_turn k) i 0 ≡ luby i
unfolding luby
in-turn k i lt =
    let ahead = behind-turn (suc i) k i (suc i + k) refl lt in
    let back = behind-turn k (suc i) i (suc i + k) (omega arith) (omega (arith, long-enough (suc i))) in
    sym ahead.1 ∙ back.1

-- what is left of a search for a place in the turn behind turn k, where it goes on in turn k
pub step-lower : (k turn place n : ℕ) → turn ≡ length (luby_turn k) → 0 < turn → place < turn → get_or (luby_turn k) place 0 ≡ n
    → (j : ℕ) × (turn / 2 ≡ length (luby_turn j)) × (place < suc (turn / 2 + turn / 2)) × (get_or (luby_turn (suc j)) place 0 ≡ n)
step-lower zero turn place n is some lt at = absurd (omega (arith, is, some, no-numbers))
step-lower (suc k) turn place n is some lt at = (k, omega (arith, is, longer-turn k), omega (arith, is, lt, longer-turn k), at)

-- the first number is 1
pub first-number : luby 0 ≡ 1
unfolding luby luby_turn
first-number = refl
