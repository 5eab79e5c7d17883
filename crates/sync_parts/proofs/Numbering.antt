-- Ascending places number what stays: lifting and lowering undo each other.
use Rattle.std.proofs.Common.{◌≡◌, ◌≢◌, ℕ, zero, suc, ◌+◌, ◌-◌, ◌<◌, ◌≤◌, inl, inr, List, [], ◌∷◌, length, get_or, filter, count_by, nat_le, cond, Contains, true, false, refl, sym, ◌∙◌, ap, arith}
use Rattle.std.specs.List.{range_with_len, All, AllPairs}
use Rattle.std.proofs.lemmas.Bool.{cases_eq}
use Rattle.std.proofs.lemmas.Bool.Decides.{nat_tests}
use Rattle.std.proofs.lemmas.List.FromFn.{length-range_with_len, get_or-range_with_len}
use Rattle.std.proofs.lemmas.List.Elements.{All-cons, All-head, All-tail, Contains-get_or}
use Rattle.std.proofs.lemmas.List.Sums.{sum_by-cons}
use Rattle.fer_events.specs.Orders.{numbers}
use Rattle.fer_events.specs.Lifting.{lifted}
use Rattle.sync_parts.specs.Parts.{stays, lowered}
use Rattle.sync_parts.proofs.Members.{Contains-head_is, Contains-tail, Contains-cons_cases, Contains-nil, filter-yes, filter-no, filter-same, filter-none}

pub stays-yes : (places : List ℕ) (x : ℕ) → Contains places x → stays places x ≡ true
stays-yes [] x h = absurd (Contains-nil x h)
stays-yes (p ∷ ps) x h = elim (Contains-cons_cases p ps x h) [
  | inl e ↦ grind (arith, nat_tests)
  | inr c ↦ let later = stays-yes ps x c in grind (arith, nat_tests)
]

pub stays-contained : (places : List ℕ) (x : ℕ) → stays places x ≡ true → Contains places x
stays-contained [] x t = let bad : false ≡ true = t in cc
stays-contained (p ∷ ps) x t = elim (cases_eq p x) [
  | inl e ↦ Contains-head_is p ps x e
  | inr ne ↦ Contains-tail p ps x (stays-contained ps x (let e = t in grind (arith, nat_tests)))
]

pub stays-no : (places : List ℕ) (x : ℕ) → (Contains places x → ⊥) → stays places x ≡ false
stays-no [] x missing = refl
stays-no (p ∷ ps) x missing =
    let later = stays-no ps x (λ h. missing (Contains-tail p ps x h)) in
    let ne : p ≢ x = λ e. missing (Contains-head_is p ps x e) in
    grind (arith, nat_tests)

pub tail-ascending : (p : ℕ) (ps : List ℕ) → AllPairs (λ x y. x < y) (p ∷ ps) → AllPairs (λ x y. x < y) ps
tail-ascending p ps up = λ i j d l h. up (suc i) (suc j) d (omega arith) (omega arith)

pub above-head : (p : ℕ) (ps : List ℕ) → AllPairs (λ x y. x < y) (p ∷ ps) → All (λ q. p < q) ps
above-head p ps up = λ k d h. up 0 (suc k) d (omega arith) (omega arith)

none-up : (x : ℕ) (ps : List ℕ) → All (λ q. x < q) ps → count_by (λ q. nat_le q x) ps ≡ 0
none-up x [] all = refl
none-up x (q ∷ qs) all =
    let head : x < q = All-head (λ q. x < q) q qs all in
    let rest = none-up x qs (All-tail (λ q. x < q) q qs all) in
    grind (arith, nat_tests)

count-up : (x p : ℕ) (ps : List ℕ) → p ≤ x → lowered (p ∷ ps) x ≡ 1 + lowered ps x
count-up x p ps h = let bit : ◌≡◌ {A = ℕ} (cond (nat_le p x) 1 0) 1 = grind (arith, nat_tests) in sum_by-cons (λ q. cond {A = ℕ} (nat_le q x) 1 0) p ps ∙ ap (λ n. n + lowered ps x) bit

lowered-at : (ps : List ℕ) → AllPairs (λ x y. x < y) ps → (k : ℕ) → k < length ps → lowered ps (get_or ps k 0) ≡ k + 1
lowered-at [] up k h = absurd (omega arith)
lowered-at (p ∷ ps) up zero h = count-up p p ps (omega arith) ∙ ap (λ n. 1 + n) (none-up p ps (above-head p ps up))
lowered-at (p ∷ ps) up (suc k) h =
    let more = lowered-at ps (tail-ascending p ps up) k (omega arith) in
    let head : p < get_or ps k 0 = above-head p ps up k 0 (omega arith) in
    let next : lowered (p ∷ ps) (get_or ps k 0) ≡ 1 + lowered ps (get_or ps k 0) = count-up (get_or ps k 0) p ps (omega arith) in
    next ∙ omega arith

pub lowered-lifted : (places : List ℕ) → AllPairs (λ x y. x < y) places → (a : ℕ) → 0 < a → a ≤ length places → lowered places (lifted places a) ≡ a
lowered-lifted places up a pos h = lowered-at places up (a - 1) (omega arith) ∙ omega arith

pub lifted-stays : (places : List ℕ) (a : ℕ) → 0 < a → a ≤ length places → Contains places (lifted places a)
lifted-stays places a pos h = Contains-get_or places (a - 1) 0 (omega arith)

-- a place is that of one number
pub number-of : (places : List ℕ) (x : ℕ) → Contains places x → (a : ℕ) × (0 < a) × (a ≤ length places) × (lifted places a ≡ x)
number-of [] x h = absurd (Contains-nil x h)
number-of (p ∷ ps) x h = elim (Contains-cons_cases p ps x h) [
  | inl e ↦ (1, omega arith, omega arith, e)
  | inr c ↦
      let found = number-of ps x c in
      let pos = found.1 in
      let next : found.0 + 1 - 1 ≡ suc (found.0 - 1) = omega (arith, pos) in
      (found.0 + 1, omega arith, omega (arith, found.2), ap (λ k. get_or (p ∷ ps) k 0) next ∙ found.3)
]

pub lifted-lowered : (places : List ℕ) → AllPairs (λ x y. x < y) places → (x : ℕ) → Contains places x → lifted places (lowered places x) ≡ x
lifted-lowered places up x h =
    let found = number-of places x h in
    ap (λ y. lifted places (lowered places y)) (sym found.3) ∙ ap (lifted places) (lowered-lifted places up found.0 found.1 found.2) ∙ found.3

pub lowered-within : (places : List ℕ) → AllPairs (λ x y. x < y) places → (x : ℕ) → Contains places x → (0 < lowered places x) × (lowered places x ≤ length places)
lowered-within places up x h =
    let found = number-of places x h in
    let e : lowered places x ≡ found.0 = ap (lowered places) (sym found.3) ∙ lowered-lifted places up found.0 found.1 found.2 in
    (omega (arith, found.1), omega (arith, found.2))

range-within : (low n a : ℕ) → Contains (range_with_len low n) a → (low ≤ a) × (a < low + n)
range-within low n a (k, l, e) =
    let short : k < n = omega (arith, length-range_with_len low n) in
    let is : low + k ≡ a = sym (get_or-range_with_len low n k a short) ∙ e in (omega arith, omega arith)

pub numbers-within : (n a : ℕ) → Contains (numbers n) a → (0 < a) × (a ≤ n)
numbers-within n a h = let found = range-within 1 n a h in (omega (arith, found.0), omega (arith, found.1))

pub numbers-contain : (n a : ℕ) → 0 < a → a ≤ n → Contains (numbers n) a
numbers-contain n a pos h =
    (a - 1, omega (arith, length-range_with_len 1 n), get_or-range_with_len 1 n (a - 1) a (omega arith) ∙ omega arith)

skips-head : (p x : ℕ) (ps : List ℕ) → p ≢ x → stays (p ∷ ps) x ≡ stays ps x
skips-head p x ps ne = grind (arith, nat_tests)

over-head : (low p : ℕ) (ps : List ℕ) → low < p → AllPairs (λ x y. x < y) (p ∷ ps) → All (λ x. low + 1 ≤ x) (p ∷ ps)
over-head low p ps l up = All-cons (λ x. low + 1 ≤ x) p ps (omega arith) (λ k d h. let over : p < get_or ps k d = above-head p ps up k d h in omega arith)

-- of a range that has all places, the places stay
pub range-stays :
    (low n : ℕ) (places : List ℕ) → AllPairs (λ x y. x < y) places → All (λ x. (low ≤ x) × (x < low + n)) places
    → filter (stays places) (range_with_len low n) ≡ places
range-stays low zero [] up all = refl
range-stays low zero (p ∷ ps) up all = absurd (let h = all 0 0 (omega arith) in omega (arith, h.0, h.1))
range-stays low (suc n) [] up all = filter-none (stays []) (range_with_len low (suc n)) (λ x h. refl)
range-stays low (suc n) (p ∷ ps) up all =
    let above = above-head p ps up in
    let first : (low ≤ p) × (p < low + suc n) = all 0 0 (omega arith) in
    elim (cases_eq p low) [
      | inl e ↦
          let rest : filter (stays (p ∷ ps)) (range_with_len (low + 1) n) ≡ ps =
          filter-same (stays (p ∷ ps)) (stays ps) (range_with_len (low + 1) n) (λ x h. skips-head p x ps (let far = range-within (low + 1) n x h in λ same. omega (arith, far.0)))
          ∙ range-stays (low + 1) n ps (tail-ascending p ps up) (λ k d h. let over : p < get_or ps k d = above k d h in let under = all (suc k) d (omega arith) in (omega arith, omega (arith, under.1))) in
          filter-yes (stays (p ∷ ps)) low (range_with_len (low + 1) n) (stays-yes (p ∷ ps) low (Contains-head_is p ps low e))
          ∙ ap (λ l. low ∷ l) rest ∙ ap (λ y. y ∷ ps) (sym e)
      | inr ne ↦
          let far : low < p = omega (arith, first.0) in
          let missing : Contains (p ∷ ps) low → ⊥ = λ h. elim (Contains-cons_cases p ps low h) [
            | inl e ↦ ne e
            | inr c ↦ let over : p < get_or ps c.0 low = above c.0 low c.1 in let is = c.2 in omega arith
          ] in
          filter-no (stays (p ∷ ps)) low (range_with_len (low + 1) n) (stays-no (p ∷ ps) low missing)
          ∙ range-stays (low + 1) n (p ∷ ps) up (λ k d h. (over-head low p ps far up k d h, let under = all k d h in omega (arith, under.1)))
    ]
