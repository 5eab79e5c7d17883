-- What a table of new numbers makes of an order.
use Rattle.std.proofs.Common.{◌≡◌, ◌≢◌, ℕ, zero, suc, ◌+◌, ◌<◌, ◌≤◌, ◌==◌, inl, inr, Bool, true, false, not, cond, List, [], ◌∷◌, ◌++◌, length, take, replicate, get_or, map, count_by, nat_le, Contains, refl, sym, ◌∙◌, ap, arith}
use Rattle.std.specs.List.{All, AllPairs}
use Rattle.std.specs.Prelude.{slice_index, slice_set, if◌then◌else◌}
use Rattle.std.proofs.lemmas.Bool.{cases_eq, cases_lt}
use Rattle.std.proofs.lemmas.Bool.Decides.{nat_tests}
use Rattle.std.proofs.lemmas.List.{get_or-set_same, get_or-set_other, get_or-take, get_or-replicate, get_or_past, take_more, length-replicate, length-take-le}
use Rattle.std.proofs.lemmas.List.Elements.{Contains-append_left, Contains-append_cases}
use Rattle.std.proofs.lemmas.List.Sums.{sum_by-cons, sum_by-append}
use Rattle.std.proofs.lemmas.Grind.{get_or_default_zero}
use Rattle.fer_events.specs.Lifting.{lifted}
use Rattle.sync_parts.specs.Parts.{stays, lowered, without}
use Rattle.sync_parts.specs.Without.{new_number, renumbered}
use Rattle.sync_parts.proofs.Members.{test-cases, filter-yes, filter-no, Contains-cons_cases, Contains-nil}
use Rattle.sync_parts.proofs.Numbering.{stays-yes, stays-no, stays-contained, lowered-within, lowered-lifted, lifted-stays}

number-some : (places : List ℕ) → AllPairs (λ x y. x < y) places → (x : ℕ) → (not (new_number places x == 0)) ≡ stays places x
number-some places up x = elim (test-cases (stays places x)) [
  | inl taken ↦
      let range = lowered-within places up x (stays-contained places x taken) in
      let is : new_number places x ≡ lowered places x = ap (λ (b : Bool). if b then lowered places x else 0) taken in
      let some : (not (new_number places x == 0)) ≡ true = grind (arith, nat_tests) in
      some ∙ sym taken
  | inr passed ↦ rw passed refl
]

pub table-order : (numbers places : List ℕ) → AllPairs (λ x y. x < y) places → ((x : ℕ) → slice_index numbers x ≡ new_number places x)
    → (order : List ℕ) → renumbered numbers order ≡ without places order
table-order numbers places up table [] = refl
table-order numbers places up table (x ∷ order) =
    let more = table-order numbers places up table order in
    let here : (not (slice_index numbers x == 0)) ≡ stays places x = ap (λ (n : ℕ). not (n == 0)) (table x) ∙ number-some places up x in
    elim (test-cases (stays places x)) [
      | inl taken ↦
          let is : slice_index numbers x ≡ lowered places x = table x ∙ ap (λ (b : Bool). if b then lowered places x else 0) taken in
          ap (λ (b : Bool). cond b (slice_index numbers x ∷ renumbered numbers order) (renumbered numbers order)) (here ∙ taken)
          ∙ ap (λ (y : ℕ). y ∷ renumbered numbers order) is ∙ ap (λ (l : List ℕ). lowered places x ∷ l) more
          ∙ ap (map (lowered places)) (sym (filter-yes (stays places) x order taken))
      | inr passed ↦
          ap (λ (b : Bool). cond b (slice_index numbers x ∷ renumbered numbers order) (renumbered numbers order)) (here ∙ passed)
          ∙ more ∙ ap (map (lowered places)) (sym (filter-no (stays places) x order passed))
    ]

pub table-count : (numbers places : List ℕ) → AllPairs (λ x y. x < y) places → ((x : ℕ) → slice_index numbers x ≡ new_number places x)
    → (order : List ℕ) → count_by (λ x. not (slice_index numbers x == 0)) order ≡ count_by (stays places) order
table-count numbers places up table [] = refl
table-count numbers places up table (x ∷ order) =
    let here : (not (slice_index numbers x == 0)) ≡ stays places x = ap (λ (n : ℕ). not (n == 0)) (table x) ∙ number-some places up x in
    sum_by-cons (λ (y : ℕ). cond {A = ℕ} (not (slice_index numbers y == 0)) 1 0) x order
    ∙ ap (λ (b : Bool). cond {A = ℕ} b 1 0 + count_by (λ (y : ℕ). not (slice_index numbers y == 0)) order) here
    ∙ ap (λ (n : ℕ). cond {A = ℕ} (stays places x) 1 0 + n) (table-count numbers places up table order)
    ∙ sym (sum_by-cons (λ (y : ℕ). cond {A = ℕ} (stays places y) 1 0) x order)

pub none-numbered : (n x : ℕ) → slice_index (replicate n 0) x ≡ 0
none-numbered n x = elim (cases_lt x n) [
  | inl here ↦ get_or-replicate n x 0 0 here
  | inr past ↦ get_or_past (replicate n 0) x 0 (omega (arith, past, length-replicate {A = ℕ} n 0))
]

-- ascending numbers from 1 to 128 are at most 128
climb : (places : List ℕ) → AllPairs (λ x y. x < y) places → All (λ p. (1 ≤ p) × (p ≤ 128)) places → (k : ℕ) → k < length places → k + 1 ≤ get_or places k 0
climb places up within zero h = (within 0 0 h).0
climb places up within (suc k) h =
    let before = climb places up within k (omega arith) in
    let step : get_or places k 0 < get_or places (suc k) 0 = up k (suc k) 0 (omega arith) h in
    omega (arith, before, step)

pub few-places : (places : List ℕ) → AllPairs (λ x y. x < y) places → All (λ p. (1 ≤ p) × (p ≤ 128)) places → (k : ℕ) → k < length places → k < 128
few-places places up within k h = omega (arith, climb places up within k h, (within k 0 h).1)

taken-up : (places : List ℕ) (n : ℕ) → n ≤ length places → AllPairs (λ x y. x < y) places → AllPairs (λ x y. x < y) (take n places)
taken-up places n few up = λ i j d l h.
    let short : j < n = omega (arith, h, length-take-le n places few) in
    rw (get_or-take n places i d (omega (arith, l, short)), get_or-take n places j d short) (up i j d l (omega (arith, short, few)))

-- the next place gets the next number
module _ (places numbers : List ℕ) (k : ℕ) (there : k < length places) (up : AllPairs (λ x y. x < y) places) (within : All (λ p. (1 ≤ p) × (p ≤ 128)) places)
    (long : length numbers ≡ 129) (numbered : (x : ℕ) → slice_index numbers x ≡ new_number (take k places) x) where
  abbrev p : ℕ
  p = get_or places k 0

  few : p < length numbers
  few = omega (arith, long, (within k 0 there).1)

  more : take (k + 1) places ≡ take k places ++ p ∷ []
  more = take_more places k 0 there

  -- what stands before it is less
  less : (x : ℕ) → Contains (take k places) x → x < p
  less x (j, l, is) =
      let short : j < k = omega (arith, l, length-take-le k places (omega (arith, there))) in
      let at : get_or places j x ≡ x = sym (get_or-take k places j x short) ∙ is in
      let apart : get_or places j x < get_or places k x = up j k x short there in
      let same : get_or places k x ≡ p = get_or_default_zero places k x there in
      omega (arith, at, apart, same)

  own : new_number (take (k + 1) places) p ≡ k + 1
  own =
      let rises : AllPairs (λ x y. x < y) (take (k + 1) places) = taken-up places (k + 1) (omega (arith, there)) up in
      let count : length (take (k + 1) places) ≡ k + 1 = length-take-le (k + 1) places (omega (arith, there)) in
      let at : lifted (take (k + 1) places) (k + 1) ≡ p = ap (λ n. get_or (take (k + 1) places) n 0) (omega arith) ∙ get_or-take (k + 1) places k 0 (omega arith) in
      let low : lowered (take (k + 1) places) p ≡ k + 1 =
      ap (lowered (take (k + 1) places)) (sym at) ∙ lowered-lifted (take (k + 1) places) rises (k + 1) (omega arith) (omega (arith, count)) in
      let held : Contains (take (k + 1) places) p = rw (← at) (lifted-stays (take (k + 1) places) (k + 1) (omega arith) (omega (arith, count))) in
      ap (λ (b : Bool). if b then lowered (take (k + 1) places) p else 0) (stays-yes (take (k + 1) places) p held) ∙ low

  stays-other : (x : ℕ) → p ≢ x → stays (take (k + 1) places) x ≡ stays (take k places) x
  stays-other x apart = elim (test-cases (stays (take k places) x)) [
    | inl taken ↦ stays-yes (take (k + 1) places) x (rw more (Contains-append_left (take k places) (p ∷ []) x (stays-contained (take k places) x taken))) ∙ sym taken
    | inr out ↦
        stays-no (take (k + 1) places) x (λ h. elim (Contains-append_cases (take k places) (p ∷ []) x (rw more at h)) [
          | inl c ↦ (let bad : true ≡ false = sym (stays-yes (take k places) x c) ∙ out in cc)
          | inr c ↦ elim (Contains-cons_cases p [] x c) [ inl e ↦ apart e | inr none ↦ Contains-nil x none ]
        ]) ∙ sym out
  ]

  lowered-other : (x : ℕ) → x < p → lowered (take (k + 1) places) x ≡ lowered (take k places) x
  lowered-other x below =
      let out : nat_le p x ≡ false = grind (arith, nat_tests) in
      let bit : ◌≡◌ {A = ℕ} (cond (nat_le p x) 1 0) 0 = ap (λ (b : Bool). cond {A = ℕ} b 1 0) out in
      ap (λ l. lowered l x) more ∙ sum_by-append (λ (y : ℕ). cond {A = ℕ} (nat_le y x) 1 0) (take k places) (p ∷ [])
      ∙ ap (λ n. lowered (take k places) x + n) (sum_by-cons (λ (y : ℕ). cond {A = ℕ} (nat_le y x) 1 0) p []) ∙ ap (λ n. lowered (take k places) x + (n + 0)) bit ∙ omega arith

  other : (x : ℕ) → p ≢ x → new_number (take (k + 1) places) x ≡ new_number (take k places) x
  other x apart = elim (test-cases (stays (take k places) x)) [
    | inl taken ↦
        ap (λ (b : Bool). if b then lowered (take (k + 1) places) x else 0) (stays-other x apart ∙ taken)
        ∙ lowered-other x (less x (stays-contained (take k places) x taken))
        ∙ sym (ap (λ (b : Bool). if b then lowered (take k places) x else 0) taken)
    | inr out ↦
        ap (λ (b : Bool). if b then lowered (take (k + 1) places) x else 0) (stays-other x apart ∙ out)
        ∙ sym (ap (λ (b : Bool). if b then lowered (take k places) x else 0) out)
  ]

  pub next-number : (x : ℕ) → slice_index (slice_set numbers p (k + 1)) x ≡ new_number (take (k + 1) places) x
  next-number x = elim (cases_eq p x) [
    | inl e ↦ rw (← e) (get_or-set_same numbers p (k + 1) 0 few ∙ sym own)
    | inr ne ↦ get_or-set_other numbers p x (k + 1) 0 (λ e. ne (sym e)) ∙ numbered x ∙ sym (other x ne)
  ]
