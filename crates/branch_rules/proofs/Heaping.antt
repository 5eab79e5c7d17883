-- Places of a heap: two variables exchanged, and one put behind the others.
use Rattle.std.proofs.Common.{◌≡◌, ◌≢◌, ℕ, ◌+◌, ◌-◌, ◌<◌, ◌≤◌, inl, inr, cond, List, length, get_or, set, nat_le, ap, sym, ◌∙◌, subst, arith, length-set, get_or-set_same, get_or-set_other}
use Rattle.std.specs.Prelude.{count_by}
use Rattle.std.proofs.lemmas.Bool.{cases_eq}
use Rattle.std.proofs.lemmas.Bool.Decides.{nat_tests}
use Rattle.std.proofs.lemmas.List.Sums.{sum_by-set, count_by-le-length}
use Rattle.branch_rules.specs.Heap.{IsIndexed, exchanged}

-- what stands in a list with two items changed
pub read-second : (xs : List ℕ) (i j x y : ℕ) → j < length xs → get_or (set (set xs i x) j y) j 0 ≡ y
read-second xs i j x y lt = get_or-set_same (set xs i x) j y 0 (omega (arith, lt, length-set xs i x))

pub read-first : (xs : List ℕ) (i j x y : ℕ) → i ≢ j → i < length xs → get_or (set (set xs i x) j y) i 0 ≡ x
read-first xs i j x y ne lt = get_or-set_other (set xs i x) j i y 0 ne ∙ get_or-set_same xs i x 0 lt

pub read-other : (xs : List ℕ) (i j k x y : ℕ) → k ≢ i → k ≢ j → get_or (set (set xs i x) j y) k 0 ≡ get_or xs k 0
read-other xs i j k x y ni nj = get_or-set_other (set xs i x) j k y 0 nj ∙ get_or-set_other xs i k x 0 ni

-- how many aren't 0
some : (n : ℕ) → 1 ≤ n → ◌≡◌ {A = ℕ} (cond (nat_le 1 n) 1 0) 1
some n h = grind (arith, nat_tests, h)

none : (n : ℕ) → n ≡ 0 → ◌≡◌ {A = ℕ} (cond (nat_le 1 n) 1 0) 0
none n h = grind (arith, nat_tests, h)

count-set : (xs : List ℕ) (i y : ℕ) → i < length xs → count_by (λ p. nat_le 1 p) (set xs i y) + cond (nat_le 1 (get_or xs i 0)) 1 0 ≡ count_by (λ p. nat_le 1 p) xs + cond (nat_le 1 y) 1 0
count-set xs i y lt = sum_by-set (λ p. cond (nat_le 1 p) 1 0) xs i y 0 lt

count-same : (xs : List ℕ) (i y : ℕ) → i < length xs → 1 ≤ get_or xs i 0 → 1 ≤ y → count_by (λ p. nat_le 1 p) (set xs i y) ≡ count_by (λ p. nat_le 1 p) xs
count-same xs i y lt old new = omega (arith, count-set xs i y lt, some (get_or xs i 0) old, some y new)

count-one : (xs : List ℕ) (i y : ℕ) → i < length xs → get_or xs i 0 ≡ 0 → 1 ≤ y → count_by (λ p. nat_le 1 p) (set xs i y) ≡ count_by (λ p. nat_le 1 p) xs + 1
count-one xs i y lt old new = omega (arith, count-set xs i y lt, none (get_or xs i 0) old, some y new)

module _ (heap places : List ℕ) (count : ℕ) (h : IsIndexed heap places count (length heap)) (a b : ℕ) (a_in : a < count) (b_in : b < count) (two : a ≢ b) where
  abbrev u : ℕ
  u = get_or heap a 0

  abbrev w : ℕ
  w = get_or heap b 0

  abbrev places' : List ℕ
  places' = set (set places (w - 1) (a + 1)) (u - 1) (b + 1)

  at-u : get_or places (u - 1) 0 ≡ a + 1
  at-u = (h.held a a_in).2

  at-w : get_or places (w - 1) 0 ≡ b + 1
  at-w = (h.held b b_in).2

  a_len : a < length heap
  a_len = omega (arith, a_in, h.within)

  b_len : b < length heap
  b_len = omega (arith, b_in, h.within)

  u_len : u - 1 < length places
  u_len = omega (arith, (h.held a a_in).0, (h.held a a_in).1, h.len)

  w_len : w - 1 < length places
  w_len = omega (arith, (h.held b b_in).0, (h.held b b_in).1, h.len)

  apart : w - 1 ≢ u - 1
  apart = λ q. two (omega (arith, at-u, at-w, ap (λ (k : ℕ). get_or places k 0) q))

  -- a variable at another place
  others : (i x : ℕ) → i ≢ a → i ≢ b → get_or places (x - 1) 0 ≡ i + 1 → get_or places' (x - 1) 0 ≡ i + 1
  others i x na nb at =
      let nu : x - 1 ≢ u - 1 = λ q. na (omega (arith, at, at-u, ap (λ (k : ℕ). get_or places k 0) q)) in
      let nw : x - 1 ≢ w - 1 = λ q. nb (omega (arith, at, at-w, ap (λ (k : ℕ). get_or places k 0) q)) in
      read-other places (w - 1) (u - 1) (x - 1) (a + 1) (b + 1) nw nu ∙ at

  Held : ℕ → ℕ → Type 0
  Held i x = (1 ≤ x) × (x ≤ length heap) × (get_or places' (x - 1) 0 ≡ i + 1)

  held-at : (i : ℕ) → i < count → Held i (get_or (exchanged heap a b) i 0)
  unfolding Held
  held-at i lt = elim (cases_eq i b) [
    | inl q ↦
        let P : ℕ → Type 0 = λ x. Held i x in
        let is : get_or (exchanged heap a b) i 0 ≡ u = ap (λ (k : ℕ). get_or (exchanged heap a b) k 0) q ∙ read-second heap a b w u b_len in
        subst P (sym is) ((h.held a a_in).0, (h.held a a_in).1, read-second places (w - 1) (u - 1) (a + 1) (b + 1) u_len ∙ ap (λ (k : ℕ). k + 1) (sym q))
    | inr nb ↦ elim (cases_eq i a) [
      | inl q ↦
          let P : ℕ → Type 0 = λ x. Held i x in
          let is : get_or (exchanged heap a b) i 0 ≡ w = ap (λ (k : ℕ). get_or (exchanged heap a b) k 0) q ∙ read-first heap a b w u two a_len in
          subst P (sym is) ((h.held b b_in).0, (h.held b b_in).1, read-first places (w - 1) (u - 1) (a + 1) (b + 1) apart w_len ∙ ap (λ (k : ℕ). k + 1) (sym q))
      | inr na ↦
          let P : ℕ → Type 0 = λ x. Held i x in
          let is : get_or (exchanged heap a b) i 0 ≡ get_or heap i 0 = read-other heap a b i w u na nb in
          let k = h.held i lt in
          subst P (sym is) (k.0, k.1, others i (get_or heap i 0) na nb k.2)
    ]
  ]

  placed-at : (v : ℕ) → 1 ≤ v → v ≤ length heap → get_or places' (v - 1) 0 ≢ 0 → (get_or places' (v - 1) 0 ≤ count) × (get_or (exchanged heap a b) (get_or places' (v - 1) 0 - 1) 0 ≡ v)
  placed-at v lo hi ne = elim (cases_eq (v - 1) (u - 1)) [
    | inl q ↦
        let is : get_or places' (v - 1) 0 ≡ b + 1 = ap (λ (k : ℕ). get_or places' k 0) q ∙ read-second places (w - 1) (u - 1) (a + 1) (b + 1) u_len in
        let same : u ≡ v = omega (arith, q, lo, (h.held a a_in).0) in
        let P : ℕ → Type 0 = λ p. (p ≤ count) × (get_or (exchanged heap a b) (p - 1) 0 ≡ v) in
        let back : b + 1 - 1 ≡ b = omega arith in
        subst P (sym is) (omega (arith, b_in), ap (λ (k : ℕ). get_or (exchanged heap a b) k 0) back ∙ read-second heap a b w u b_len ∙ same)
    | inr nu ↦ elim (cases_eq (v - 1) (w - 1)) [
      | inl q ↦
          let is : get_or places' (v - 1) 0 ≡ a + 1 = ap (λ (k : ℕ). get_or places' k 0) q ∙ read-first places (w - 1) (u - 1) (a + 1) (b + 1) apart w_len in
          let same : w ≡ v = omega (arith, q, lo, (h.held b b_in).0) in
          let P : ℕ → Type 0 = λ p. (p ≤ count) × (get_or (exchanged heap a b) (p - 1) 0 ≡ v) in
          let back : a + 1 - 1 ≡ a = omega arith in
          subst P (sym is) (omega (arith, a_in), ap (λ (k : ℕ). get_or (exchanged heap a b) k 0) back ∙ read-first heap a b w u two a_len ∙ same)
      | inr nw ↦
          let is : get_or places' (v - 1) 0 ≡ get_or places (v - 1) 0 = read-other places (w - 1) (u - 1) (v - 1) (a + 1) (b + 1) nw nu in
          let old : get_or places (v - 1) 0 ≢ 0 = λ z. ne (is ∙ z) in
          let k = h.placed v lo hi old in
          let na : get_or places (v - 1) 0 - 1 ≢ a = λ q. nu (ap (λ (n : ℕ). n - 1) (sym k.1 ∙ ap (λ (n : ℕ). get_or heap n 0) q)) in
          let nb : get_or places (v - 1) 0 - 1 ≢ b = λ q. nw (ap (λ (n : ℕ). n - 1) (sym k.1 ∙ ap (λ (n : ℕ). get_or heap n 0) q)) in
          let P : ℕ → Type 0 = λ p. (p ≤ count) × (get_or (exchanged heap a b) (p - 1) 0 ≡ v) in
          subst P (sym is) (k.0, read-other heap a b (get_or places (v - 1) 0 - 1) w u na nb ∙ k.1)
    ]
  ]

  pub exchange-indexed : IsIndexed (exchanged heap a b) places' count (length heap)
  unfolding Held
  exchange-indexed = record {
    room = length-set (set heap a w) b u ∙ length-set heap a w;
    len = length-set (set places (w - 1) (a + 1)) (u - 1) (b + 1) ∙ length-set places (w - 1) (a + 1) ∙ h.len;
    within = h.within;
    short = h.short;
    held = held-at;
    placed = placed-at;
    counted =
        let first : get_or (set places (w - 1) (a + 1)) (u - 1) 0 ≡ a + 1 = get_or-set_other places (w - 1) (u - 1) (a + 1) 0 (λ q. apart (sym q)) ∙ at-u in
        count-same (set places (w - 1) (a + 1)) (u - 1) (b + 1) (omega (arith, u_len, length-set places (w - 1) (a + 1))) (omega (arith, first)) (omega arith)
        ∙ count-same places (w - 1) (a + 1) w_len (omega (arith, at-w)) (omega arith)
        ∙ h.counted;
  }

module _ (heap places : List ℕ) (count : ℕ) (h : IsIndexed heap places count (length heap)) (v : ℕ) (lo : 1 ≤ v) (hi : v ≤ length heap) (nowhere : get_or places (v - 1) 0 ≡ 0) where
  v_len : v - 1 < length places
  v_len = omega (arith, lo, hi, h.len)

  one-more : count_by (λ p. nat_le 1 p) (set places (v - 1) (count + 1)) ≡ count + 1
  one-more = count-one places (v - 1) (count + 1) v_len nowhere (omega arith) ∙ ap (λ (n : ℕ). n + 1) h.counted

  pub insert-room : count < length heap
  insert-room = omega (arith, one-more, count_by-le-length (λ p. nat_le 1 p) (set places (v - 1) (count + 1)), length-set places (v - 1) (count + 1), h.len)

  insert-held : (i : ℕ) → i < count + 1 → (1 ≤ get_or (set heap count v) i 0) × (get_or (set heap count v) i 0 ≤ length heap) × (get_or (set places (v - 1) (count + 1)) (get_or (set heap count v) i 0 - 1) 0 ≡ i + 1)
  insert-held i lt = elim (cases_eq i count) [
    | inl q ↦
        let P : ℕ → Type 0 = λ x. (1 ≤ x) × (x ≤ length heap) × (get_or (set places (v - 1) (count + 1)) (x - 1) 0 ≡ i + 1) in
        let is : get_or (set heap count v) i 0 ≡ v = ap (λ (k : ℕ). get_or (set heap count v) k 0) q ∙ get_or-set_same heap count v 0 insert-room in
        subst P (sym is) (lo, hi, get_or-set_same places (v - 1) (count + 1) 0 v_len ∙ ap (λ (k : ℕ). k + 1) (sym q))
    | inr ne ↦
        let k = h.held i (omega (arith, lt, ne)) in
        let P : ℕ → Type 0 = λ x. (1 ≤ x) × (x ≤ length heap) × (get_or (set places (v - 1) (count + 1)) (x - 1) 0 ≡ i + 1) in
        let is : get_or (set heap count v) i 0 ≡ get_or heap i 0 = get_or-set_other heap count i v 0 ne in
        let away : get_or heap i 0 - 1 ≢ v - 1 = λ q. (let both : i + 1 ≡ 0 = sym k.2 ∙ ap (λ (n : ℕ). get_or places n 0) q ∙ nowhere in omega (arith, both)) in
        subst P (sym is) (k.0, k.1, get_or-set_other places (v - 1) (get_or heap i 0 - 1) (count + 1) 0 away ∙ k.2)
  ]

  insert-placed : (x : ℕ) → 1 ≤ x → x ≤ length heap → get_or (set places (v - 1) (count + 1)) (x - 1) 0 ≢ 0 → (get_or (set places (v - 1) (count + 1)) (x - 1) 0 ≤ count + 1) × (get_or (set heap count v) (get_or (set places (v - 1) (count + 1)) (x - 1) 0 - 1) 0 ≡ x)
  insert-placed x xlo xhi ne =
      let P : ℕ → Type 0 = λ p. (p ≤ count + 1) × (get_or (set heap count v) (p - 1) 0 ≡ x) in
      elim (cases_eq (x - 1) (v - 1)) [
        | inl q ↦
            let is : get_or (set places (v - 1) (count + 1)) (x - 1) 0 ≡ count + 1 = ap (λ (k : ℕ). get_or (set places (v - 1) (count + 1)) k 0) q ∙ get_or-set_same places (v - 1) (count + 1) 0 v_len in
            let same : v ≡ x = omega (arith, q, lo, xlo) in
            let back : count + 1 - 1 ≡ count = omega arith in
            subst P (sym is) (omega arith, ap (λ (k : ℕ). get_or (set heap count v) k 0) back ∙ get_or-set_same heap count v 0 insert-room ∙ same)
        | inr away ↦
            let is : get_or (set places (v - 1) (count + 1)) (x - 1) 0 ≡ get_or places (x - 1) 0 = get_or-set_other places (v - 1) (x - 1) (count + 1) 0 away in
            let old : get_or places (x - 1) 0 ≢ 0 = λ z. ne (is ∙ z) in
            let k = h.placed x xlo xhi old in
            let there : get_or places (x - 1) 0 - 1 ≢ count = omega (arith, k.0, old) in
            subst P (sym is) (omega (arith, k.0), get_or-set_other heap count (get_or places (x - 1) 0 - 1) v 0 there ∙ k.1)
      ]

  pub insert-indexed : IsIndexed (set heap count v) (set places (v - 1) (count + 1)) (count + 1) (length heap)
  insert-indexed = record {
    room = length-set heap count v;
    len = length-set places (v - 1) (count + 1) ∙ h.len;
    within = omega (arith, insert-room);
    short = h.short;
    held = insert-held;
    placed = insert-placed;
    counted = one-more;
  }
