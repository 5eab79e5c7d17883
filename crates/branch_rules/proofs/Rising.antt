-- A variable goes up in a heap, and what stands at the top.
use Rattle.std.proofs.Common.{◌≡◌, ◌≢◌, ℕ, zero, suc, ◌+◌, ◌*◌, ◌<◌, ◌≤◌, inl, inr, List, length, get_or, refl, ap, sym, ◌∙◌, subst, arith}
use Rattle.std.proofs.lemmas.Bool.{cases_eq}
use Rattle.branch_rules.specs.Heap.{rank, parent, IsRanked, IsAlmost, exchanged, Under}
use Rattle.branch_rules.specs.Heap.Under.{here, left, right}
use Rattle.branch_rules.proofs.Heaping.{read-first, read-second, read-other}

by : (scores : List ℕ) (x y a b : ℕ) → x ≡ a → y ≡ b → rank scores a ≤ rank scores b → rank scores x ≤ rank scores y
by scores x y a b e f h =
    let P : ℕ → Type 0 = λ k. rank scores k ≤ rank scores y in
    let Q : ℕ → Type 0 = λ k. rank scores a ≤ rank scores k in
    subst P (sym e) (subst Q (sym f) h)

module _ (scores heap : List ℕ) (size at : ℕ) (al : IsAlmost scores heap size at) (at_in : at < size) where
  pub at-top : at ≡ 0 → IsRanked scores heap size
  at-top z i lo hi = al.others i lo hi (λ q. (let bad : i ≡ 0 = q ∙ z in omega (arith, bad, lo)))

  pub low-enough : rank scores (get_or heap at 0) ≤ rank scores (get_or heap (parent at) 0) → IsRanked scores heap size
  low-enough h i lo hi = elim (cases_eq i at) [
    | inl q ↦ by scores (get_or heap i 0) (get_or heap (parent i) 0) (get_or heap at 0) (get_or heap (parent at) 0) (ap (λ (k : ℕ). get_or heap k 0) q) (ap (λ (k : ℕ). get_or heap (parent k) 0) q) h
    | inr ne ↦ al.others i lo hi ne
  ]

  module _ (len : size ≤ length heap) (pos : 0 < at) (above : rank scores (get_or heap (parent at) 0) < rank scores (get_or heap at 0)) where
    abbrev up : ℕ
    up = parent at

    up-lt : up < at
    up-lt = omega (arith, pos)

    at_len : at < length heap
    at_len = omega (arith, at_in, len)

    up_len : up < length heap
    up_len = omega (arith, at_in, len, up-lt)

    apart : at ≢ up
    apart = λ q. omega (arith, q, up-lt)

    abbrev read : ℕ → ℕ
    read i = get_or (exchanged heap at up) i 0

    at-up : read up ≡ get_or heap at 0
    at-up = read-second heap at up (get_or heap up 0) (get_or heap at 0) up_len

    at-at : read at ≡ get_or heap up 0
    at-at = read-first heap at up (get_or heap up 0) (get_or heap at 0) apart at_len

    at-other : (i : ℕ) → i ≢ at → i ≢ up → read i ≡ get_or heap i 0
    at-other i na nu = read-other heap at up i (get_or heap up 0) (get_or heap at 0) na nu

    ordered : (i : ℕ) → 0 < i → i < size → i ≢ up → rank scores (read i) ≤ rank scores (read (parent i))
    ordered i lo hi nu = elim (cases_eq i at) [
      | inl q ↦ by scores (read i) (read (parent i)) (get_or heap up 0) (get_or heap at 0) (ap (λ (k : ℕ). read k) q ∙ at-at) (ap (λ (k : ℕ). read (parent k)) q ∙ at-up) (omega (arith, above))
      | inr na ↦ elim (cases_eq (parent i) at) [
        | inl q ↦ by scores (read i) (read (parent i)) (get_or heap i 0) (get_or heap up 0) (at-other i na nu) (ap (λ (k : ℕ). read k) q ∙ at-at) (al.below i lo hi q pos)
        | inr pa ↦ elim (cases_eq (parent i) up) [
          | inl q ↦
              let old : rank scores (get_or heap i 0) ≤ rank scores (get_or heap up 0) = by scores (get_or heap i 0) (get_or heap up 0) (get_or heap i 0) (get_or heap (parent i) 0) refl (ap (λ (k : ℕ). get_or heap k 0) (sym q)) (al.others i lo hi na) in
              by scores (read i) (read (parent i)) (get_or heap i 0) (get_or heap at 0) (at-other i na nu) (ap (λ (k : ℕ). read k) q ∙ at-up) (omega (arith, old, above))
          | inr pu ↦ by scores (read i) (read (parent i)) (get_or heap i 0) (get_or heap (parent i) 0) (at-other i na nu) (at-other (parent i) pa pu) (al.others i lo hi na)
        ]
      ]
    ]

    under : (i : ℕ) → 0 < i → i < size → parent i ≡ up → 0 < up → rank scores (read i) ≤ rank scores (read (parent up))
    under i lo hi is pu =
        let top-lt : parent up < up = omega (arith, pu) in
        let top : read (parent up) ≡ get_or heap (parent up) 0 = at-other (parent up) (λ q. omega (arith, q, top-lt, up-lt)) (λ q. omega (arith, q, top-lt)) in
        let base : rank scores (get_or heap up 0) ≤ rank scores (get_or heap (parent up) 0) = al.others up pu (omega (arith, up-lt, at_in)) (λ q. apart (sym q)) in
        elim (cases_eq i at) [
          | inl q ↦ by scores (read i) (read (parent up)) (get_or heap up 0) (get_or heap (parent up) 0) (ap (λ (k : ℕ). read k) q ∙ at-at) top base
          | inr na ↦
              let nu : i ≢ up = λ q. omega (arith, q, is, lo) in
              let old : rank scores (get_or heap i 0) ≤ rank scores (get_or heap up 0) = by scores (get_or heap i 0) (get_or heap up 0) (get_or heap i 0) (get_or heap (parent i) 0) refl (ap (λ (k : ℕ). get_or heap k 0) (sym is)) (al.others i lo hi na) in
              by scores (read i) (read (parent up)) (get_or heap i 0) (get_or heap (parent up) 0) (at-other i na nu) top (omega (arith, old, base))
        ]

    pub risen : IsAlmost scores (exchanged heap at up) size up
    risen = record { others = ordered; below = under }

-- places below others
pub under-le : (at i : ℕ) → Under at i → at ≤ i
under-le at i (here _) = omega arith
under-le at i (left _ _ u) = omega (arith, under-le (2 * at + 1) i u)
under-le at i (right _ _ u) = omega (arith, under-le (2 * at + 2) i u)

pub under-left : (at i : ℕ) → Under at i → Under at (2 * i + 1)
under-left at i (here _) = left at (2 * i + 1) (here (2 * i + 1))
under-left at i (left _ _ u) = left at (2 * i + 1) (under-left (2 * at + 1) i u)
under-left at i (right _ _ u) = right at (2 * i + 1) (under-left (2 * at + 2) i u)

pub under-right : (at i : ℕ) → Under at i → Under at (2 * i + 2)
under-right at i (here _) = right at (2 * i + 2) (here (2 * i + 2))
under-right at i (left _ _ u) = left at (2 * i + 2) (under-right (2 * at + 1) i u)
under-right at i (right _ _ u) = right at (2 * i + 2) (under-right (2 * at + 2) i u)

-- all are below the first
under-first : (n i : ℕ) → i < n → Under 0 i
under-first zero i lt = absurd (omega (arith, lt))
under-first (suc n) i lt = elim (cases_eq i 0) [
  | inl z ↦ subst (λ (k : ℕ). Under 0 k) (sym z) (here 0)
  | inr ne ↦
      let rest = under-first n (parent i) (omega (arith, lt, ne)) in
      elim (cases_eq i (2 * parent i + 1)) [
        | inl q ↦ subst (λ (k : ℕ). Under 0 k) (sym q) (under-left 0 (parent i) rest)
        | inr nq ↦
            let q : i ≡ 2 * parent i + 2 = omega (arith, ne, nq) in
            subst (λ (k : ℕ). Under 0 k) (sym q) (under-right 0 (parent i) rest)
      ]
]

pub under-all : (i : ℕ) → Under 0 i
under-all i = under-first (suc i) i (omega arith)

-- what stands below isn't above
pub under-ranked : (scores heap : List ℕ) (size : ℕ) → IsRanked scores heap size → (at i : ℕ) → Under at i → i < size → rank scores (get_or heap i 0) ≤ rank scores (get_or heap at 0)
under-ranked scores heap size h at i (here _) lt = omega arith
under-ranked scores heap size h at i (left _ _ u) lt =
    let low = under-ranked scores heap size h (2 * at + 1) i u lt in
    let step = h (2 * at + 1) (omega arith) (omega (arith, under-le (2 * at + 1) i u, lt)) in
    let is : parent (2 * at + 1) ≡ at = omega arith in
    let P : ℕ → Type 0 = λ k. rank scores (get_or heap (2 * at + 1) 0) ≤ rank scores (get_or heap k 0) in
    omega (arith, low, subst P is step)
under-ranked scores heap size h at i (right _ _ u) lt =
    let low = under-ranked scores heap size h (2 * at + 2) i u lt in
    let step = h (2 * at + 2) (omega arith) (omega (arith, under-le (2 * at + 2) i u, lt)) in
    let is : parent (2 * at + 2) ≡ at = omega arith in
    let P : ℕ → Type 0 = λ k. rank scores (get_or heap (2 * at + 2) 0) ≤ rank scores (get_or heap k 0) in
    omega (arith, low, subst P is step)

-- by the first place and what is below it
pub under-split : (Q : ℕ → Type 0) (at : ℕ) → Q at → ((i : ℕ) → Under (2 * at + 1) i → Q i) → ((i : ℕ) → Under (2 * at + 2) i → Q i) → (i : ℕ) → Under at i → Q i
under-split Q at this l r i (here _) = this
under-split Q at this l r i (left _ _ u) = l i u
under-split Q at this l r i (right _ _ u) = r i u
