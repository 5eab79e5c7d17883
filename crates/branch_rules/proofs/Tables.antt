-- Scores that rise or are halved, and the highest of them.
use Rattle.std.proofs.Common.{◌≡◌, ◌≢◌, ℕ, ◌+◌, ◌-◌, ◌*◌, ◌/◌, ◌<◌, ◌≤◌, ◌++◌, ◌∷◌, [], ◌⊎◌, inl, inr, Bool, List, Option, Some, None, length, map, get_or, set, take, refl, ap, sym, ◌∙◌, subst, arith, length-set, get_or-set_same, get_or-set_other}
use Rattle.std.proofs.lemmas.Bool.{cases_eq, cases_lt}
use Rattle.std.proofs.lemmas.List.{length-map, take-append-le, get_or_past, get_or-take}
use Rattle.std.proofs.Math.ListN.{get_or-map}
use Rattle.branch_rules.specs.Choosing.{score_of, IsOpen, IsHighest}
use Rattle.branch_rules.specs.Heap.{rank, rank_of, parent, IsRanked, IsAlmost, IsIndexed, IsKept, HaveSame, Under}
use Rattle.branch_rules.proofs.Rising.{under-all}

-- a slice that was written is the whole list
take-len : {A : Type 0} (xs : List A) → take (length xs) xs ≡ xs
take-len [] = refl
take-len (x ∷ xs) = ap (λ ys. x ∷ ys) (take-len xs)

pub whole : {A : Type 0} (n : ℕ) (xs ys : List A) → length xs ≡ n → take n (xs ++ ys) ≡ xs
whole n xs ys e =
    let P : ℕ → Type 0 = λ k. take k (xs ++ ys) ≡ xs in
    subst P e (take-append-le (length xs) xs ys (omega arith) ∙ take-len xs)

pub front-read : (xs front : List ℕ) (n i : ℕ) → front ≡ take n xs → i < n → get_or front i 0 ≡ get_or xs i 0
front-read xs front n i e lt = ap (λ (ys : List ℕ). get_or ys i 0) e ∙ get_or-take n xs i 0 lt

-- one score rises
module _ (scores : List ℕ) (v step : ℕ) (lo : 1 ≤ v) (hi : v ≤ length scores) where
  abbrev scores' : List ℕ
  scores' = set scores (v - 1) (score_of scores v + step)

  v_len : v - 1 < length scores
  v_len = omega (arith, lo, hi)

  score-same : (x : ℕ) → 1 ≤ x → x ≢ v → score_of scores' x ≡ score_of scores x
  score-same x xlo ne = get_or-set_other scores (v - 1) (x - 1) (score_of scores v + step) 0 (omega (arith, xlo, lo, ne))

  score-up : score_of scores' v ≡ score_of scores v + step
  score-up = get_or-set_same scores (v - 1) (score_of scores v + step) 0 v_len

  rank-same : (x : ℕ) → 1 ≤ x → x ≢ v → rank scores' x ≡ rank scores x
  rank-same x xlo ne = ap (λ (s : ℕ). s * 4294967296 + (4294967296 - x)) (score-same x xlo ne)

  rank-up : (x : ℕ) → 1 ≤ x → rank scores x ≤ rank scores' x
  rank-up x xlo = elim (cases_eq x v) [
    | inl q ↦
        let up : score_of scores' x ≡ score_of scores x + step = ap (λ (k : ℕ). score_of scores' k) q ∙ score-up ∙ ap (λ (k : ℕ). score_of scores k + step) (sym q) in
        omega (arith, up)
    | inr ne ↦ omega (arith, rank-same x xlo ne)
  ]

  module _ (heap places : List ℕ) (n : ℕ) (x : IsIndexed heap places n (length heap)) (placed : get_or places (v - 1) 0 ≢ 0) where
    apart : (i : ℕ) → i < n → i ≢ get_or places (v - 1) 0 - 1 → get_or heap i 0 ≢ v
    apart i lt ne q =
        let held = (x.held i lt).2 in
        let at : get_or places (v - 1) 0 ≡ i + 1 = ap (λ (k : ℕ). get_or places (k - 1) 0) (sym q) ∙ held in
        ne (omega (arith, at))

    pub still-almost : IsAlmost scores heap n (get_or places (v - 1) 0 - 1) → IsAlmost scores' heap n (get_or places (v - 1) 0 - 1)
    still-almost al = record {
      others = λ i ilo ihi ne.
          let here = (x.held i ihi).0 in
          let there = (x.held (parent i) (omega (arith, ilo, ihi))).0 in
          omega (arith, rank-same (get_or heap i 0) here (apart i ihi ne), al.others i ilo ihi ne, rank-up (get_or heap (parent i) 0) there);
      below = λ i ilo ihi is pos.
          let at : ℕ = get_or places (v - 1) 0 - 1 in
          let ne : i ≢ at = λ q. omega (arith, q, is, ilo) in
          let here = (x.held i ihi).0 in
          let there = (x.held (parent at) (omega (arith, ilo, ihi, is))).0 in
          omega (arith, rank-same (get_or heap i 0) here (apart i ihi ne), al.below i ilo ihi is pos, rank-up (get_or heap (parent at) 0) there);
    }

-- what is kept after that
pub kept-added :
    (scores heap places places1 heap2 places2 : List ℕ) (count count2 step v : ℕ)
    → (k : IsKept scores heap places count step) → (lo : 1 ≤ v) → (hi : v ≤ length scores) → score_of scores v + step ≤ 1152921504606846976
    → get_or places1 (v - 1) 0 ≢ 0 → ((p : ℕ) → p ≢ v - 1 → get_or places1 p 0 ≡ get_or places p 0) → HaveSame places1 places2
    → IsRanked (set scores (v - 1) (score_of scores v + step)) heap2 count2 → IsIndexed heap2 places2 count2 (length scores)
    → IsKept (set scores (v - 1) (score_of scores v + step)) heap2 places2 count2 step
kept-added scores heap places places1 heap2 places2 count count2 step v k lo hi room placed others same ranked indexed =
    let scores'' : List ℕ = set scores (v - 1) (score_of scores v + step) in
    let P : ℕ → Type 0 = λ n. IsIndexed heap2 places2 count2 n in
    record {
      ranked = ranked;
      indexed = subst P (sym (length-set scores (v - 1) (score_of scores v + step))) indexed;
      unnoted = λ x xlo xhi z.
          let before : get_or places1 (x - 1) 0 ≡ 0 = (same (x - 1)).1 z in
          let away : x - 1 ≢ v - 1 = λ q. placed (ap (λ (n : ℕ). get_or places1 n 0) (sym q) ∙ before) in
          let old : score_of scores x ≡ 0 = k.unnoted x xlo (omega (arith, xhi, length-set scores (v - 1) (score_of scores v + step))) (sym (others (x - 1) away) ∙ before) in
          get_or-set_other scores (v - 1) (x - 1) (score_of scores v + step) 0 away ∙ old;
      small = λ i. elim (cases_eq i (v - 1)) [
        | inl q ↦
            let is : get_or (set scores (v - 1) (score_of scores v + step)) i 0 ≡ score_of scores v + step =
            ap (λ (n : ℕ). get_or (set scores (v - 1) (score_of scores v + step)) n 0) q ∙ get_or-set_same scores (v - 1) (score_of scores v + step) 0 (omega (arith, lo, hi)) in
            omega (arith, is, room)
        | inr ne ↦ omega (arith, get_or-set_other scores (v - 1) i (score_of scores v + step) 0 ne, k.small i)
      ];
      short_step = k.short_step;
    }

-- all scores are halved
pub half-read : (scores : List ℕ) (i : ℕ) → get_or (map (λ (n : ℕ). n / 2) scores) i 0 ≡ get_or scores i 0 / 2
half-read scores i = get_or-map (λ (n : ℕ). n / 2) scores i 0

pub kept-halved :
    (scores heap places heap2 places2 : List ℕ) (count step : ℕ)
    → IsKept scores heap places count step → HaveSame places places2
    → IsRanked (map (λ (n : ℕ). n / 2) scores) heap2 count → IsIndexed heap2 places2 count (length scores)
    → IsKept (map (λ (n : ℕ). n / 2) scores) heap2 places2 count (step / 2)
kept-halved scores heap places heap2 places2 count step k same ranked indexed =
    let P : ℕ → Type 0 = λ n. IsIndexed heap2 places2 count n in
    let len : length (map (λ (n : ℕ). n / 2) scores) ≡ length scores = length-map scores (λ (n : ℕ). n / 2) in
    record {
      ranked = ranked;
      indexed = subst P (sym len) indexed;
      unnoted = λ x xlo xhi z.
          let old : score_of scores x ≡ 0 = k.unnoted x xlo (omega (arith, xhi, len)) ((same (x - 1)).1 z) in
          let is = half-read scores (x - 1) in
          omega (arith, is, old);
      small = λ i. let is = half-read scores i in let old = k.small i in omega (arith, is, old);
      short_step = let old = k.short_step in omega (arith, old);
    }

-- the highest of those without a value
module _ (scores heap places : List ℕ) (count step : ℕ) (k : IsKept scores heap places count step) (values : List (Option Bool)) (front : List ℕ) (len : length front ≡ count) (reads : (i : ℕ) → i < count → get_or front i 0 ≡ get_or heap i 0) (result : Option ℕ) (best : (i : ℕ) → Under 0 i → i < length front → IsOpen values (get_or front i 0) → rank scores (get_or front i 0) ≤ rank_of scores result) where
  bound : (w : ℕ) → IsOpen values w → (score_of scores w ≡ 0) ⊎ ((w ≤ length scores) × (rank scores w ≤ rank_of scores result))
  bound w without = elim (cases_lt (length scores) w) [
    | inl past ↦ inl (get_or_past scores (w - 1) 0 (omega (arith, past)))
    | inr there ↦ elim (cases_eq (get_or places (w - 1) 0) 0) [
      | inl z ↦ inl (k.unnoted w without.0 there z)
      | inr ne ↦
          let at = k.indexed.placed w without.0 there ne in
          let lt : get_or places (w - 1) 0 - 1 < count = omega (arith, at.0, ne) in
          let is : get_or front (get_or places (w - 1) 0 - 1) 0 ≡ w = reads (get_or places (w - 1) 0 - 1) lt ∙ at.1 in
          let P : ℕ → Type 0 = λ x. IsOpen values x → rank scores x ≤ rank_of scores result in
          inr (there, subst P is (best (get_or places (w - 1) 0 - 1) (under-all (get_or places (w - 1) 0 - 1)) (omega (arith, lt, len))) without)
    ]
  ]

  pub zero-none : result ≡ None → (w : ℕ) → IsOpen values w → score_of scores w ≡ 0
  zero-none e w without = elim (bound w without) [
    | inl z ↦ z
    | inr h ↦
        let P : Option ℕ → Type 0 = λ r. rank scores w ≤ rank_of scores r in
        let low : rank scores w ≤ 0 = subst P e h.1 in
        absurd (omega (arith, low, h.0, k.indexed.short))
  ]

  module _ (b : ℕ) (e : result ≡ Some b) (lo : 1 ≤ b) (hi : b ≤ length scores) where
    low : (w : ℕ) → rank scores w ≤ rank_of scores result → rank scores w ≤ rank scores b
    low w h = let P : Option ℕ → Type 0 = λ r. rank scores w ≤ rank_of scores r in subst P e h

    pub zero-some : score_of scores b ≡ 0 → (w : ℕ) → IsOpen values w → score_of scores w ≡ 0
    zero-some zero' w without = elim (bound w without) [
      | inl z ↦ z
      | inr h ↦ let l = low w h.1 in omega (arith, l, zero', lo, h.0, k.indexed.short)
    ]

    pub is-highest : score_of scores b ≢ 0 → IsOpen values b → IsHighest scores values b
    is-highest some there = (
      there,
      λ w without. elim (bound w without) [
        | inl z ↦ inl (omega (arith, z, some))
        | inr h ↦ elim (cases_eq (score_of scores w) (score_of scores b)) [
          | inl q ↦ inr (q, let l = low w h.1 in omega (arith, l, q, h.0, hi, k.indexed.short))
          | inr ne ↦ inl (let l = low w h.1 in omega (arith, l, ne, lo, h.0, hi, k.indexed.short))
        ]
      ],
    )
