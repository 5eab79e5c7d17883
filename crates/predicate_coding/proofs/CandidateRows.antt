-- Which variable is that of a candidate.
use Rattle.std.proofs.Common.{◌≡◌, inl, inr, ℕ, zero, suc, ◌+◌, ◌-◌, ◌<◌, ◌≤◌, ltb, cond, Bool, true, false, List, [], ◌∷◌, ◌++◌, length, filter, get_or, refl, sym, ◌∙◌, ap, subst, arith}
use Rattle.std.specs.List.{range_with_len}
use Rattle.std.proofs.lemmas.Bool.{lt-ltb}
use Rattle.std.proofs.lemmas.Bool.Decides.{nat_tests}
use Rattle.std.proofs.Math.ListN.{get_or-append}
use Rattle.std.proofs.Math.Seq.{get_or-append_right}
use Rattle.std.proofs.lemmas.List.{length-append}
use Rattle.std.proofs.lemmas.List.Elements.{filter-append}
use Rattle.order_coding.proofs.GeneralLists.{order-of, range_more}

module _ (p : ℕ → Bool) where
  abbrev below : ℕ → List ℕ
  below n = filter p (range_with_len 0 n)

  below-next : (n : ℕ) → below (n + 1) ≡ below n ++ filter p (n ∷ [])
  below-next n = ap (filter p) (range_more 0 n) ∙ filter-append p (range_with_len 0 n) ((0 + n) ∷ []) ∙ (let e : 0 + n ≡ n = omega arith in ap (λ (k : ℕ). below n ++ filter p (k ∷ [])) e)

  one-kept : (f : ℕ) → p f ≡ true → filter p (f ∷ []) ≡ f ∷ []
  one-kept f e = rw e refl

  At : ℕ → ℕ → Type 0
  At n f = (length (below f) < length (below n)) × (get_or (below n) (length (below f)) 0 ≡ f)

  at-next : (n f : ℕ) → p f ≡ true → (f < n → At n f) → f < n + 1 → At (n + 1) f
  unfolding At
  at-next n f e ih l = elim (order-of f n) [
    | inl less ↦
        let (short, is) = ih less in (
          omega (arith, ap length (below-next n), length-append (below n) (filter p (n ∷ []))),
          ap (λ (xs : List ℕ). get_or xs (length (below f)) 0) (below-next n) ∙ get_or-append (below n) (filter p (n ∷ [])) 0 (length (below f)) short ∙ is,
        )
    | inr (inl same) ↦
        let last = below-next n ∙ ap (λ (xs : List ℕ). below n ++ xs) (ap (λ (k : ℕ). filter p (k ∷ [])) (sym same) ∙ one-kept f e) in
        let long = ap (λ (k : ℕ). length (below k)) same in
        let end : length (below f) - length (below n) ≡ 0 = omega arith in (
          omega (arith, ap length last, length-append (below n) (f ∷ [])),
          ap (λ (xs : List ℕ). get_or xs (length (below f)) 0) last ∙ get_or-append_right (below n) (f ∷ []) (length (below f)) 0 (omega arith)
              ∙ ap (λ (k : ℕ). get_or (f ∷ []) k 0) end,
        )
    | inr (inr more) ↦ absurd (omega arith)
  ]

  at-every : (n f : ℕ) → p f ≡ true → f < n → At n f
  at-every zero f e l = absurd (omega arith)
  at-every (suc n) f e l = let next : n + 1 ≡ suc n = omega arith in subst (λ (k : ℕ). At k f) next (at-next n f e (at-every n f e) (omega arith))

  pub below-read : (n f : ℕ) → p f ≡ true → f < n → (length (below f) < length (below n)) × (get_or (below n) (length (below f)) 0 ≡ f)
  unfolding At
  below-read n f e l = at-every n f e l

ge-ltb : (n f : ℕ) → f ≤ n → ltb n f ≡ false
ge-ltb n f l = grind (arith, nat_tests)

-- how many of the numbers that are kept of the first n are below f
module _ (p : ℕ → Bool) (f : ℕ) where
  abbrev low : ℕ → Bool
  low c = ltb c f

  kept_low : (b : Bool) (n : ℕ) → ltb n f ≡ true → length (filter low (cond b (n ∷ []) [])) ≡ length (cond b (n ∷ []) [])
  kept_low true n e = rw e refl
  kept_low false n e = refl

  kept_high : (b : Bool) (n : ℕ) → ltb n f ≡ false → length (filter low (cond b (n ∷ []) [])) ≡ 0
  kept_high true n e = rw e refl
  kept_high false n e = refl

  next-low : (n : ℕ) → length (filter low (below p (n + 1))) ≡ length (filter low (below p n)) + length (filter low (filter p (n ∷ [])))
  next-low n =
      ap (λ (xs : List ℕ). length (filter low xs)) (below-next p n)
      ∙ ap length (filter-append low (below p n) (filter p (n ∷ [])))
      ∙ length-append (filter low (below p n)) (filter low (filter p (n ∷ [])))

  next-all : (n : ℕ) → length (below p (n + 1)) ≡ length (below p n) + length (filter p (n ∷ []))
  next-all n = ap length (below-next p n) ∙ length-append (below p n) (filter p (n ∷ []))

  abbrev Counted : ℕ → Type 0
  Counted n = (n ≤ f → length (filter low (below p n)) ≡ length (below p n)) × (f ≤ n → length (filter low (below p n)) ≡ length (below p f))

  counted-next : (n : ℕ) → Counted n → Counted (n + 1)
  counted-next n h = (
    λ l. let yes_low : ltb n f ≡ true = lt-ltb n f (omega arith) in
        omega (arith, next-low n, next-all n, h.0 (omega arith), kept_low (p n) n yes_low),
    λ l. elim (order-of f n) [
      | inl less ↦ let not_low : ltb n f ≡ false = ge-ltb n f (omega arith) in omega (arith, next-low n, h.1 (omega arith), kept_high (p n) n not_low)
      | inr (inl same) ↦ let not_low : ltb n f ≡ false = ge-ltb n f (omega arith) in omega (arith, next-low n, h.1 (omega arith), kept_high (p n) n not_low)
      | inr (inr more) ↦
          let yes_low : ltb n f ≡ true = lt-ltb n f more in
          let whole : n + 1 ≡ f = omega arith in
          omega (arith, next-low n, next-all n, h.0 (omega arith), kept_low (p n) n yes_low, ap (λ (k : ℕ). length (below p k)) whole)
    ],
  )

  counted : (n : ℕ) → Counted n
  counted zero = (λ l. refl, λ l. let none : f ≡ 0 = omega arith in ap (λ (k : ℕ). length (below p k)) (sym none))
  counted (suc n) = let next : n + 1 ≡ suc n = omega arith in subst Counted next (counted-next n (counted n))

  pub count-below : (n : ℕ) → f ≤ n → length (filter low (below p n)) ≡ length (below p f)
  count-below n l = (counted n).1 l
