-- General: the first bytes that pass a test, and what stands behind them.
use Rattle.std.proofs.Common.{◌≡◌, ℕ, suc, ◌+◌, ◌≤◌, inl, inr, Bool, true, false, not, cond, List, [], ◌∷◌, ◌++◌, length, take, drop, refl, sym, ◌∙◌, ap, subst, arith}
use Rattle.std.specs.Prelude.{unwrap_or}
use Rattle.std.specs.List.{All, position, position_or_len}
use Rattle.std.proofs.lemmas.Bool.Decides.{nat_tests}
use Rattle.std.proofs.lemmas.List.{take-append-drop}
use Rattle.std.proofs.lemmas.List.Elements.{All-nil, All-cons, All-head, All-tail}
use Rattle.std.proofs.lemmas.List.Recursion.{is_position_or_len}
use Rattle.std.proofs.lemmas.Bool.{cases_Bool}
use Rattle.numerals.specs.Spans.{StartsNot, IsSpan}

true_false : {A : Type 0} (b : Bool) → b ≡ true → b ≡ false → A
true_false b t f = let bad : true ≡ false = sym t ∙ f in cc

module _ (test : ℕ → Bool) where
  -- how many of the first pass
  abbrev run : List ℕ → ℕ
  run [] = 0
  run (x ∷ xs) = cond (not (test x)) 0 (1 + run xs)

  run_more : (x : ℕ) (xs : List ℕ) → test x ≡ true → run (x ∷ xs) ≡ suc (run xs)
  run_more x xs t = ap (λ (b : Bool). cond (not b) 0 (1 + run xs)) t ∙ omega arith

  run_ends : (x : ℕ) (xs : List ℕ) → test x ≡ false → run (x ∷ xs) ≡ 0
  run_ends x xs f = ap (λ (b : Bool). cond (not b) 0 (1 + run xs)) f

  run_within : (xs : List ℕ) → run xs ≤ length xs
  run_within [] = omega arith
  run_within (x ∷ xs) = elim (cases_Bool (test x)) [
    | inl t ↦ omega (arith, run_more x xs t, run_within xs)
    | inr f ↦ omega (arith, run_ends x xs f)
  ]

  index_is_run : (xs : List ℕ) → unwrap_or (position (λ b. not (test b)) xs) (length xs) ≡ run xs
  index_is_run xs =
      let e : run xs ≡ position_or_len (λ b. not (test b)) xs = is_position_or_len run (λ b. not (test b)) refl (λ x l. refl) xs in
      let within = run_within xs in
      grind (arith, nat_tests)

  run_passes : (xs : List ℕ) → All (λ b. test b ≡ true) (take (run xs) xs)
  run_passes [] = All-nil (λ b. test b ≡ true)
  run_passes (x ∷ xs) = elim (cases_Bool (test x)) [
    | inl t ↦ subst (λ (k : ℕ). All (λ b. test b ≡ true) (take k (x ∷ xs))) (sym (run_more x xs t)) (All-cons (λ b. test b ≡ true) x (take (run xs) xs) t (run_passes xs))
    | inr f ↦ subst (λ (k : ℕ). All (λ b. test b ≡ true) (take k (x ∷ xs))) (sym (run_ends x xs f)) (All-nil (λ b. test b ≡ true))
  ]

  run_stops : (xs : List ℕ) → StartsNot test (drop (run xs) xs)
  run_stops [] = λ b bs e. absurd cc
  run_stops (x ∷ xs) = elim (cases_Bool (test x)) [
    | inl t ↦ subst (λ (k : ℕ). StartsNot test (drop k (x ∷ xs))) (sym (run_more x xs t)) (run_stops xs)
    | inr f ↦ subst (λ (k : ℕ). StartsNot test (drop k (x ∷ xs))) (sym (run_ends x xs f)) (λ b bs e. let same : x ≡ b = cc in sym (ap test same) ∙ f)
  ]

  -- a list that is cut at its first byte that doesn't pass
  pub span_by : (xs front back : List ℕ) (k : ℕ) → k ≡ unwrap_or (position (λ b. not (test b)) xs) (length xs)
      → front ≡ take k xs → back ≡ drop k xs → IsSpan test xs front back
  span_by xs front back k is ef eb =
      let e : k ≡ run xs = is ∙ index_is_run xs in
      let front_is : front ≡ take (run xs) xs = ef ∙ ap (λ (n : ℕ). take n xs) e in
      let back_is : back ≡ drop (run xs) xs = eb ∙ ap (λ (n : ℕ). drop n xs) e in
      let P : List ℕ → Type 0 = λ l. All (λ b. test b ≡ true) l in
      record {
        spelled = sym (take-append-drop (run xs) xs) ∙ ap (λ (l : List ℕ). l ++ drop (run xs) xs) (sym front_is) ∙ ap (λ (l : List ℕ). front ++ l) (sym back_is);
        passes = subst P (sym front_is) (run_passes xs);
        ends = subst (StartsNot test) (sym back_is) (run_stops xs);
      }

  -- there is one such cut
  pub one_span : (f b f' b' : List ℕ) → f ++ b ≡ f' ++ b' → All (λ x. test x ≡ true) f → All (λ x. test x ≡ true) f' → StartsNot test b → StartsNot test b'
      → (f ≡ f') × (b ≡ b')
  one_span [] b [] b' e all all' ends ends' = (refl, e)
  one_span [] b (y ∷ f') b' e all all' ends ends' = absurd (true_false (test y) (All-head (λ x. test x ≡ true) y f' all') (ends y (f' ++ b') e))
  one_span (x ∷ f) b [] b' e all all' ends ends' = absurd (true_false (test x) (All-head (λ x. test x ≡ true) x f all) (ends' x (f ++ b) (sym e)))
  one_span (x ∷ f) b (y ∷ f') b' e all all' ends ends' =
      let head : x ≡ y = cc in
      let tail : f ++ b ≡ f' ++ b' = cc in
      let rest = one_span f b f' b' tail (All-tail (λ x. test x ≡ true) x f all) (All-tail (λ x. test x ≡ true) y f' all') ends ends' in
      (ap (λ (z : ℕ). z ∷ f) head ∙ ap (λ (l : List ℕ). y ∷ l) rest.0, rest.1)
