-- How names between slashes are cut at the first slash.
use Rattle.std.proofs.Common.{◌≡◌, ℕ, zero, suc, ◌<◌, ◌==◌, List, [], ◌∷◌, length, take, drop, get_or, arith, refl, ◌∙◌, ap}
use Rattle.std.specs.List.{slice_split, onto_first}
use Rattle.std.proofs.lemmas.Bool.{eq-eqb, ne_eqb}
use Rattle.std.proofs.lemmas.List.Splits.{slice_split-cons_yes, slice_split-cons_no}

-- the names, cut at each slash
abbrev pub parts : List ℕ → List (List ℕ)
parts = slice_split (λ b. b == 47)

-- without a slash there is one name
pub parts_none : (xs : List ℕ) → ((k : ℕ) → k < length xs → get_or xs k 0 ≡ 47 → ⊥) → parts xs ≡ xs ∷ []
parts_none [] none = refl
parts_none (x ∷ xs) none =
    slice_split-cons_no (λ b. b == 47) x xs (ne_eqb x 47 (none 0 (omega arith)))
    ∙ ap (onto_first x) (parts_none xs (λ k below. none (suc k) (omega arith)))

-- a slash behind a name ends it
pub parts_at : (xs : List ℕ) (i : ℕ) → i < length xs → ((k : ℕ) → k < i → get_or xs k 0 ≡ 47 → ⊥) → get_or xs i 0 ≡ 47
    → parts xs ≡ take i xs ∷ parts (drop (suc i) xs)
parts_at [] i within none here = absurd (omega arith)
parts_at (x ∷ xs) zero within none here = slice_split-cons_yes (λ b. b == 47) x xs (eq-eqb x 47 here)
parts_at (x ∷ xs) (suc i) within none here =
    slice_split-cons_no (λ b. b == 47) x xs (ne_eqb x 47 (none 0 (omega arith)))
    ∙ ap (onto_first x) (parts_at xs i (omega arith) (λ k below. none (suc k) (omega arith)) here)
