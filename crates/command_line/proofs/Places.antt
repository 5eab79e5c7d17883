-- The place of a word among lent ones.
use Rattle.std.proofs.Common.{◌≡◌, ◌∙◌, ℕ, suc, ◌+◌, List, [], ◌∷◌, Bor, Option, Some, None, not, cond, nat_lt, length, map, option_map, slice_get, bytes_eq, refl, sym, ap, ap₂, subst}
use Rattle.std.specs.List.{position_or_len, position}
use Rattle.command_line.specs.Commands.{IsBranch}

fronts : (word : List ℕ) (lent : List (Bor (List ℕ))) → position_or_len (λ c. bytes_eq word c.now) lent ≡ position_or_len (bytes_eq word) (map (λ c. c.now) lent)
fronts word [] = refl
fronts word (c ∷ rest) = ap (λ n. cond (not (bytes_eq word c.now)) (1 + n) 0) (fronts word rest)

lengths : (lent : List (Bor (List ℕ))) → length lent ≡ length (map (λ c. c.now) lent)
lengths [] = refl
lengths (c ∷ rest) = ap suc (lengths rest)

pub place_among : (word : List ℕ) (lent : List (Bor (List ℕ))) → position (λ c. bytes_eq word c.now) lent ≡ position (bytes_eq word) (map (λ c. c.now) lent)
place_among word lent = ap₂ (λ place count. cond (nat_lt place count) (Some place) None) (fronts word lent) (lengths lent)

-- the choice that `--branch` names is at the place of its word
pub no_choice : (lent : List (Bor (List ℕ))) (given : Option (Bor (List ℕ))) (word : Bor (List ℕ)) → given ≡ Some word → position (λ c. bytes_eq word.now c.now) lent ≡ None
    → (place : Option ℕ) → IsBranch (map (λ c. c.now) lent) (option_map (λ w. w.now) given) place → ⊥
no_choice lent given word is none place branch =
    let found : IsBranch (map (λ c. c.now) lent) (Some word.now) place = subst (λ w. IsBranch (map (λ c. c.now) lent) (option_map (λ b. b.now) w) place) is branch in
    let both : Some found.0 ≡ None = sym found.1 ∙ sym (place_among word.now lent) ∙ none in
    cc both

pub one_choice : (lent : List (Bor (List ℕ))) (given : Option (Bor (List ℕ))) (word : Bor (List ℕ)) (n : ℕ) → given ≡ Some word → position (λ c. bytes_eq word.now c.now) lent ≡ Some n
    → IsBranch (map (λ c. c.now) lent) (option_map (λ w. w.now) given) (Some n)
one_choice lent given word n is found =
    subst (λ w. IsBranch (map (λ c. c.now) lent) (option_map (λ b. b.now) w) (Some n)) (sym is) (n, sym (place_among word.now lent) ∙ found, refl)

-- a word whose first byte is an `@` begins with it
pub begins : (word : List ℕ) → slice_get word 0 ≡ Some 64 → (rest : List ℕ) × (word ≡ 64 ∷ rest)
begins [] e = cc e
begins (byte ∷ rest) e = let first : byte ≡ 64 = cc e in (rest, ap (λ b. b ∷ rest) first)
