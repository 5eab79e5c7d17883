-- A word is one number at most.
use Rattle.std.proofs.Common.{◌≡◌, ◌≤◌, ◌<◌, ◌∙◌, ℕ, List, decimal, sym, arith}
use Rattle.std.proofs.lemmas.Fmt.{decimal_injective}

pub not_below : (word : List ℕ) (number least n : ℕ) → number ≤ 4294967295 → n ≤ 4294967295 → word ≡ decimal number → number < least → least ≤ n → word ≡ decimal n → ⊥
not_below word number least n fits within is below from same =
    let equal : number ≡ n = decimal_injective number n (omega (arith, fits)) (omega (arith, within)) (sym is ∙ same) in
    omega (arith, below, equal, from)

pub not_above : (word : List ℕ) (number most n : ℕ) → number ≤ 4294967295 → n ≤ 4294967295 → word ≡ decimal number → most < number → n ≤ most → word ≡ decimal n → ⊥
not_above word number most n fits within is above to same =
    let equal : number ≡ n = decimal_injective number n (omega (arith, fits)) (omega (arith, within)) (sym is ∙ same) in
    omega (arith, above, equal, to)
