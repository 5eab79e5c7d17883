-- General lemmas on ranges of numbers, which know nothing of events.
use Rattle.std.proofs.Common.{◌≡◌, ℕ, zero, suc, ◌+◌, ◌-◌, ◌<◌, ◌≤◌, List, ◌∷◌, ◌++◌, Contains, sym, ◌∙◌, ap, arith}
use Rattle.std.specs.List.{range_with_len}
use Rattle.std.proofs.lemmas.List.FromFn.{length-range_with_len, get_or-range_with_len}

-- the numbers from a place on, cut at a later one
pub range_split : (low m n : ℕ) → range_with_len low (m + n) ≡ range_with_len low m ++ range_with_len (low + m) n
range_split low zero n = let e : zero + n ≡ n = omega arith in let f : low + zero ≡ low = omega arith in ap (range_with_len low) e ∙ ap (λ (l : ℕ). range_with_len l n) (sym f)
range_split low (suc m) n =
    let longer : suc m + n ≡ suc (m + n) = omega arith in
    let further : low + 1 + m ≡ low + suc m = omega arith in
    ap (range_with_len low) longer ∙ ap (λ (l : List ℕ). low ∷ l) (range_split (low + 1) m n ∙ ap (λ (k : ℕ). range_with_len (low + 1) m ++ range_with_len k n) further)

-- the range has each number between its ends
pub range_contains : (low n a : ℕ) → low ≤ a → a < low + n → Contains (range_with_len low n) a
range_contains low n a above below =
    (a - low, omega (arith, length-range_with_len low n), get_or-range_with_len low n (a - low) a (omega arith) ∙ omega arith)
