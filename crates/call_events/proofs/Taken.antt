-- What is copied from a table, entry after entry.
use Rattle.std.proofs.Common.{◌≡◌, ℕ, suc, ◌+◌, ◌<◌, List, [], ◌∷◌, ◌++◌, length, take, Some, slice_get, sym, ◌∙◌, ap, arith}
use Rattle.std.proofs.Math.Seq.{take-suc}
use Rattle.std.proofs.lemmas.Option.{get_or_from_slice_get}

-- the first entries and the next one
pub next_taken : {X : Type 0} (xs : List X) (k : ℕ) (x : X) (all : List X) → k < length xs → slice_get xs k ≡ Some x → all ≡ take k xs → all ++ x ∷ [] ≡ take (k + 1) xs
next_taken xs k x all there is so_far =
    let next : suc k ≡ k + 1 = omega arith in
    ap (λ a. a ++ x ∷ []) so_far
    ∙ ap (λ y. take k xs ++ y ∷ []) (sym (get_or_from_slice_get xs k x x is))
    ∙ sym (take-suc xs k x there)
    ∙ ap (λ (n : ℕ). take n xs) next
