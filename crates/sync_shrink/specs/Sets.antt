-- Sets of things as lists of truth values, one for each thing, and parts of them.
use Rattle.std.specs.Prelude.{◌≡◌, ℕ, ◌+◌, List, [], ◌∷◌, Bool, true, false, Some, replicate, slice_get, slice_set}

-- all n things
abbrev pub all_things : ℕ → List Bool
all_things n = replicate n true

-- the thing is in the set
abbrev pub Has : List Bool → ℕ → Type 0
Has s thing = slice_get s thing ≡ Some true

-- the set without the thing
abbrev pub without : ℕ → List Bool → List Bool
without thing s = slice_set s thing false

-- the first set is a part of the second: each of its things is in the second too
abbrev pub IsPart : List Bool → List Bool → Type 0
IsPart [] [] = Unit {0}
IsPart [] (_ ∷ _) = ⊥
IsPart (_ ∷ _) [] = ⊥
IsPart (x ∷ xs) (y ∷ ys) = (x ≡ true → y ≡ true) × IsPart xs ys

-- the numbers of a set's things, where its first truth value is that of the thing `from`
abbrev pub things_from : ℕ → List Bool → List ℕ
things_from from [] = []
things_from from (true ∷ s) = from ∷ things_from (from + 1) s
things_from from (false ∷ s) = things_from (from + 1) s

-- the numbers of a set's things, ascending
abbrev pub things_in : List Bool → List ℕ
things_in s = things_from 0 s
