-- General lemmas on paths, as lists of components that are compared one by one.
use Rattle.std.proofs.Common.{bytes_eq, ◌≡◌, ℕ, Bool, true, false, ◌&&◌, List, [], ◌∷◌, ◌++◌, refl, ◌∙◌, ap}
use Rattle.std.proofs.lemmas.Bool.{and_right}
use Rattle.fer_events.specs.Paths.{same_path}

-- a path with a last component isn't the root
pub longer_than_root : (xs : List (List ℕ)) (y : List ℕ) → same_path (xs ++ y ∷ []) [] ≡ false
longer_than_root [] y = refl
longer_than_root (x ∷ xs) y = refl

pub shorter_than_path : (ys : List (List ℕ)) (z : List ℕ) → same_path [] (ys ++ z ∷ []) ≡ false
shorter_than_path [] z = refl
shorter_than_path (y ∷ ys) z = refl

and_nothing : (a b : Bool) → b ≡ false → (a && b) ≡ false
and_nothing a b h = and_right a b h

regroup : (a b c : Bool) → (a && (b && c)) ≡ ((a && b) && c)
regroup true b c = refl
regroup false b c = refl

turned : (b : Bool) → (b && true) ≡ b
turned true = refl
turned false = refl

-- two paths are the same where their directories and their last components are
pub same_path-ends : (xs : List (List ℕ)) (y : List ℕ) (ys : List (List ℕ)) (z : List ℕ) → same_path (xs ++ y ∷ []) (ys ++ z ∷ []) ≡ (same_path xs ys && bytes_eq y z)
same_path-ends [] y [] z = turned (bytes_eq y z)
same_path-ends [] y (w ∷ ws) z = and_nothing _ _ (shorter_than_path ws z)
same_path-ends (x ∷ xs) y [] z = and_nothing _ _ (longer_than_root xs y)
same_path-ends (x ∷ xs) y (w ∷ ws) z = ap (λ (b : Bool). bytes_eq x w && b) (same_path-ends xs y ws z) ∙ regroup (bytes_eq x w) (same_path xs ws) (bytes_eq y z)
