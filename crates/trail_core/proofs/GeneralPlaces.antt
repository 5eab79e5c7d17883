-- General: what stands at which place of a list. These lemmas are on all lists, and other crates may cite them.
use Rattle.std.proofs.Common.{◌≡◌, ℕ, zero, suc, ◌⊎◌, inl, inr, List, [], ◌∷◌, ◌++◌, length, slice_get, Some, refl, ap, sym}
use Rattle.std.specs.List.{Contains}
use Rattle.std.proofs.lemmas.Option.{slice_get_within, get_or_from_slice_get, slice_get_read, same_Some}

pub contains-get : {A : Type 0} (xs : List A) (k : ℕ) (x : A) → slice_get xs k ≡ Some x → Contains xs x
contains-get xs k x e = (k, slice_get_within xs k x e, get_or_from_slice_get xs k x x e)

pub get-contained : {A : Type 0} (xs : List A) (x : A) → Contains xs x → (k : ℕ) × (slice_get xs k ≡ Some x)
get-contained xs x h = (h.0, slice_get_read xs (length xs) h.0 x refl h.1 (sym h.2))

-- in a list with one item more the others stand where they stood, and the new one behind them
pub get-more : {A : Type 0} (xs : List A) (x : A) (k : ℕ) (y : A) → slice_get xs k ≡ Some y → slice_get (xs ++ x ∷ []) k ≡ Some y
get-more [] x k y at = cc
get-more (z ∷ zs) x zero y at = at
get-more (z ∷ zs) x (suc k) y at = get-more zs x k y at

pub get-new : {A : Type 0} (xs : List A) (x : A) → slice_get (xs ++ x ∷ []) (length xs) ≡ Some x
get-new [] x = refl
get-new (z ∷ zs) x = get-new zs x

pub get-more-cases : {A : Type 0} (xs : List A) (x : A) (k : ℕ) (y : A) → slice_get (xs ++ x ∷ []) k ≡ Some y → (slice_get xs k ≡ Some y) ⊎ ((k ≡ length xs) × (y ≡ x))
get-more-cases [] x zero y at = inr (refl, sym (same_Some x y at))
get-more-cases [] x (suc k) y at = cc
get-more-cases (z ∷ zs) x zero y at = inl at
get-more-cases (z ∷ zs) x (suc k) y at = elim (get-more-cases zs x k y at) [
  | inl old ↦ inl old
  | inr new ↦ inr (ap (λ (i : ℕ). suc i) new.0, new.1)
]
