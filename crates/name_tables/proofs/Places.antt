-- General lemmas: where an item stands in a list, also in one that was mapped.
use Rattle.std.proofs.Common.{◌≡◌, ℕ, zero, suc, ◌+◌, ◌<◌, ◌≤◌, nat_lt, Bool, true, false, not, cond, ◌||◌, List, [], ◌∷◌, ◌++◌, length, map, Option, Some, None, position, is_some, All, get_or, refl, sym, ◌∙◌, ap, ap₂, arith}
use Rattle.std.specs.Prelude.{if◌then◌else◌}
use Rattle.std.specs.Cmp.{IsPartialEquivalence}
use Rattle.std.specs.Cmp.Lexicographic.{pointwise, lists_per}
use Rattle.std.specs.List.{position_or_len, list_any}
use Rattle.std.proofs.lemmas.List.{length-map, map-append}
use Rattle.std.proofs.lemmas.List.Elements.{All-head, All-tail}
use Rattle.std.proofs.lemmas.Bool.Decides.{nat_tests}
use Rattle.fer_events.proofs.GeneralPlaces.{found_alike}

place_map : {X Y : Type 0} (f : X → Y) (p : Y → Bool) (xs : List X) → position_or_len p (map f xs) ≡ position_or_len (λ x. p (f x)) xs
place_map f p [] = refl
place_map f p (x ∷ xs) = ap (λ (n : ℕ). cond (not (p (f x))) (1 + n) 0) (place_map f p xs)

-- the place of an entry that passes a test
pub position_map : {X Y : Type 0} (f : X → Y) (p : Y → Bool) (xs : List X) → position p (map f xs) ≡ position (λ x. p (f x)) xs
position_map f p xs = ap₂ (λ (n m : ℕ). cond (nat_lt n m) (Some n) None) (place_map f p xs) (length-map xs f)

pub any_map : {X Y : Type 0} (f : X → Y) (p : Y → Bool) (xs : List X) → list_any p (map f xs) ≡ list_any (λ x. p (f x)) xs
any_map f p [] = refl
any_map f p (x ∷ xs) = ap (λ (b : Bool). p (f x) || b) (any_map f p xs)

-- an item is found exactly where some item passes
one_less : (n m : ℕ) → nat_lt (1 + n) (suc m) ≡ nat_lt n m
one_less n m = grind (arith, nat_tests)

passes_below : {X : Type 0} (p : X → Bool) (xs : List X) → nat_lt (position_or_len p xs) (length xs) ≡ list_any p xs
passes_below p [] = refl
passes_below p (x ∷ xs) = by_test (p x) (position_or_len p xs) (length xs) (list_any p xs) (passes_below p xs)
  where
    by_test : (t : Bool) (n m : ℕ) (b : Bool) → nat_lt n m ≡ b → nat_lt (cond (not t) (1 + n) 0) (suc m) ≡ (t || b)
    by_test true n m b e = grind (arith, nat_tests)
    by_test false n m b e = one_less n m ∙ e

pub found_any : {X : Type 0} (p : X → Bool) (xs : List X) → is_some (position p xs) ≡ list_any p xs
found_any p xs = is_told (nat_lt (position_or_len p xs) (length xs)) ∙ passes_below p xs
  where
    is_told : (t : Bool) → is_some (cond t (Some (position_or_len p xs)) None) ≡ t
    is_told true = refl
    is_told false = refl

-- an item is found whichever side of the test it stands on
pub turned : {X : Type 0} (E : X → X → Bool) → IsPartialEquivalence E → (x : X) (xs : List X) → position (λ e. E e x) xs ≡ position (λ e. E x e) xs
turned E laws x xs = found_alike (λ e. E e x) (λ e. E x e) xs (λ k d there. laws.symm (get_or xs k d) x)

-- the place of an entry that equals a list
pub position_entries : {V X : Type 0} (keys : List V) (f : V → List X) (eq : X → X → Bool) (laws : IsPartialEquivalence eq) (entry : List X)
    → position (λ k. pointwise eq entry (f k)) keys ≡ position (λ e. pointwise eq e entry) (map f keys)
position_entries keys f eq laws entry = sym (turned (pointwise eq) (lists_per laws) entry (map f keys) ∙ position_map f (λ e. pointwise eq entry e) keys)

pub map_if : {V Y : Type 0} (keys : List V) (f : V → Y) (x : V) (t : Bool) → map f (if t then keys else keys ++ x ∷ []) ≡ if t then map f keys else map f keys ++ f x ∷ []
map_if keys f x true = refl
map_if keys f x false = map-append f keys (x ∷ [])

-- an entry is put behind those that lack it
pub noted_entries : {V X : Type 0} (keys : List V) (f : V → List X) (eq : X → X → Bool) (laws : IsPartialEquivalence eq) (x : V)
    → map f (if list_any (λ k. pointwise eq (f x) (f k)) keys then keys else keys ++ x ∷ [])
    ≡ if is_some (position (λ e. pointwise eq e (f x)) (map f keys)) then map f keys else map f keys ++ f x ∷ []
noted_entries keys f eq laws x =
    map_if keys f x (list_any (λ k. pointwise eq (f x) (f k)) keys)
    ∙ ap (λ (t : Bool). if t then map f keys else map f keys ++ f x ∷ [])
    (sym (ap is_some (turned (pointwise eq) (lists_per laws) (f x) (map f keys)) ∙ found_any (pointwise eq (f x)) (map f keys) ∙ any_map f (pointwise eq (f x)) keys))
