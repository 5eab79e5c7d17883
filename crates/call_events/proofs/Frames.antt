-- General lemmas on lists that are filled up to a length, and changed at one place.
use Rattle.std.proofs.Common.{◌≡◌, ◌≢◌, ℕ, zero, suc, ◌+◌, ◌-◌, ◌<◌, ◌≤◌, List, [], ◌∷◌, ◌++◌, length, map, replicate, Option, Some, None, IfSome, All, refl, sym, ◌∙◌, ap, arith, append_assoc, length-append}
use Rattle.std.specs.List.{range_with_len}
use Rattle.std.proofs.lemmas.List.Elements.{All-head, All-tail}
use Rattle.fer_events.specs.States.{at_place}
use Rattle.fer_events.proofs.AtPlace.{length-at_place}

-- the list filled up to a length
abbrev pub filled : {X : Type 0} → ℕ → X → List X → List X
filled n x xs = xs ++ replicate (n - length xs) x

-- an item more of those that fill it up
pub filled_more : {X : Type 0} (n : ℕ) (x : X) (xs : List X) → length xs < n → filled n x (xs ++ x ∷ []) ≡ filled n x xs
filled_more n x xs below =
    let more : n - length xs ≡ suc (n - length (xs ++ x ∷ [])) = omega (arith, length-append xs (x ∷ [])) in
    append_assoc xs (x ∷ []) (replicate (n - length (xs ++ x ∷ [])) x) ∙ ap (λ (k : ℕ). xs ++ replicate k x) (sym more)

-- a change in front of another list
pub front_place : {X : Type 0} (o : Option ℕ) (change : X → X) (xs ys : List X) → IfSome o (λ k. k < length xs) → at_place o change (xs ++ ys) ≡ at_place o change xs ++ ys
front_place None change xs ys within = refl
front_place (Some k) change [] ys within = absurd (omega (arith, within))
front_place (Some zero) change (x ∷ xs) ys within = refl
front_place (Some (suc k)) change (x ∷ xs) ys within = ap (λ (zs : List _). x ∷ zs) (front_place (Some k) change xs ys (omega (arith, within)))

pub filled_place : {X : Type 0} (n : ℕ) (x : X) (o : Option ℕ) (change : X → X) (xs : List X) → IfSome o (λ k. k < length xs) → at_place o change (filled n x xs) ≡ filled n x (at_place o change xs)
filled_place n x o change xs within =
    front_place o change xs (replicate (n - length xs) x) within
    ∙ ap (λ (k : ℕ). at_place o change xs ++ replicate (n - k) x) (sym (length-at_place o change xs))

-- a change of an item is a change of what a function makes of it
pub map_place : {X Y : Type 0} (P : X → Type 0) (f : X → Y) (g : X → X) (h : Y → Y) (o : Option ℕ) (xs : List X) → ((x : X) → P x → f (g x) ≡ h (f x)) → All P xs
    → map f (at_place o g xs) ≡ at_place o h (map f xs)
map_place P f g h None xs same all = refl
map_place P f g h (Some k) [] same all = refl
map_place P f g h (Some zero) (x ∷ xs) same all = ap (λ (y : _). y ∷ map f xs) (same x (All-head P x xs all))
map_place P f g h (Some (suc k)) (x ∷ xs) same all = ap (λ (ys : List _). f x ∷ ys) (map_place P f g h (Some k) xs same (All-tail P x xs all))

map_range : {Y : Type 0} (f g : ℕ → Y) (low n : ℕ) → ((j : ℕ) → low ≤ j → f j ≡ g j) → map f (range_with_len low n) ≡ map g (range_with_len low n)
map_range f g low zero same = refl
map_range f g low (suc n) same =
    ap (λ (y : _). y ∷ map f (range_with_len (low + 1) n)) (same low (omega arith))
    ∙ ap (λ (ys : List _). g low ∷ ys) (map_range f g (low + 1) n (λ j above. same j (omega arith)))

-- a function that differs at one number makes a list that differs at one place
pub range_place : {Y : Type 0} (f g : ℕ → Y) (change : Y → Y) (low n i : ℕ) → i < n → f (low + i) ≡ change (g (low + i)) → ((j : ℕ) → j ≢ low + i → f j ≡ g j)
    → map f (range_with_len low n) ≡ at_place (Some i) change (map g (range_with_len low n))
range_place f g change low zero i within here others = absurd (omega arith)
range_place f g change low (suc n) zero within here others =
    let at : low ≡ low + zero = omega arith in
    ap (λ (y : _). y ∷ map f (range_with_len (low + 1) n)) (ap f at ∙ here ∙ ap (λ (k : ℕ). change (g k)) (sym at))
    ∙ ap (λ (ys : List _). change (g low) ∷ ys) (map_range f g (low + 1) n (λ j above. others j (omega arith)))
range_place f g change low (suc n) (suc i) within here others =
    let at : low + 1 + i ≡ low + suc i = omega arith in
    ap (λ (y : _). y ∷ map f (range_with_len (low + 1) n)) (others low (omega arith))
    ∙ ap (λ (ys : List _). g low ∷ ys)
    (range_place f g change (low + 1) n i (omega arith) (ap f at ∙ here ∙ ap (λ (k : ℕ). change (g k)) (sym at)) (λ j apart. others j (λ e. apart (e ∙ sym at))))
