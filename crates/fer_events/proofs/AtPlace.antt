-- General lemmas on lists that are changed at one place.
use Rattle.std.proofs.Common.{◌≡◌, ℕ, zero, suc, List, [], ◌∷◌, length, set, get_or, Option, Some, None, All, refl, ap}
use Rattle.std.proofs.lemmas.List.Elements.{All-cons, All-head, All-tail}
use Rattle.fer_events.specs.States.{at_place}

pub set_is_at_place : {X : Type 0} (change : X → X) (xs : List X) (i : ℕ) (d y : X) → y ≡ change (get_or xs i d) → set xs i y ≡ at_place (Some i) change xs
set_is_at_place change [] zero d y e = refl
set_is_at_place change [] (suc i) d y e = refl
set_is_at_place change (x ∷ xs) zero d y e = ap (λ (z : _). z ∷ xs) e
set_is_at_place change (x ∷ xs) (suc i) d y e = ap (λ (zs : List _). x ∷ zs) (set_is_at_place change xs i d y e)

pub length-at_place : {X : Type 0} (place : Option ℕ) (change : X → X) (xs : List X) → length (at_place place change xs) ≡ length xs
length-at_place None change xs = refl
length-at_place (Some i) change [] = refl
length-at_place (Some zero) change (x ∷ xs) = refl
length-at_place (Some (suc i)) change (x ∷ xs) = ap suc (length-at_place (Some i) change xs)

pub All-at_place : {X : Type 0} (P : X → Type 0) (place : Option ℕ) (change : X → X) (xs : List X) → ((x : X) → P x → P (change x)) → All P xs → All P (at_place place change xs)
All-at_place P None change xs keeps all = all
All-at_place P (Some i) change [] keeps all = all
All-at_place P (Some zero) change (x ∷ xs) keeps all = All-cons P (change x) xs (keeps x (All-head P x xs all)) (All-tail P x xs all)
All-at_place P (Some (suc i)) change (x ∷ xs) keeps all = All-cons P x (at_place (Some i) change xs) (All-head P x xs all) (All-at_place P (Some i) change xs keeps (All-tail P x xs all))

-- where there is no place to change in an item, the item and the list stay
pub nothing_at_place : {X : Type 0} (place : Option ℕ) (change : X → X) (xs : List (List X)) → at_place place (at_place None change) xs ≡ xs
nothing_at_place None change xs = refl
nothing_at_place (Some i) change [] = refl
nothing_at_place (Some zero) change (x ∷ xs) = refl
nothing_at_place (Some (suc i)) change (x ∷ xs) = ap (λ (zs : List (List _)). x ∷ zs) (nothing_at_place (Some i) change xs)
