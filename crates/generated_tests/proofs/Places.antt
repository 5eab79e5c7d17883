-- General lemmas on the first place of a list that passes a test.
use Rattle.std.proofs.Common.{◌≡◌, Bool, true, false, List, [], ◌∷◌, ◌++◌, length, Some, position, ltb, All, refl, ◌∙◌, ap, arith, length-append}
use Rattle.std.specs.Prelude.{is_some}
use Rattle.std.specs.List.{position_or_len}
use Rattle.std.proofs.Math.Seq.{get_or-append_seam}
use Rattle.std.proofs.lemmas.Bool.{cond-true, lt-ltb}
use Rattle.std.proofs.lemmas.List.Elements.{All-head, All-tail}
use Rattle.fer_events.proofs.GeneralPlaces.{passes_within}

-- behind items that fail the test, the first that passes is the next
next_place : {X : Type 0} (p : X → Bool) (xs : List X) (y : X) → All (λ x. p x ≡ false) xs → p y ≡ true → position_or_len p (xs ++ y ∷ []) ≡ length xs
next_place p [] y fail pass = rw pass refl
next_place p (x ∷ xs) y fail pass =
    let first : p x ≡ false = All-head (λ x. p x ≡ false) x xs fail in
    rw first (omega (arith, next_place p xs y (All-tail (λ x. p x ≡ false) x xs fail) pass))

pub next_found : {X : Type 0} (p : X → Bool) (xs : List X) (y : X) → All (λ x. p x ≡ false) xs → p y ≡ true → position p (xs ++ y ∷ []) ≡ Some (length xs)
next_found p xs y fail pass =
    let place = next_place p xs y fail pass in
    let there : ltb (position_or_len p (xs ++ y ∷ [])) (length (xs ++ y ∷ [])) ≡ true = lt-ltb _ _ (omega (arith, place, length-append xs (y ∷ []))) in
    cond-true (ltb (position_or_len p (xs ++ y ∷ [])) (length (xs ++ y ∷ []))) _ _ there ∙ ap Some place

-- an item that passes is found behind all others
pub last_found : {X : Type 0} (p : X → Bool) (xs : List X) (y : X) → p y ≡ true → is_some (position p (xs ++ y ∷ [])) ≡ true
last_found p xs y pass =
    let within = passes_within p (xs ++ y ∷ []) (length xs) y (omega (arith, length-append xs (y ∷ []))) (ap p (get_or-append_seam xs y [] y) ∙ pass) in
    ap is_some (cond-true (ltb (position_or_len p (xs ++ y ∷ [])) (length (xs ++ y ∷ []))) _ _ (lt-ltb _ _ within))
