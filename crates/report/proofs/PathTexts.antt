-- How the path of a name in a directory is written.
use Rattle.std.proofs.Common.{◌≡◌, ◌≢◌, ◌<◌, ℕ, List, [], ◌∷◌, ◌++◌, length, Option, Some, slice_get, get_or, unwrap_or, refl, sym, ◌∙◌, ap, arith}
use Rattle.std.specs.List.{flat_map}
use Rattle.std.proofs.lemmas.Grind.{flat_map-append}
use Rattle.std.proofs.lemmas.List.{append-nil}
use Rattle.std.proofs.lemmas.Option.{slice_get-get_or}
use Rattle.litmus_syntax.specs.Texts.{path_text}

-- each component behind a `/`
abbrev parts : List (List ℕ) → List ℕ
parts path = flat_map (λ part. 47 ∷ part) path

-- the path at a place of a table
pub found : (dirs : List (List (List ℕ))) (dir : ℕ) (path : List (List ℕ)) → dir < length dirs → path ≡ get_or dirs dir path → slice_get dirs dir ≡ Some path
found dirs dir path there is = slice_get-get_or dirs dir path there ∙ ap Some (sym is)

no_parts : (path : List (List ℕ)) → length path ≡ 0 → parts path ≡ []
no_parts [] none = refl
no_parts (x ∷ xs) none = absurd (omega arith)

some_parts : (path : List (List ℕ)) → length path ≢ 0 → parts path ≡ path_text path
some_parts [] some = absurd (some refl)
some_parts (x ∷ xs) some = refl

-- the components of the directory of a number, where it is the root, and where it isn't
pub no_parent : (dirs : List (List (List ℕ))) (dir : ℕ) (path : List (List ℕ)) → slice_get dirs dir ≡ Some path → length path ≡ 0
    → flat_map (λ part. 47 ∷ part) (unwrap_or (slice_get dirs dir) []) ≡ []
no_parent dirs dir path at none = ap (λ (o : Option (List (List ℕ))). parts (unwrap_or o [])) at ∙ no_parts path none

pub some_parent : (dirs : List (List (List ℕ))) (dir : ℕ) (path : List (List ℕ)) → slice_get dirs dir ≡ Some path → length path ≢ 0
    → path_text path ≡ flat_map (λ part. 47 ∷ part) (unwrap_or (slice_get dirs dir) [])
some_parent dirs dir path at some = sym (ap (λ (o : Option (List (List ℕ))). parts (unwrap_or o [])) at ∙ some_parts path some)

-- a name behind a path
pub named_path : (path : List (List ℕ)) (name : List ℕ) → path_text (path ++ name ∷ []) ≡ flat_map (λ part. 47 ∷ part) path ++ 47 ∷ name
named_path [] name = ap (λ (n : List ℕ). 47 ∷ n) (append-nil name)
named_path (x ∷ xs) name =
    flat_map-append (λ (part : List ℕ). 47 ∷ part) (x ∷ xs) (name ∷ []) ∙ ap (λ (n : List ℕ). parts (x ∷ xs) ++ 47 ∷ n) (append-nil name)
