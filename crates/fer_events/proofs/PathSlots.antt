-- The slot of a path is the one whose directory and name make up the path.
use Rattle.std.proofs.Common.{◌≡◌, ◌≢◌, ℕ, ◌<◌, ◌⊎◌, ◌==◌, inl, inr, Bool, true, false, ◌&&◌, List, [], ◌∷◌, ◌++◌, length, get_or, bytes_eq, Option, Some, None, is_some, slice_get, All, refl, sym, ◌∙◌, ap, arith}
use Rattle.std.specs.List.{AllPairs, position}
use Rattle.std.specs.Option.{option_map}
use Rattle.std.specs.Prelude.{option_and_then, unwrap_or}
use Rattle.std.proofs.lemmas.Bool.{cases_Bool, cases_eq, cases_lt, and_parts}
use Rattle.std.proofs.lemmas.Bool.Decides.{nat_tests}
use Rattle.std.proofs.lemmas.List.Elements.{All-weaker}
use Rattle.std.proofs.lemmas.List.Quantifiers.{position-Some}
use Rattle.std.proofs.lemmas.Option.{unwrap_or-slice_get}
use Rattle.fer_events.specs.declared.tables.SlotName.{SlotName}
use Rattle.fer_events.specs.Paths.{same_path, slot_path, put_front, split_last, directory_number, name_in, same_entry, entry_number, path_slot}
use Rattle.fer_events.proofs.PathLaws.{same_path-ends, longer_than_root}
use Rattle.fer_events.proofs.GeneralPlaces.{found_alike, found_nowhere, fresh}

same_bytes : (xs ys : List ℕ) → bytes_eq xs ys ≡ true → xs ≡ ys
same_bytes [] [] h = refl
same_bytes [] (y ∷ ys) h = cc
same_bytes (x ∷ xs) [] h = cc
same_bytes (x ∷ xs) (y ∷ ys) h =
    let both = and_parts (x == y) (bytes_eq xs ys) h in
    let first : x ≡ y = same_number x y both.0 in
    let rest : xs ≡ ys = same_bytes xs ys both.1 in
    cc
  where
    same_number : (m n : ℕ) → (m == n) ≡ true → m ≡ n
    same_number m n h = grind (arith, nat_tests)

same_paths : (xs ys : List (List ℕ)) → same_path xs ys ≡ true → xs ≡ ys
same_paths [] [] h = refl
same_paths [] (y ∷ ys) h = cc
same_paths (x ∷ xs) [] h = cc
same_paths (x ∷ xs) (y ∷ ys) h =
    let both = and_parts (bytes_eq x y) (same_path xs ys) h in
    let first : x ≡ y = same_bytes x y both.0 in
    let rest : xs ≡ ys = same_paths xs ys both.1 in
    cc

-- of directories that differ only one has the path
one_dir : (dirs : List (List (List ℕ))) (path : List (List ℕ)) (d k : ℕ) → AllPairs (λ a b. a ≢ b) dirs → position (λ dir. same_path dir path) dirs ≡ Some d → k < length dirs
    → same_path (get_or dirs k []) path ≡ (k == d)
one_dir dirs path d k once found there =
    let at = position-Some (λ dir. same_path dir path) dirs d [] found in
    elim (cases_eq k d) [
      | inl same ↦ let equal : (k == d) ≡ true = grind (arith, nat_tests) in ap (λ (n : ℕ). same_path (get_or dirs n []) path) same ∙ at.1 ∙ sym equal
      | inr apart ↦
          let other : (k == d) ≡ false = grind (arith, nat_tests) in
          elim (cases_Bool (same_path (get_or dirs k []) path)) [
            | inr apart ↦ apart ∙ sym other
            | inl same ↦
                let equal : get_or dirs k [] ≡ get_or dirs d [] = same_paths (get_or dirs k []) path same ∙ sym (same_paths (get_or dirs d []) path at.1) in
                elim (cases_lt k d) [
                  | inl less ↦ absurd (once k d [] less at.0 equal)
                  | inr more ↦ absurd (once d k [] (omega arith) there (sym equal))
                ]
          ]
    ]

-- a path is the root, or has a parent and a last component
split_cases : (path : List (List ℕ)) → (path ≡ []) ⊎ ((front : List (List ℕ)) × (last : List ℕ) × (path ≡ front ++ last ∷ []) × (split_last path ≡ Some (front, last)))
split_cases [] = inl refl
split_cases (x ∷ xs) = elim (split_cases xs) [
  | inl root ↦ inr ([], x, ap (λ (r : List (List ℕ)). x ∷ r) root, ap (λ (r : List (List ℕ)). put_front x (split_last r)) root)
  | inr more ↦ inr (x ∷ more.0, more.1, ap (λ (r : List (List ℕ)). x ∷ r) more.2, ap (put_front x) more.3)
]

abbrev is_path_of : List (List (List ℕ)) → List (List ℕ) → SlotName → Bool
is_path_of dirs path slot = same_path (slot_path dirs slot) path

-- a trace whose slots stand in its directories, of which no two are the same
module _ (dirs : List (List (List ℕ))) (slots : List SlotName) (there : All (λ s. s.dir < length dirs) slots) (once : AllPairs (λ a b. a ≢ b) dirs) where
  dir_of : (slot : SlotName) (front : List (List ℕ)) → same_path (unwrap_or (slice_get dirs slot.dir) []) front ≡ same_path (get_or dirs slot.dir []) front
  dir_of slot front = ap (λ (d : List (List ℕ)). same_path d front) (unwrap_or-slice_get dirs slot.dir [])

  named_slot : (front : List (List ℕ)) (last : List ℕ) (o : Option ℕ) → directory_number dirs front ≡ o
      → position (is_path_of dirs (front ++ last ∷ [])) slots ≡ option_and_then (entry_number slots) (option_map (λ dir. record { dir = dir; name = last }) o)
  named_slot front last None is =
      found_nowhere (is_path_of dirs (front ++ last ∷ [])) slots
      (All-weaker (λ slot. slot.dir < length dirs) (λ slot. is_path_of dirs (front ++ last ∷ []) slot ≡ false)
      (λ slot within. same_path-ends (unwrap_or (slice_get dirs slot.dir) []) slot.name front last ∙ ap (λ (b : Bool). b && bytes_eq slot.name last) (dir_of slot front ∙ nowhere slot.dir within))
      slots there)
    where
      nowhere : (k : ℕ) → k < length dirs → same_path (get_or dirs k []) front ≡ false
      nowhere k within = elim (cases_Bool (same_path (get_or dirs k []) front)) [
        | inl same ↦ absurd (fresh (λ dir. same_path dir front) dirs (ap is_some is) k [] within same)
        | inr apart ↦ apart
      ]
  named_slot front last (Some d) is =
      found_alike (is_path_of dirs (front ++ last ∷ [])) (λ slot. same_entry slot (record { dir = d; name = last })) slots
      (All-weaker (λ slot. slot.dir < length dirs) (λ slot. is_path_of dirs (front ++ last ∷ []) slot ≡ same_entry slot (record { dir = d; name = last }))
      (λ slot within. same_path-ends (unwrap_or (slice_get dirs slot.dir) []) slot.name front last
      ∙ ap (λ (b : Bool). b && bytes_eq slot.name last) (dir_of slot front ∙ one_dir dirs front d slot.dir once is within))
      slots there)

  -- the slot of a path is the one whose directory and name make up the path
  pub one_slot : (path : List (List ℕ)) → path_slot dirs slots path ≡ position (is_path_of dirs path) slots
  one_slot path = elim (split_cases path) [
    | inl root ↦
        let none : position (is_path_of dirs []) slots ≡ None =
        found_nowhere (is_path_of dirs []) slots (All-weaker (λ slot. slot.dir < length dirs) (λ slot. is_path_of dirs [] slot ≡ false)
        (λ slot within. longer_than_root (unwrap_or (slice_get dirs slot.dir) []) slot.name) slots there) in
        sym (ap (λ (p : List (List ℕ)). position (is_path_of dirs p) slots) root ∙ none ∙ ap (path_slot dirs slots) (sym root))
    | inr named ↦
        sym (
        ap (λ (p : List (List ℕ)). position (is_path_of dirs p) slots) named.2
        ∙ named_slot named.0 named.1 (directory_number dirs named.0) refl
        ∙ ap (λ (o : Option (List (List ℕ) × List ℕ)). option_and_then (entry_number slots) (name_in dirs o)) (sym named.3))
  ]
