-- What a path names: a directory, a name in a directory, a slot.
use Rattle.std.specs.Prelude.{ℕ, Bool, ◌&&◌, ◌==◌, List, [], ◌∷◌, ◌++◌, bytes_eq, Option, Some, None, slice_get, position, unwrap_or, option_map, option_and_then}
use Rattle.std.specs.Cmp.Lexicographic.{pointwise}
use Rattle.fer_events.specs.declared.tables.SlotName.{SlotName}

abbrev pub same_path : List (List ℕ) → List (List ℕ) → Bool
same_path = pointwise bytes_eq

-- the path that a slot names
abbrev pub slot_path : List (List (List ℕ)) → SlotName → List (List ℕ)
slot_path dirs slot = unwrap_or (slice_get dirs slot.dir) [] ++ slot.name ∷ []

-- an item before the front part of a list that was split
abbrev pub put_front : {X : Type 0} → X → Option (List X × X) → Option (List X × X)
put_front x None = Some ([], x)
put_front x (Some (front, last)) = Some (x ∷ front, last)

-- a path as its parent and its last component; the root has neither
abbrev pub split_last : {X : Type 0} → List X → Option (List X × X)
split_last [] = None
split_last (x ∷ xs) = put_front x (split_last xs)

-- the number of the directory that has the path
abbrev pub directory_number : List (List (List ℕ)) → List (List ℕ) → Option ℕ
directory_number dirs path = position (λ dir. same_path dir path) dirs

-- a name in its parent, if that is a directory
abbrev pub name_in : List (List (List ℕ)) → Option (List (List ℕ) × List ℕ) → Option SlotName
name_in dirs None = None
name_in dirs (Some (parent, name)) = option_map (λ dir. record { dir = dir; name = name }) (directory_number dirs parent)

-- the name in a directory that a path is, if its parent is a directory
abbrev pub path_entry : List (List (List ℕ)) → List (List ℕ) → Option SlotName
path_entry dirs path = name_in dirs (split_last path)

abbrev pub same_entry : SlotName → SlotName → Bool
same_entry a b = (a.dir == b.dir) && bytes_eq a.name b.name

-- the number of a name in a directory
abbrev pub entry_number : List SlotName → SlotName → Option ℕ
entry_number slots entry = position (λ slot. same_entry slot entry) slots

-- the slot of a path: that of its last component in the directory that its parent is
abbrev pub path_slot : List (List (List ℕ)) → List SlotName → List (List ℕ) → Option ℕ
path_slot dirs slots path = option_and_then (entry_number slots) (path_entry dirs path)
