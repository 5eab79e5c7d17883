-- The files that calls leave in program order, and what a path names among them.
use Rattle.std.specs.Prelude.{ℕ, Bool, List, [], ◌∷◌, length, Option, Some, None, is_some, option_map, position, unwrap_or, option_and_then}
use Rattle.fer_events.specs.declared.tables.SlotName.{SlotName}
use Rattle.fer_events.specs.Paths.{directory_number, path_entry, path_slot}
use Rattle.fer_events.specs.Truth.{item_at}
use Rattle.call_events.specs.declared.files.Files.{Files}

-- before all calls there is the root directory, and no file
abbrev pub no_files : Files
no_files = record { dirs = [] ∷ []; slots = []; held = []; contents = []; attrs = []; keys = []; words = [] }

-- the number of a directory
abbrev pub dir_number : Files → List (List ℕ) → Option ℕ
dir_number s path = directory_number s.dirs path

abbrev pub is_dir : Files → List (List ℕ) → Bool
is_dir s path = is_some (dir_number s path)

-- the name in a directory that a path is, if its parent is a directory
abbrev pub entry_of : Files → List (List ℕ) → Option SlotName
entry_of s path = path_entry s.dirs path

-- the slot of a path
abbrev pub slot_of : Files → List (List ℕ) → Option ℕ
slot_of s path = path_slot s.dirs s.slots path

-- the file that a path names
abbrev pub file_of : Files → List (List ℕ) → Option ℕ
file_of s path = option_and_then (λ held. held) (item_at s.held (slot_of s path))

-- the content of a file
abbrev pub content_of : Files → Option ℕ → List ℕ
content_of s file = unwrap_or (item_at s.contents file) []

-- the size of a file
abbrev pub size_of : Files → Option ℕ → ℕ
size_of s file = length (content_of s file)
