-- The files before a generated call: those of the setup, and what the calls before it made.
use Rattle.std.proofs.Common.{◌≡◌, ℕ, ◌+◌, ◌%◌, ◌<◌, ◌≤◌, ◌⊎◌, true, List, [], ◌∷◌, length, Option, Some, All}
use Rattle.std.specs.Prelude.{codes, is_some}
use Rattle.fer_events.specs.declared.tables.SlotName.{SlotName}
use Rattle.fer_events.specs.declared.tables.AttrValue.{AttrValue}
use Rattle.fer_events.specs.Truth.{text_number}
use Rattle.call_events.specs.declared.files.Files.{Files}
use Rattle.model_library.specs.Generated.{numbered}

-- a name in the root
abbrev pub in_root : List ℕ → SlotName
in_root name = record { dir = 0; name = name }

-- files in the root alone: `a` and `b` are the first two, and the others have these names
abbrev pub files_with : List SlotName → List (Option ℕ) → List (List ℕ) → List AttrValue → List (List ℕ) → List (List ℕ) → Files
files_with names held contents attrs keys words = record {
  dirs = [] ∷ [];
  slots = in_root (codes "a") ∷ in_root (codes "b") ∷ names;
  held = Some 0 ∷ Some 1 ∷ held;
  contents = contents;
  attrs = attrs;
  keys = keys;
  words = words;
}

-- a name that a call before call i made
pub record IsEarlierName (i : ℕ) (slot : SlotName) : Type 0 where
  pub letter : ℕ
  pub number : ℕ
  pub earlier : number < i
  pub is : slot ≡ in_root (numbered letter number)

-- what the calls before call i made: each at most one name and one file, the only key is `k`, and all marks have words
pub record AreMade (i : ℕ) (names : List SlotName) (contents : List (List ℕ)) (keys words : List (List ℕ)) : Type 0 where
  pub earlier : All (IsEarlierName i) names
  pub few_names : length names < i
  pub few_files : length contents ≤ i + 1
  pub one_key : (keys ≡ []) ⊎ (keys ≡ codes "k" ∷ [])
  pub marked : (j : ℕ) → 0 < j → j < i → j % 8 ≡ 0 → is_some (text_number words (numbered 109 j)) ≡ true

-- the files before call i
pub record IsBefore (i : ℕ) (s : Files) : Type 0 where
  pub names : List SlotName
  pub held : List (Option ℕ)
  pub contents : List (List ℕ)
  pub attrs : List AttrValue
  pub keys : List (List ℕ)
  pub words : List (List ℕ)
  pub shape : s ≡ files_with names held contents attrs keys words
  pub made : AreMade i names contents keys words
