-- What a library holds: bytes under names, at most one text of bytes under each name.
use Rattle.std.specs.Prelude.{ℕ, ◌<◌, List, length, Option, IsSomeAnd}
use Rattle.std.specs.Ordering.{nat_cmp}
use Rattle.std.specs.Cmp.Lexicographic.{slice_cmp}
use Rattle.std.specs.FinMap.{FinMap, get, insert, empty, code}
use Rattle.std.specs.Coded.{Coded, coded_list, coded_ℕ}

-- a finite map from the bytes of a name to the bytes that stand under it
abbrev pub Held : Type 0
Held = FinMap (slice_cmp nat_cmp) (List ℕ)

-- no name holds anything
abbrev pub nothing_held : Held
nothing_held = empty

-- what is held under the name, if anything is
abbrev pub held_under : Held → List ℕ → Option (List ℕ)
held_under held name = get held name

-- more bytes than the limit are held under the name
abbrev pub HoldsMore : Held → List ℕ → ℕ → Type 0
HoldsMore held name limit = IsSomeAnd (held_under held name) (λ bytes. limit < length bytes)

-- what is held once the name holds exactly these bytes and all other names hold what they held
abbrev pub with_held : Held → List ℕ → List ℕ → Held
with_held held name bytes = insert held name bytes

-- what is held is stored as the list of its entries
abbrev pub held_code : Coded Held
held_code = code (coded_list coded_ℕ) (coded_list coded_ℕ)
