-- The version of a litmus file, and which lines a file of each version has.
use Rattle.std.specs.Prelude.{ℕ, Bool, true, not, ◌||◌, ◌==◌, List, [], ◌∷◌, Option, Some, None}
use Rattle.litmus_syntax.specs.CallKinds.{is_boundary}
use Rattle.litmus_reader.specs.Statements.{Statement, Head, Sector, Called}

-- the version that a head names: 1 where it has no number
abbrev pub version_named : Option ℕ → ℕ
version_named None = 1
version_named (Some version) = version

-- the version of a file of which these statements stand first: that of its head, and 1 before the head
abbrev pub version_of : List Statement → ℕ
version_of [] = 1
version_of (Head name version ∷ ss) = version_named version
version_of (s ∷ ss) = version_of ss

-- a file of this version has such a line: a head names 1 or 2, and only the second version has sectors, `begin` and
-- `commit`
abbrev pub version_has : ℕ → Statement → Bool
version_has version (Head name None) = true
version_has version (Head name (Some named)) = named == 1 || named == 2
version_has version (Sector size) = version == 2
version_has version (Called c) = not (is_boundary c) || version == 2
version_has version s = true
