-- Private: after how many conflicts a search starts anew. Only the contracts of private functions cite it.
use Rattle.std.specs.Prelude.{ℕ, List, [], ◌∷◌, ◌++◌, zero, suc, ◌^◌, slice_index_or}

-- a turn of Luby's sequence: the turn before twice, and then the next power of 2
unfoldable pub luby_turn : ℕ → List ℕ
luby_turn zero = []
luby_turn (suc k) = luby_turn k ++ luby_turn k ++ 2 ^ k ∷ []

-- the number at this place of Luby's sequence, counted from 0: 1, 1, 2, 1, 1, 2, 4 and so on. Each turn begins with the one
-- before, so any that is long enough has it, and turn k has k numbers or more.
unfoldable pub luby : ℕ → ℕ
luby place = slice_index_or (luby_turn (suc place)) place 0
