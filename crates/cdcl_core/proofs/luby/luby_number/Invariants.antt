use Rattle.std.proofs.Common.{ℕ, ◌≡◌, ◌+◌, ◌<◌, suc, length, get_or}
use Rattle.cdcl_core.specs.Luby.{luby_turn, luby}
use Rattle.cdcl_core.proofs.luby.luby_number.Given as goal

-- the place is one of the turn behind this one, and the number there is the answer
abbrev pub invariant-turn : goal.invariant-turn
invariant-turn l = (k : ℕ) × (l.turn ≡ length (luby_turn k)) × (l.place < suc (l.turn + l.turn)) × (get_or (luby_turn (suc k)) l.place 0 ≡ luby l.fn.place)

abbrev pub decreases-turn : goal.decreases-turn
decreases-turn l = l.turn
