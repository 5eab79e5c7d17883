use Rattle.std.proofs.Common.{◌<◌, ◌≤◌, length}
use Rattle.lexeme_reader.specs.Parentheses.{most_open}
use Rattle.lexeme_reader.proofs.parentheses.is_deep.Given as goal

abbrev pub invariant-loop-lexeme : goal.invariant-loop-lexeme
invariant-loop-lexeme l =
    (64 < most_open l.depth l.rest → 64 < most_open 0 l.fn.lexemes) × (most_open l.depth l.rest ≤ 64 → most_open 0 l.fn.lexemes ≤ 64) × (l.depth ≤ 64)

abbrev pub decreases-loop-lexeme : goal.decreases-loop-lexeme
decreases-loop-lexeme l = length l.rest
