use Rattle.std.proofs.Common.{◌≡◌, ◌+◌, ◌≤◌, length, map, sum}
use Rattle.predicate_reader.specs.Counts.{text_size}
use Rattle.predicate_reader.proofs.counts.has_long_texts.Given as goal

abbrev pub invariant-loop-lexeme : goal.invariant-loop-lexeme
invariant-loop-lexeme l = (sum (map text_size l.fn.asked) ≡ l.size + sum (map text_size l.rest)) × (l.size ≤ 4096)

abbrev pub decreases-loop-lexeme : goal.decreases-loop-lexeme
decreases-loop-lexeme l = length l.rest
