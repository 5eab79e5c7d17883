use Rattle.std.proofs.Common.{◌≡◌, ℕ, ◌<◌, true}
use Rattle.event_relations.specs.Rows.{has}
use Rattle.event_relations.proofs.rounds.are_within.Given as goal

abbrev pub invariant-loop-a : goal.invariant-loop-a
invariant-loop-a l = (c b : ℕ) → c < l.a → has l.left c b ≡ true → has l.right c b ≡ true
