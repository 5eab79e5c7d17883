use Rattle.std.proofs.Common.{◌≡◌, ◌<◌, ◌≤◌, ◌/◌, ℕ, length, get_or}
use Rattle.branch_rules.proofs.activity.halve.Given as goal

abbrev pub invariant-loop-place : goal.invariant-loop-place
invariant-loop-place l = record {
  len : length l.scores ≡ length l.initial.scores;
  done : (i : ℕ) → i < l.place → get_or l.scores i 0 ≡ get_or l.initial.scores i 0 / 2;
  rest : (i : ℕ) → l.place ≤ i → get_or l.scores i 0 ≡ get_or l.initial.scores i 0;
}
