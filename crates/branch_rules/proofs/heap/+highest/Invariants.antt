use Rattle.std.proofs.Common.{◌-◌, length}
use Rattle.branch_rules.proofs.heap.+highest.Given as goal

abbrev pub decreases-highest : goal.decreases-highest
decreases-highest l = length l.heap.now - l.at
