use Rattle.std.proofs.Common.{◌≡◌, ◌+◌, ◌*◌, true, map}
use Rattle.std.specs.List.{All, range_with_len}
use Rattle.clause_store.specs.Clauses.{InVars}
use Rattle.bench_clauses.specs.Families.{sits}
use Rattle.bench_clauses.proofs.families.seat.Given as goal

abbrev pub invariant-loop-hole : goal.invariant-loop-hole
invariant-loop-hole l =
    (l.lits.items ≡ map (λ hole. sits l.holes l.pigeon hole true) (range_with_len 0 l.hole)) × All (InVars (l.holes * (l.holes + 1))) l.lits.items
