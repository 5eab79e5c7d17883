use Rattle.std.proofs.Common.{◌≡◌, ◌≢◌, ℕ, ◌<◌, get_or, true, false, MatchOption}
use Rattle.std.specs.List.{Contains}
use Rattle.clause_store.specs.declared.Lit.{Lit}
use Rattle.clause_store.specs.Clauses.{negated}
use Rattle.rup_checker.specs.Marks.{has}
use Rattle.rup_checker.proofs.rounds.look.Given as goal

abbrev pub invariant-loop-l : goal.invariant-loop-l
invariant-loop-l l =
    MatchOption l.open
    ((k : ℕ) (d : Lit) → k < l.l-index → has l.set (negated (get_or l.clause k d)) ≡ true)
    (λ o.
    Contains l.clause o × (has l.set (negated o) ≡ false)
    × ((k : ℕ) (d : Lit) → k < l.l-index → get_or l.clause k d ≢ o → has l.set (negated (get_or l.clause k d)) ≡ true))
