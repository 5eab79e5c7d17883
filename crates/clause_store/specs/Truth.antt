-- When values of the variables make clauses true.
use Rattle.std.specs.Prelude.{◌≡◌, ◌-◌, Bool, true, false, not, List, if◌then◌else◌, slice_index_or}
use Rattle.std.specs.List.{All, Any}
use Rattle.clause_store.specs.declared.Lit.{Lit}

-- whether a literal is true: the value of variable v stands at place v - 1, and one that has none counts as false
abbrev pub is_true : List Bool → Lit → Bool
is_true values l = if l.positive then slice_index_or values (l.var - 1) false else not (slice_index_or values (l.var - 1) false)

-- some literal of the clause is true
abbrev pub MakesTrue : List Bool → List Lit → Type 0
MakesTrue values clause = Any (λ l. is_true values l ≡ true) clause

-- each clause is true
abbrev pub MakesAllTrue : List Bool → List (List Lit) → Type 0
MakesAllTrue values clauses = All (MakesTrue values) clauses
