-- How a clause stands on a trail: which of its literals are false.
use Rattle.std.specs.Prelude.{◌≢◌, List}
use Rattle.std.specs.List.{Contains}
use Rattle.clause_store.specs.declared.Lit.{Lit}
use Rattle.trail_core.specs.Course.{Entry, Fails, HasNoValue}

-- all literals of the clause are false
abbrev pub AllFail : List Entry → List Lit → Type 0
AllFail entries clause = (m : Lit) → Contains clause m → Fails entries m

-- all literals of the clause but this one are false
abbrev pub OthersFail : List Entry → List Lit → Lit → Type 0
OthersFail entries clause l = (m : Lit) → Contains clause m → m ≢ l → Fails entries m

-- the clause is unit: all its literals but one are false, and the variable of that one has no value
abbrev pub IsUnit : List Entry → List Lit → Type 0
IsUnit entries clause = (l : Lit) × Contains clause l × HasNoValue entries l.var × OthersFail entries clause l
