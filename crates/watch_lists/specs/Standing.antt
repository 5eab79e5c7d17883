-- How a clause stands on a trail where it is taken in.
use Rattle.std.specs.Prelude.{◌≢◌, List}
use Rattle.std.specs.List.{Contains}
use Rattle.clause_store.specs.declared.Lit.{Lit}
use Rattle.trail_core.specs.Course.{Entry, Holds, HasNoValue}
use Rattle.trail_core.specs.Standing.{AllFail, OthersFail}
use Rattle.watch_lists.specs.declared.standing.Standing.{Standing}
use Rattle.watch_lists.specs.declared.standing.Standing.TheVariants.{True, False, Open}
use Rattle.watch_lists.specs.declared.standing.Standing.TheVariants as standing

-- a literal of the clause is true; all are false; all but one are, and that one has no value; or two have none
abbrev pub IsStanding : List Entry → List Lit → Standing → Type 0
IsStanding entries clause True = (l : Lit) × Contains clause l × Holds entries l
IsStanding entries clause False = AllFail entries clause
IsStanding entries clause (standing.Unit l) = Contains clause l × HasNoValue entries l.var × OthersFail entries clause l
IsStanding entries clause (Open l m) = Contains clause l × Contains clause m × (l ≢ m) × HasNoValue entries l.var × HasNoValue entries m.var
