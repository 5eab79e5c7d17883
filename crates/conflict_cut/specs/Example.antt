-- Private: an example, three clauses over four variables, and a trail on which the third clause is false.
use Rattle.std.specs.Prelude.{true, false, List, [], ◌∷◌, Some, None}
use Rattle.clause_store.specs.declared.Lit.{Lit}
use Rattle.trail_core.specs.Course.{Course}

abbrev pub example_clauses : List (List Lit)
example_clauses =
    (record { var = 2; positive = false } ∷ record { var = 3; positive = true } ∷ [])
    ∷ (record { var = 3; positive = false } ∷ record { var = 1; positive = false } ∷ record { var = 4; positive = true } ∷ [])
    ∷ (record { var = 3; positive = false } ∷ record { var = 4; positive = false } ∷ [])
    ∷ []

-- the variables 1 and 2 are decided, and 3 and 4 are implied at the level of the second decision
abbrev pub example_trail : Course
example_trail = record {
  vars = 4;
  level = 2;
  seen = 0;
  entries =
      record { lit = record { var = 1; positive = true }; level = 1; reason = None }
      ∷ record { lit = record { var = 2; positive = true }; level = 2; reason = None }
      ∷ record { lit = record { var = 3; positive = true }; level = 2; reason = Some 0 }
      ∷ record { lit = record { var = 4; positive = true }; level = 2; reason = Some 1 }
      ∷ [];
}
