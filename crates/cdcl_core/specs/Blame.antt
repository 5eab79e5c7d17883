-- Private: which decisions are behind a clause that is false. Only the contracts of private functions cite it.
use Rattle.std.specs.Prelude.{◌≡◌, ℕ, ◌+◌, ◌<◌, Bool, List, Some, None, slice_get}
use Rattle.std.specs.List.{Contains}
use Rattle.clause_store.specs.declared.Lit.{Lit}
use Rattle.clause_store.specs.Propagation.{IsImplied}
use Rattle.trail_core.specs.Course.{Entry}
use Rattle.conflict_cut.specs.Draft.{IsMarked}

-- the variables of the clause are marked
abbrev pub AreMarked : List Bool → List Lit → Type 0
AreMarked marks clause = (l : Lit) → Contains clause l → IsMarked marks l.var

-- each of the literals was decided
abbrev pub AreDecided : List Entry → List Lit → Type 0
AreDecided entries part = (l : Lit) → Contains part l → (e : Entry) × Contains entries e × (e.lit ≡ l) × (e.reason ≡ None)

-- each of the literals is implied
abbrev pub AreImplied : List (List Lit) → List Lit → List Lit → Type 0
AreImplied clauses start lits = (l : Lit) → Contains lits l → IsImplied clauses start l

-- each marked entry before this place is implied
abbrev pub MarkedAreImplied : List (List Lit) → List Lit → List Entry → List Bool → ℕ → Type 0
MarkedAreImplied clauses start entries marks at =
    (k : ℕ) (e : Entry) → k < at → slice_get entries k ≡ Some e → IsMarked marks e.lit.var → IsImplied clauses start e.lit

-- where what is taken up and marked after a step at this place is implied, so is what was before it
abbrev pub Explains : List (List Lit) → List Entry → ℕ → List Bool → List Bool → List Lit → List Lit → Type 0
Explains clauses entries at marks marks' part part' =
    (start : List Lit) → AreImplied clauses start part' → MarkedAreImplied clauses start entries marks' at
    → AreImplied clauses start part × MarkedAreImplied clauses start entries marks (at + 1)

-- where the literals of the part are implied, so is each entry of a variable of the clause
abbrev pub IsBehind : List (List Lit) → List Entry → ℕ → List Lit → Type 0
IsBehind clauses entries id part =
    (start clause : List Lit) (l : Lit) (e : Entry) → AreImplied clauses start part → slice_get clauses id ≡ Some clause
    → Contains clause l → Contains entries e → e.lit.var ≡ l.var → IsImplied clauses start e.lit
