-- Lists of clauses that are added one after the other, each of which follows from those before it, or is new to them.
use Rattle.std.specs.Prelude.{List, [], ◌∷◌, ◌++◌, ⊤}
use Rattle.clause_store.specs.declared.Lit.{Lit}
use Rattle.clause_store.specs.Propagation.{Follows, IsNew}

-- each clause is so related to the given ones and those before it
abbrev pub EachInTurn : (List (List Lit) → List Lit → Type 0) → List (List Lit) → List (List Lit) → Type 0
EachInTurn Is given [] = ⊤
EachInTurn Is given (clause ∷ added) = Is given clause × EachInTurn Is (given ++ clause ∷ []) added

-- each clause follows from the given ones and those before it
abbrev pub EachFollows : List (List Lit) → List (List Lit) → Type 0
EachFollows = EachInTurn Follows

-- each clause is new to the given ones and those before it
abbrev pub EachIsNew : List (List Lit) → List (List Lit) → Type 0
EachIsNew = EachInTurn IsNew
