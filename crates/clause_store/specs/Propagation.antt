-- Reverse unit propagation: which literals clauses imply, which clauses follow from others, and which are new to them.
use Rattle.std.specs.Prelude.{◌≡◌, ◌≢◌, ◌⊎◌, Bool, true, false, not, List, [], ◌∷◌, map, filter}
use Rattle.std.specs.List.{Contains}
use Rattle.clause_store.specs.declared.Lit.{Lit}
use Rattle.clause_store.specs.Clauses.{negated, lit_eq}

-- the least set of literals that has those of `start`, and has a literal of a clause wherever it has the negations
-- of all other literals of that clause; it may hold a literal beside its negation
pub data IsImplied (clauses : List (List Lit)) (start : List Lit) : Lit → Type 0 where
  assumed : (l : Lit) → Contains start l → IsImplied clauses start l
  forced :
      (clause : List Lit) (l : Lit) → Contains clauses clause → Contains clause l
      → ((m : Lit) → Contains clause m → m ≢ l → IsImplied clauses start (negated m))
      → IsImplied clauses start l

-- some clause has the negations of all its literals in that set
abbrev pub Conflicts : List (List Lit) → List Lit → Type 0
Conflicts clauses start =
    (clause : List Lit) × Contains clauses clause × ((m : Lit) → Contains clause m → IsImplied clauses start (negated m))

-- the negations of a clause's literals
abbrev pub negations : List Lit → List Lit
negations clause = map negated clause

-- a clause's literals other than this one
abbrev pub others : Lit → List Lit → List Lit
others l clause = filter (λ m. not (lit_eq m l)) clause

-- the clause follows: with all its literals false, unit propagation meets a clause that is false
abbrev pub Follows : List (List Lit) → List Lit → Type 0
Follows clauses clause = Conflicts clauses (negations clause)

-- the clause is new: by it propagation concludes a literal from the falsity of the others, where the clauses alone
-- give neither that literal nor a conflict
abbrev pub IsNew : List (List Lit) → List Lit → Type 0
IsNew clauses clause =
    (l : Lit) × Contains clause l
    × (IsImplied clauses (negations (others l clause)) l → ⊥)
    × (Conflicts clauses (negations (others l clause)) → ⊥)

-- the set has each literal of the list
abbrev pub HasAll : (Lit → Bool) → List Lit → Type 0
HasAll set lits = (l : Lit) → Contains lits l → set l ≡ true

-- the set has a literal of the clause wherever it has the negations of all others
abbrev pub IsClosedAt : List Lit → (Lit → Bool) → Type 0
IsClosedAt clause set =
    (l : Lit) → Contains clause l → ((m : Lit) → Contains clause m → m ≢ l → set (negated m) ≡ true) → set l ≡ true

-- the set lacks the negation of some literal of the clause
abbrev pub IsOpenAt : List Lit → (Lit → Bool) → Type 0
IsOpenAt clause set = (l : Lit) × Contains clause l × (set (negated l) ≡ false)

-- propagation adds nothing to the set
abbrev pub IsClosed : List (List Lit) → (Lit → Bool) → Type 0
IsClosed clauses set = (c : List Lit) → Contains clauses c → IsClosedAt c set

-- no clause is false in the set
abbrev pub HasNoConflict : List (List Lit) → (Lit → Bool) → Type 0
HasNoConflict clauses set = (c : List Lit) → Contains clauses c → IsOpenAt c set

-- the set has no literal beside its negation
abbrev pub IsConsistent : (Lit → Bool) → Type 0
IsConsistent set = (l : Lit) → set l ≡ true → set (negated l) ≡ false

-- the set has neither the literal nor its negation
abbrev pub IsFree : (Lit → Bool) → Lit → Type 0
IsFree set l = (set l ≡ false) × (set (negated l) ≡ false)

-- the set has a literal of the clause, or two different literals of the clause are free
abbrev pub IsSafeAt : List Lit → (Lit → Bool) → Type 0
IsSafeAt clause set =
    ((l : Lit) × Contains clause l × (set l ≡ true))
    ⊎ ((l m : Lit) × Contains clause l × Contains clause m × (l ≢ m) × IsFree set l × IsFree set m)

-- each literal as a clause of its own
abbrev pub units : List Lit → List (List Lit)
units lits = map (λ l. l ∷ []) lits
