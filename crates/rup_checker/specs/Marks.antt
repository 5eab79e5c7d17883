-- Private: sets of literals as lists of marks, and what a round over all clauses makes of them. Only the contracts of private
-- functions cite it.
use Rattle.std.specs.Prelude.{◌≡◌, ◌≢◌, ◌⊎◌, ℕ, ◌+◌, ◌*◌, ◌<◌, Bool, true, false, List, if◌then◌else◌, count_by, not, slice_index_or}
use Rattle.std.specs.List.{Contains, All}
use Rattle.clause_store.specs.declared.Lit.{Lit}
use Rattle.clause_store.specs.Clauses.{negated}
use Rattle.clause_store.specs.Propagation.{IsImplied}
use Rattle.rup_checker.specs.declared.rounds.Reading.{Reading}
use Rattle.rup_checker.specs.declared.rounds.Reading.TheVariants.{Conflict, Forced, Nothing}
use Rattle.rup_checker.specs.declared.rounds.Round.{Round}
use Rattle.rup_checker.specs.declared.rounds.Round.TheVariants as round

-- the place of a literal's mark
abbrev pub code : Lit → ℕ
code l = 2 * l.var + (if l.positive then 1 else 0)

-- the set has the literal
abbrev pub has : List Bool → Lit → Bool
has marks l = slice_index_or marks (code l) false

-- the literals and their negations have places
abbrev pub HaveRoom : List Lit → ℕ → Type 0
HaveRoom clause n = All (λ l. 2 * l.var + 1 < n) clause

-- the set has the negations of all literals of the clause
abbrev pub AllNegated : List Lit → (Lit → Bool) → Type 0
AllNegated clause set = (m : Lit) → Contains clause m → set (negated m) ≡ true

-- the set has the negations of all literals of the clause but this one
abbrev pub OthersNegated : List Lit → (Lit → Bool) → Lit → Type 0
OthersNegated clause set l = (m : Lit) → Contains clause m → m ≢ l → set (negated m) ≡ true

-- the set lacks the negation of a literal of the clause, and has that literal or lacks the negation of another one
abbrev pub IsQuiet : List Lit → (Lit → Bool) → Type 0
IsQuiet clause set =
    (l : Lit) × Contains clause l × (set (negated l) ≡ false)
    × ((set l ≡ true) ⊎ ((m : Lit) × Contains clause m × (m ≢ l) × (set (negated m) ≡ false)))

-- what a clause says: all its literals are negated, all but one are, which isn't in the set, or nothing
abbrev pub IsReading : List Lit → (Lit → Bool) → Reading → Type 0
IsReading clause set Conflict = AllNegated clause set
IsReading clause set (Forced l) = Contains clause l × (set l ≡ false) × OthersNegated clause set l
IsReading clause set Nothing = IsQuiet clause set

-- how many literals the set lacks
abbrev pub lacking : List Bool → ℕ
lacking marks = count_by not marks

-- the set lies in the least one
abbrev pub AllImplied : List (List Lit) → List Lit → (Lit → Bool) → Type 0
AllImplied clauses start set = (l : Lit) → set l ≡ true → IsImplied clauses start l

-- what a round came to: some clause has all its literals negated, the set has grown, or no clause had anything to say
abbrev pub IsRound : List (List Lit) → List Bool → List Bool → Round → Type 0
IsRound clauses old new round.Conflict = (c : List Lit) × Contains clauses c × AllNegated c (has new)
IsRound clauses old new round.Changed = lacking new < lacking old
IsRound clauses old new round.Still = (new ≡ old) × ((c : List Lit) → Contains clauses c → IsQuiet c (has new))
