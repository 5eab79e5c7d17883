-- Private: how watches are kept in chains, and what holds while a chain is gone through.
use Rattle.std.specs.Prelude.{◌≡◌, ◌≢◌, ℕ, ◌+◌, ◌*◌, ◌≤◌, ◌⊎◌, Bool, true, false, List, [], ◌∷◌, length, Option, Some, None, slice_get, if◌then◌else◌}
use Rattle.std.specs.List.{All, Contains}
use Rattle.clause_store.specs.declared.Lit.{Lit}
use Rattle.clause_store.specs.Clauses.{negated, InVars}
use Rattle.trail_core.specs.Course.{Entry, Course, IsCourse, Holds, Fails, HasNoValue}
use Rattle.watch_lists.specs.declared.Finding.{Finding}
use Rattle.watch_lists.specs.declared.Finding.TheVariants.{Free, Unit as OnlyOther, False}
use Rattle.trail_core.specs.Standing.{OthersFail, AllFail}
use Rattle.watch_lists.specs.Links.{In, Chained}
use Rattle.watch_lists.specs.Watching.{Watch, AreWatches, AreInStep}

-- the chain of a literal; the chain 0 is of none
abbrev pub code : Lit → ℕ
code l = 2 * l.var + (if l.positive then 1 else 0) + 1

-- the literal that is watched at this side, and the one at the other side
abbrev pub here : Watch → Bool → Lit
here w true = w.second
here w false = w.first

abbrev pub other : Watch → Bool → Lit
other w true = w.first
other w false = w.second

-- the watch with another literal at this side
abbrev pub moved : Watch → Bool → Lit → Watch
moved w true l = record w { second = l }
moved w false l = record w { first = l }

-- the watches of the clauses with these numbers, whose watched literals stand side by side in one list
abbrev pub watches_of : List ℕ → List Lit → List Watch
watches_of (id ∷ ids) (a ∷ b ∷ lits) = record { clause = id; first = a; second = b } ∷ watches_of ids lits
watches_of ids lits = []

-- the place of a side of a watch
abbrev pub place : ℕ → Bool → ℕ
place i true = 2 * i + 1
place i false = 2 * i

-- each clause is in exactly the two chains of its watched literals
pub record AreChained (all : List (List ℕ)) (list : List Watch) : Type 0 where
  pub each : (i : ℕ) (b : Bool) (w : Watch) → slice_get list i ≡ Some w → In all (code (here w b)) (place i b)
  pub only : (k p : ℕ) → In all k p → (i : ℕ) × (b : Bool) × (w : Watch) × (slice_get list i ≡ Some w) × (p ≡ place i b) × (k ≡ code (here w b))

-- what is true of each value: there are chains for all literals, two places for each clause, and each place is in the chain of
-- its literal
pub record AreHung (vars : ℕ) (ids : List ℕ) (chains : Chained) : Type 0 where
  pub room : length chains.lists ≡ 2 * vars + 3
  pub pairs : length chains.lits ≡ 2 * length ids
  pub chained : AreChained chains.lists (watches_of ids chains.lits)

-- each place is in the chain of its literal, where those of one chain may stand in the chain 0
pub record IsChained (h : ℕ) (all : List (List ℕ)) (list : List Watch) : Type 0 where
  pub each : (i : ℕ) (b : Bool) (w : Watch) → slice_get list i ≡ Some w → In all (code (here w b)) (place i b) ⊎ ((code (here w b) ≡ h) × In all 0 (place i b))
  pub only : (k p : ℕ) → In all k p → (i : ℕ) × (b : Bool) × (w : Watch) × (slice_get list i ≡ Some w) × (p ≡ place i b) × ((k ≡ code (here w b)) ⊎ ((k ≡ 0) × (code (here w b) ≡ h)))

-- what holds while the chain of a false literal is gone through: what is still to be visited stands in the chain 0, and
-- the places that are back in the literal's own chain have a true other literal
pub record IsGoing (clauses : List (List Lit)) (t : Course) (list : List Watch) (all : List (List ℕ)) (l : Lit) : Type 0 where
  pub course : IsCourse t
  pub false_lit : Fails t.entries l
  pub room : length all ≡ 2 * t.vars + 3
  pub named : All (All (InVars t.vars)) clauses
  pub watches : AreWatches clauses list
  pub in_step : AreInStep list t
  pub chained : IsChained (code l) all list
  pub kept : (i : ℕ) (b : Bool) (w : Watch) → slice_get list i ≡ Some w → In all (code l) (place i b) → Holds t.entries (other w b)

-- what holds between the chains
pub record IsReady (clauses : List (List Lit)) (t : Course) (list : List Watch) (all : List (List ℕ)) : Type 0 where
  pub course : IsCourse t
  pub room : length all ≡ 2 * t.vars + 3
  pub named : All (All (InVars t.vars)) clauses
  pub watches : AreWatches clauses list
  pub in_step : AreInStep list t
  pub chained : AreChained all list

-- both of them, of watches as they are kept
pub record IsUnderway (clauses : List (List Lit)) (t : Course) (ids : List ℕ) (chains : Chained) (l : Lit) : Type 0 where
  pub pairs : length chains.lits ≡ 2 * length ids
  pub going : IsGoing clauses t (watches_of ids chains.lits) chains.lists l

pub record IsPrepared (clauses : List (List Lit)) (t : Course) (ids : List ℕ) (chains : Chained) : Type 0 where
  pub pairs : length chains.lits ≡ 2 * length ids
  pub ready : IsReady clauses t (watches_of ids chains.lits) chains.lists

-- each watch of this literal has a true other literal
abbrev pub AreAnswered : List Entry → List Watch → Lit → Type 0
AreAnswered entries list l = (w : Watch) (b : Bool) → Contains list w → here w b ≡ l → Holds entries (other w b)

-- the truth of a literal
abbrev pub IsTruth : List Entry → Lit → Option Bool → Type 0
IsTruth entries l None = HasNoValue entries l.var
IsTruth entries l (Some true) = Holds entries l
IsTruth entries l (Some false) = Fails entries l

-- what is found at a clause one of whose watched literals is false and the other one isn't true
abbrev pub IsFound : List Entry → List Lit → Lit → Finding → Type 0
IsFound entries clause o (Free m) = Contains clause m × (m ≢ o) × (Fails entries m → ⊥)
IsFound entries clause o OnlyOther = HasNoValue entries o.var × OthersFail entries clause o
IsFound entries clause o False = AllFail entries clause

-- the negation of the first literal that isn't seen, if there is one
abbrev pub IsNext : Course → Option Lit → Type 0
IsNext t None = length t.entries ≤ t.seen
IsNext t (Some l) = (e : Entry) × (slice_get t.entries t.seen ≡ Some e) × (l ≡ negated e.lit)

-- no false entry of the first literal is above one of the second
abbrev pub IsNotAbove : List Entry → Lit → Lit → Type 0
IsNotAbove entries m b = (e f : Entry) → Contains entries e → e.lit ≡ negated m → Contains entries f → f.lit ≡ negated b → e.level ≤ f.level

-- of two literals, where the first may be missing, one that neither is above
abbrev pub IsHigher : List Entry → Option Lit → Lit → Lit → Type 0
IsHigher entries None m r = r ≡ m
IsHigher entries (Some b) m r = ((r ≡ m) ⊎ (r ≡ b)) × IsNotAbove entries m r × IsNotAbove entries b r

-- no literal but the first is above this one
abbrev pub IsHighestBut : List Entry → List Lit → Lit → Lit → Type 0
IsHighestBut entries clause first b = (m : Lit) → Contains clause m → m ≢ first → IsNotAbove entries m b
