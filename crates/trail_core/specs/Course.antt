-- The trail of a search: the literals that were made true, in their order, each with its level and its reason.
use Rattle.std.specs.Prelude.{◌≡◌, ◌≢◌, ℕ, ◌+◌, ◌≤◌, min, Bool, List, [], ◌∷◌, ◌++◌, length, map, filter, nat_le, Option, Some, None, MatchOption, ⊤}
use Rattle.std.specs.List.{All, Contains}
use Rattle.clause_store.specs.declared.Lit.{Lit}
use Rattle.clause_store.specs.Clauses.{InVars, negated}

-- a literal that was made true, the level at which it was, and its reason: the number of the clause that implied it, and
-- none where it was decided
pub record Entry : Type 0 where
  pub lit : Lit
  pub level : ℕ
  pub reason : Option ℕ

-- how many variables there are, the present level, how many entries from the front were gone through, and the entries
pub record Course : Type 0 where
  pub vars : ℕ
  pub level : ℕ
  pub seen : ℕ
  pub entries : List Entry

-- the literals alone
abbrev pub lits_of : List Entry → List Lit
lits_of entries = map (λ e. e.lit) entries

-- the literal is true: it has an entry
abbrev pub Holds : List Entry → Lit → Type 0
Holds entries l = (e : Entry) × Contains entries e × (e.lit ≡ l)

-- the literal is false: its negation has an entry
abbrev pub Fails : List Entry → Lit → Type 0
Fails entries l = Holds entries (negated l)

-- some entry is of this variable
abbrev pub HasValue : List Entry → ℕ → Type 0
HasValue entries v = (e : Entry) × Contains entries e × (e.lit.var ≡ v)

-- no entry is of this variable
abbrev pub HasNoValue : List Entry → ℕ → Type 0
HasNoValue entries v = (e : Entry) → Contains entries e → e.lit.var ≢ v

-- the variable's value, or none where it has none
abbrev pub IsValue : List Entry → ℕ → Option Bool → Type 0
IsValue entries v None = HasNoValue entries v
IsValue entries v (Some b) = Holds entries (record { var = v; positive = b })

-- no variable has two entries
abbrev pub HaveOnce : List Entry → Type 0
HaveOnce [] = ⊤
HaveOnce (e ∷ es) = HasNoValue es e.lit.var × HaveOnce es

-- along the entries the level goes from the one number to the other: a decided literal opens the next level, and an implied
-- one has the level that it finds
abbrev pub Rises : ℕ → List Entry → ℕ → Type 0
Rises from [] to = from ≡ to
Rises from (e ∷ es) to = MatchOption e.reason (e.level ≡ from + 1) (λ _. e.level ≡ from) × Rises e.level es to

-- what is true of each trail: its literals are of variables that are there, each variable stands on it once, its levels rise
-- from 0 to the present one, and no more was gone through than is there
pub record IsCourse (t : Course) : Type 0 where
  pub named : All (λ (e : Entry). InVars t.vars e.lit) t.entries
  pub once : HaveOnce t.entries
  pub rises : Rises 0 t.entries t.level
  pub seen_in : t.seen ≤ length t.entries

-- the trail with an entry put behind the others, at this level
abbrev pub extended : Course → ℕ → Entry → Course
extended t level e = record t { level = level; entries = t.entries ++ e ∷ [] }

-- the trail where the literal was decided: it opens the next level
abbrev pub decided : Course → Lit → Course
decided t l = extended t (t.level + 1) (record { lit = l; level = t.level + 1; reason = None })

-- the trail where the clause of this number implied the literal, at the present level
abbrev pub implied : Course → Lit → ℕ → Course
implied t l id = extended t t.level (record { lit = l; level = t.level; reason = Some id })

-- the entries of at most this level
abbrev pub up_to : ℕ → List Entry → List Entry
up_to level entries = filter (λ e. nat_le e.level level) entries

-- the trail where all above this level was taken back: of what is left as much was gone through as before
abbrev pub taken_back : Course → ℕ → Course
taken_back t level =
    record t { level = level; seen = min t.seen (length (up_to level t.entries)); entries = up_to level t.entries }
