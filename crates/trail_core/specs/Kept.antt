-- Private: how a trail is kept, as its literals in their order, and by variable its value and where that comes from. Only
-- the contracts of private functions cite it.
use Rattle.std.specs.Prelude.{◌≡◌, ℕ, ◌+◌, ◌-◌, ◌<◌, ◌≤◌, ◌^◌, Bool, List, length, map, take, Option, None, is_none, count_by, slice_index_or}
use Rattle.std.specs.List.{All}
use Rattle.clause_store.specs.declared.Lit.{Lit}
use Rattle.clause_store.specs.Clauses.{InVars}
use Rattle.trail_core.specs.declared.Origin.{Origin}
use Rattle.trail_core.specs.Course.{Entry, Course, Rises, IsValue, HaveOnce}

-- the origin of a place past the end
abbrev pub no_origin : Origin
no_origin = record { level = 0; reason = None }

-- the entry of a literal, where the origins stand by variable
abbrev pub entry_of : List Origin → Lit → Entry
entry_of origins l =
    record { lit = l; level = (slice_index_or origins (l.var - 1) no_origin).level; reason = (slice_index_or origins (l.var - 1) no_origin).reason }

-- the entries of the first literals
abbrev pub entries_of : List Origin → List Lit → ℕ → List Entry
entries_of origins lits count = map (entry_of origins) (take count lits)

-- the trail that is kept so
abbrev pub course_of : List (Option Bool) → List Origin → List Lit → ℕ → ℕ → ℕ → Course
course_of values origins lits count level seen =
    record { vars = length values; level = level; seen = seen; entries = entries_of origins lits count }

-- each variable has the value that the entries say
abbrev pub AreValues : List Entry → List (Option Bool) → Type 0
AreValues entries values = (v : ℕ) → 1 ≤ v → v ≤ length values → IsValue entries v (slice_index_or values (v - 1) None)

-- what is true of each trail that is kept so; `room` says that each variable without a value has a place left
pub record IsKept (values : List (Option Bool)) (origins : List Origin) (lits : List Lit) (count level seen : ℕ) : Type 0 where
  pub origins_len : length origins ≡ length values
  pub lits_len : length lits ≡ length values
  pub vars_len : length values < 2 ^ 32
  pub room : count + count_by is_none values ≡ length values
  pub named : All (λ (e : Entry). InVars (length values) e.lit) (entries_of origins lits count)
  pub once : HaveOnce (entries_of origins lits count)
  pub agree : AreValues (entries_of origins lits count) values
  pub rises : Rises 0 (entries_of origins lits count) level
  pub seen_in : seen ≤ count

-- the first literals are a trail, of whatever level
abbrev pub AreFront : List (Option Bool) → List Origin → List Lit → ℕ → Type 0
AreFront values origins lits count = (level : ℕ) × IsKept values origins lits count level 0
