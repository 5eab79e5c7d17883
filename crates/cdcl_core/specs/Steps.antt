-- Private: what the steps of a search do. Only the contracts of private functions cite it.
use Rattle.std.specs.Prelude.{Bool, false, Option, ◌≡◌, ℕ, ◌<◌, ◌≤◌, List, length, Some, None, slice_get}
use Rattle.std.specs.List.{Contains}
use Rattle.clause_store.specs.declared.Lit.{Lit}
use Rattle.trail_core.specs.Course.{Entry, Course, HasNoValue, Holds, Fails}
use Rattle.conflict_cut.specs.Cut.{IsConflict}
use Rattle.cdcl_core.specs.declared.parts.Engine.{Engine}
use Rattle.cdcl_core.specs.declared.descent.Footing.{Footing}
use Rattle.cdcl_core.specs.declared.descent.Assumed.{Assumed}
use Rattle.cdcl_core.specs.declared.descent.Assumed.TheVariants.{Met, Wrong, More}
use Rattle.cdcl_core.specs.declared.descent.Next.{Next}
use Rattle.cdcl_core.specs.declared.descent.Next.TheVariants.{Conflict, Denied, Full, On}

-- the clauses stay, and so does which of them were learned
pub record HasSame (old new : Engine) : Type 0 where
  pub store : new.store ≡ old.store
  pub learned : new.learned ≡ old.learned

-- the trail went back to a lower level: what was decided stays of old, and no entry up to that level is lost
pub record JumpsBack (old new : Course) : Type 0 where
  pub lower : new.level < old.level
  pub decided : (e : Entry) → Contains new.entries e → e.reason ≡ None → Contains old.entries e
  pub kept : (e : Entry) → Contains old.entries e → e.level ≤ new.level → Contains new.entries e

-- implied literals were added to the trail
pub record Spreads (old new : Course) : Type 0 where
  pub vars : new.vars ≡ old.vars
  pub level : new.level ≡ old.level
  pub decided : (e : Entry) → Contains new.entries e → e.reason ≡ None → Contains old.entries e
  pub kept : (e : Entry) → Contains old.entries e → Contains new.entries e
  pub longer : length old.entries ≤ length new.entries

-- the assumptions are true from levels on that aren't above this one
abbrev pub AreMet : List Entry → List Lit → ℕ → Type 0
AreMet entries assumptions level =
    (a : Lit) → Contains assumptions a → (e : Entry) × Contains entries e × (e.lit ≡ a) × (e.level ≤ level)

-- what is decided up to the footing's level are assumptions, above it all assumptions are met, and so many from the front
-- are true
pub record IsFooting (assumptions : List Lit) (t : Course) (f : Footing) : Type 0 where
  pub in_range : f.level ≤ t.level
  pub decided : (e : Entry) → Contains t.entries e → e.reason ≡ None → e.level ≤ f.level → Contains assumptions e.lit
  pub settled : f.level < t.level → AreMet t.entries assumptions f.level
  pub within : f.met ≤ length assumptions
  pub met : (k : ℕ) (a : Lit) → k < f.met → slice_get assumptions k ≡ Some a → Holds t.entries a

-- each variable has a value
abbrev pub HaveValues : Course → Type 0
HaveValues t = (v : ℕ) → 1 ≤ v → v ≤ t.vars → HasNoValue t.entries v → ⊥

-- the assumption is false, and nothing but assumptions is decided
abbrev pub IsDenied : Course → List Lit → Footing → Lit → Type 0
IsDenied t assumptions f a = (t.level ≤ f.level) × Contains assumptions a × Fails t.entries a

-- the trail is longer than the old one, and no longer than there are variables
abbrev pub IsLonger : Course → Course → Type 0
IsLonger old new = (length old.entries < length new.entries) × (length new.entries ≤ new.vars)

-- what came of one round, that began with this trail
abbrev pub IsOutcome : Course → Engine → List Lit → Footing → Next → Type 0
IsOutcome old new assumptions f (Conflict id) = IsConflict new.store.clauses new.trail.entries id
IsOutcome old new assumptions f (Denied a) = IsDenied new.trail assumptions f a
IsOutcome old new assumptions f Full =
    (new.trail.seen ≡ length new.trail.entries) × HaveValues new.trail × AreMet new.trail.entries assumptions new.trail.level
IsOutcome old new assumptions f On = IsLonger old new.trail

-- what became of the assumptions: all are met and nothing changed, one is false, or one was decided
abbrev pub IsAssumed : Course → Course → List Lit → Footing → Assumed → Type 0
IsAssumed old new assumptions f Met = (new ≡ old) × AreMet new.entries assumptions f.level
IsAssumed old new assumptions f (Wrong a) = IsDenied new assumptions f a
IsAssumed old new assumptions f More = IsLonger old new

-- the value that is written for a variable
abbrev pub written : Option Bool → Bool
written None = false
written (Some b) = b
