-- Private: what the walk knows on the way.
use Rattle.std.specs.Prelude.{◌≡◌, ℕ, zero, suc, ◌<◌, List, [], ◌∷◌, Bool, true, Option, Some, None, map, take, length, All}
use Rattle.fer_events.specs.declared.event.Crash.{Crash}
use Rattle.sync_shrink.specs.declared.walking.Need.{Need}
use Rattle.sync_shrink.specs.Sets.{all_things, Has, without, things_in}
use Rattle.sync_shrink.specs.Walk.{Walk, IsNeed}

-- what a thing's question came to: the thing stays, since a crash shows the set bad without it; or it is dropped
abbrev pub IsTried : (List Bool → Type 0) → (List Bool → Crash → Type 0) → ℕ → List Bool → List Bool → Option Crash → Type 0
IsTried bad shows thing before after (Some crash) = (after ≡ before) × shows (without thing before) crash
IsTried bad shows thing before after None = (after ≡ without thing before) × (bad (without thing before) → ⊥)

-- the set as it was when this thing was tried: all things from it on were still there
abbrev pub at_trial : ℕ → List Bool → List Bool
at_trial _ [] = []
at_trial zero (_ ∷ s) = true ∷ at_trial zero s
at_trial (suc k) (x ∷ s) = x ∷ at_trial k s

-- a thing below k of the set, and a crash that shows the set of its trial bad without it
pub record IsEarlyNeed (shows : List Bool → Crash → Type 0) (k : ℕ) (s : List Bool) (need : Need) : Type 0 where
  pub below : need.thing < k
  pub has : Has s need.thing
  pub shown : shows (without need.thing (at_trial need.thing s)) need.crash

-- the walk stands before thing k with this set and these needs
pub record IsUnderWay (bad : List Bool → Type 0) (shows : List Bool → Crash → Type 0) (n k : ℕ) (s : List Bool) (needs : List Need) : Type 0 where
  pub walk : Walk bad n k s
  pub full : length s ≡ n
  pub rest : at_trial k s ≡ s
  pub things : map (λ need. need.thing) needs ≡ things_in (take k s)
  pub shown : All (IsEarlyNeed shows k s) needs

-- the walk is over with this set and these needs, or a crash shows all things bad
abbrev pub IsWalked : (List Bool → Type 0) → (List Bool → Crash → Type 0) → ℕ → List Bool → List Need → Option Crash → Type 0
IsWalked bad shows n s needs (Some crash) = shows (all_things n) crash
IsWalked bad shows n s needs None = IsUnderWay bad shows n n s needs

-- the crashes of the needs before this place are carried down to the set, and the others not yet
abbrev pub AreCarried : (List Bool → Crash → Type 0) → List Bool → ℕ → List Need → Type 0
AreCarried shows s place [] = Unit {0}
AreCarried shows s zero (need ∷ needs) = IsEarlyNeed shows (length s) s need × AreCarried shows s zero needs
AreCarried shows s (suc place) (need ∷ needs) = IsNeed shows s need × AreCarried shows s place needs
