-- The walk that drops each thing that isn't needed, and what it keeps.
use Rattle.std.specs.Prelude.{◌≡◌, ℕ, ◌+◌, ◌<◌, List, Bool, Option, Some, None, map, All}
use Rattle.fer_events.specs.declared.event.Crash.{Crash}
use Rattle.sync_shrink.specs.declared.asking.Reply.{Reply}
use Rattle.sync_shrink.specs.declared.asking.Reply.TheVariants.{Bad, Fine}
use Rattle.sync_shrink.specs.declared.walking.Need.{Need}
use Rattle.sync_shrink.specs.declared.walking.Shrunk.{Shrunk}
use Rattle.sync_shrink.specs.declared.walking.Shrunk.TheVariants.{Kept, NoneSuffice}
use Rattle.sync_shrink.specs.Sets.{all_things, without, Has, things_in}

-- a right answer on a set: a crash that shows it bad, or that it isn't bad
abbrev pub IsReply : (List Bool → Type 0) → (List Bool → Crash → Type 0) → List Bool → Reply → Type 0
IsReply bad shows s (Bad crash) = shows s crash
IsReply bad shows s Fine = bad s → ⊥

-- the sets that are left after the things below k of n were tried in order: the walk begins with all things, where they
-- aren't bad, and drops a thing where what is left isn't bad
pub data Walk (bad : List Bool → Type 0) (n : ℕ) : ℕ → List Bool → Type 0 where
  begin : (bad (all_things n) → ⊥) → Walk bad n 0 (all_things n)
  dropped : (k : ℕ) (s : List Bool) → Walk bad n k s → (bad (without k s) → ⊥) → Walk bad n (k + 1) (without k s)
  needed : (k : ℕ) (s : List Bool) → Walk bad n k s → bad (without k s) → Walk bad n (k + 1) s

-- a set that the walk asks: all things, or a set that it left without the next thing
pub data IsAsked (bad : List Bool → Type 0) (n : ℕ) : List Bool → Type 0 where
  all : IsAsked bad n (all_things n)
  next : (k : ℕ) (s : List Bool) → k < n → Walk bad n k s → IsAsked bad n (without k s)

-- the last question that was spent is one that the walk asks
abbrev pub IsSpent : (List Bool → Type 0) → ℕ → Option (List Bool) → Type 0
IsSpent bad n (Some s) = IsAsked bad n s
IsSpent bad n None = ⊥

-- a thing of the set, and a crash that shows the set bad without it
pub record IsNeed (shows : List Bool → Crash → Type 0) (s : List Bool) (need : Need) : Type 0 where
  pub has : Has s need.thing
  pub shown : shows (without need.thing s) need.crash

-- what the walk over n things keeps, each thing with a crash that shows that it is needed; or a crash that shows all
-- things together bad
abbrev pub IsShrunk : (List Bool → Type 0) → (List Bool → Crash → Type 0) → ℕ → Shrunk → Type 0
IsShrunk bad shows n (Kept needs) = (s : List Bool) × Walk bad n n s × (map (λ need. need.thing) needs ≡ things_in s) × All (IsNeed shows s) needs
IsShrunk bad shows n (NoneSuffice crash) = shows (all_things n) crash
