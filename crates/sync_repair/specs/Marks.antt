-- Private: sets that are made from the numbers of their things, and needs on the way to their lines.
use Rattle.std.specs.Prelude.{◌≡◌, ℕ, Bool, true, List, [], ◌∷◌, length, map, slice_get, slice_set, Some, All}
use Rattle.litmus_syntax.specs.declared.site.Site.{Site}
use Rattle.sync_shrink.specs.declared.walking.Need.{Need}
use Rattle.sync_shrink.specs.Sets.{things_in}
use Rattle.sync_shrink.specs.Walk.{IsNeed}
use Rattle.sync_parts.specs.Sites.{sites_present}
use Rattle.report.specs.declared.outcome.NeedLine.{NeedLine}
use Rattle.sync_repair.specs.Sets.{IsLeft}
use Rattle.sync_repair.specs.Repairs.{IsNeedAt}
use Rattle.sync_repair.specs.Settings.{Setting, IsShown}

-- the set with these things too
abbrev pub with_things : List ℕ → List Bool → List Bool
with_things [] set = set
with_things (thing ∷ things) set = with_things things (slice_set set thing true)

-- the things of the needs
abbrev pub things_of : List Need → List ℕ
things_of needs = map (λ need. need.thing) needs

-- the needs are those of the set's things, in their order: each has a crash that shows the set bad without its thing
pub record AreNeedsOf (s : Setting) (set : List Bool) (needs : List Need) : Type 0 where
  pub full : length set ≡ length s.sites
  pub things : things_of needs ≡ things_in set
  pub shown : All (IsNeed (IsShown s) set) needs

-- so many lines show that the first of the kept sites are needed
pub record AreLines (s : Setting) (kept : List Site) (count : ℕ) (lines : List NeedLine) : Type 0 where
  pub counted : length lines ≡ count
  pub each : (i : ℕ) (line : NeedLine) → slice_get lines i ≡ Some line → IsNeedAt s.litmus s.model kept i line

-- the needs are those of a set that the walk leaves
pub record AreLeft (s : Setting) (needs : List Need) : Type 0 where
  pub marks : List Bool
  pub walk : IsLeft s.litmus s.model s.sites marks
  pub things : things_of needs ≡ things_in marks
  pub shown : All (IsNeed (IsShown s) marks) needs
