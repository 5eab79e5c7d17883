-- What the walk over the sites leaves, and what is asked on the way.
use Rattle.std.proofs.Common.{◌≡◌, ℕ, ◌+◌, ◌<◌, ◌≤◌, Bool, true, false, List, [], ◌∷◌, length, All, Option, Some, None, refl, sym, ◌∙◌, ap, subst, arith}
use Rattle.std.specs.Prelude.{option_map, replicate}
use Rattle.litmus_syntax.specs.declared.pred.Pred.{Pred}
use Rattle.litmus_syntax.specs.declared.site.Site.{Site}
use Rattle.fer_events.specs.declared.event.Crash.{Crash}
use Rattle.question_series.specs.Series.{IsAbout}
use Rattle.question_series.specs.declared.series.SeriesAnswer.{SeriesAnswer}
use Rattle.question_series.specs.declared.series.SeriesAnswer.TheVariants as answers
use Rattle.cdcl_core.specs.Answering.{Solving}
use Rattle.sync_shrink.specs.Sets.{all_things, without}
use Rattle.sync_shrink.specs.Walk.{Walk, IsAsked, IsSpent, IsShrunk}
use Rattle.sync_shrink.specs.Walk.Walk.{begin, dropped, needed}
use Rattle.sync_shrink.specs.Walk.IsAsked.{all, next}
use Rattle.sync_shrink.specs.declared.walking.Need.{Need}
use Rattle.sync_shrink.specs.declared.walking.Shrunk.{Shrunk}
use Rattle.sync_shrink.specs.declared.walking.Shrunk.TheVariants.{Kept}
use Rattle.sync_shrink.specs.declared.walking.Shrunk.TheVariants as shrunks
use Rattle.sync_shrink.proofs.WalkLaws.{walk-fine, walk-length}
use Rattle.sync_parts.specs.Sites.{sites_present}
use Rattle.sync_parts.specs.Reaching.{Reaches, IsReachable}
use Rattle.report.specs.declared.outcome.NeedLine.{NeedLine}
use Rattle.sync_repair.specs.declared.findings.Findings.{Findings}
use Rattle.sync_repair.specs.declared.asking.SpentQuestion.{SpentQuestion}
use Rattle.sync_repair.specs.declared.repairing.RepairAnswer.{RepairAnswer}
use Rattle.sync_repair.specs.declared.repairing.RepairAnswer.TheVariants.{NoneSuffice, Repaired, Spent}
use Rattle.sync_repair.specs.Sets.{IsLeft, IsAskedOnTheWay}
use Rattle.sync_repair.specs.Repairs.{AreNeeds}
use Rattle.sync_repair.specs.Oracles.{IsBadIn}
use Rattle.sync_repair.specs.Settings.{Setting, IsSetting, IsSetAnswer, IsSettled, IsLeftUndecided, IsReady, IsShown}
use Rattle.sync_repair.specs.Marks.{with_things, things_of, AreNeedsOf, AreLeft}
use Rattle.sync_repair.specs.Found.{IsFound, IsRepairIn}
use Rattle.sync_repair.proofs.Finding.{found-closed, found-open}
use Rattle.sync_repair.proofs.Marking.{marked-all, needs-below}

-- what is left after some things was asked: it has all things, or it was left without the one that was dropped last
left-asked : (bad : List Bool → Type 0) (n k : ℕ) (s : List Bool) → k ≤ n → Walk bad n k s → IsAsked bad n s
left-asked bad n _ _ le (begin fine) = all
left-asked bad n _ _ le (dropped k s walk fine) = next k s (omega (arith, le)) walk
left-asked bad n _ _ le (needed k s walk is) = left-asked bad n k s (omega (arith, le)) walk

-- all sites are present in the set of all
pub all-there : (sites : List Site) → sites_present sites (all_things (length sites)) ≡ sites
all-there [] = refl
all-there (site ∷ sites) = ap (λ (l : List Site). site ∷ l) (all-there sites)

module _ (s : Setting) (is : IsSetting s) (set : List Bool) (left : IsLeft s.litmus s.model s.sites set) where
  -- with what is left no crash answers the question
  pub left-unreached : (limit : ℕ) (old new : Solving) (answer : SeriesAnswer) (crash : Crash) → IsSetAnswer s set limit old new answer → answer ≡ answers.Allowed crash → ⊥
  left-unreached limit old new answer crash says allowed =
      let reached : Reaches s.litmus s.model (sites_present s.sites set) crash = subst (λ (a : SeriesAnswer). IsSetAnswer s set limit old new a) allowed says in
      walk-fine (IsBadIn s) (length s.sites) (length s.sites) set left (record { syncs = is.syncs; outside = is.outside; reached = (crash, reached) })

  pub left-repaired : (limit before : ℕ) (old new : Solving) (answer : SeriesAnswer) (needs : List NeedLine) (f : Findings) → IsSetAnswer s set limit old new answer → answer ≡ answers.Forbidden
      → AreNeeds s.litmus s.model (sites_present s.sites set) needs → IsFound s set before true new f → IsRepairIn s limit (Repaired needs f)
  left-repaired limit before old new answer needs f says forbidden shown found =
      let settled : IsSettled s set new = subst (λ (a : SeriesAnswer). IsSetAnswer s set limit old new a) forbidden says in (
        subst (λ (l : List Bool). IsLeft s.litmus s.model s.sites l) (sym found.about) left,
        subst (λ (l : List Bool). AreNeeds s.litmus s.model (sites_present s.sites l) needs) (sym found.about) shown,
        found-closed s set before true new f found refl settled,
      )

  pub left-spent : (limit before : ℕ) (old new : Solving) (answer : SeriesAnswer) (f : Findings) → IsSetAnswer s set limit old new answer → answer ≡ answers.Spent
      → before ≡ length old.learned → IsFound s set before false new f → IsRepairIn s limit (Spent f)
  left-spent limit before old new answer f says spent count found =
      let there : IsLeftUndecided s set new (length old.learned) limit = subst (λ (a : SeriesAnswer). IsSetAnswer s set limit old new a) spent says in
      let undecided : IsLeftUndecided s set new before limit = subst (λ (n : ℕ). IsLeftUndecided s set new n limit) (sym count) there in (
        subst (λ (l : List Bool). IsAskedOnTheWay s.litmus s.model s.sites l) (sym found.about) (left-asked (IsBadIn s) (length s.sites) (length s.sites) set (omega arith) left),
        found-open s set before false new f found limit refl undecided,
      )

-- the needs of what is left, as those of a set
pub left-needs : (s : Setting) (needs : List Need) (left : AreLeft s needs) → AreNeedsOf s left.marks needs
left-needs s needs left = record {
  full = walk-length (IsBadIn s) (length s.sites) (length s.sites) left.marks left.walk;
  things = left.things;
  shown = left.shown;
}

abbrev set_of : Option SpentQuestion → Option (List Bool)
set_of = option_map (λ q. q.set)

-- where the walk ended at a spent question, there is one
pub none-spent : (bad : List Bool → Type 0) (n : ℕ) (o : Option SpentQuestion) → o ≡ None → IsSpent bad n (set_of o) → ⊥
none-spent bad n o none asked = subst (λ (p : Option SpentQuestion). IsSpent bad n (set_of p)) none asked

module _ (s : Setting) (series : Solving) (limit : ℕ) (o : Option SpentQuestion) (ready : IsReady s series limit o) (q : SpentQuestion) (some : o ≡ Some q) where
  question-left : IsLeftUndecided s q.set series q.before limit
  question-left = (subst (λ (p : Option SpentQuestion). IsReady s series limit p) some ready).last

  pub question-within : q.before ≤ length series.learned
  question-within = let e = question-left.added in omega (arith, e)

  pub question-repaired : IsSpent (IsBadIn s) (length s.sites) (set_of o) → (set : List Bool) (f : Findings) → set ≡ q.set → IsFound s set q.before false series f → IsRepairIn s limit (Spent f)
  question-repaired asked set f same found =
      let on_the_way : IsAskedOnTheWay s.litmus s.model s.sites q.set = subst (λ (p : Option SpentQuestion). IsSpent (IsBadIn s) (length s.sites) (set_of p)) some asked in
      let undecided : IsLeftUndecided s set series q.before limit = subst (λ (l : List Bool). IsLeftUndecided s l series q.before limit) (sym same) question-left in (
        subst (λ (l : List Bool). IsAskedOnTheWay s.litmus s.model s.sites l) (sym (found.about ∙ same)) on_the_way,
        found-open s set q.before false series f found limit refl undecided,
      )

-- the set of the needs' things is what is left
pub left-marks : (s : Setting) (needs : List Need) (left : AreLeft s needs) (sites : List Site) (set : List Bool) → sites ≡ s.sites
    → set ≡ with_things (things_of needs) (replicate (length sites) false) → set ≡ left.marks
left-marks s needs left sites set same marked =
    let size : length sites ≡ length left.marks = ap (λ (l : List Site). length l) same ∙ sym (left-needs s needs left).full in
    marked ∙ ap (λ (n : ℕ). with_things (things_of needs) (replicate n false)) size
    ∙ ap (λ (l : List ℕ). with_things l (replicate (length left.marks) false)) left.things ∙ marked-all left.marks

pub left-below : (s : Setting) (needs : List Need) (left : AreLeft s needs) (sites : List Site) → sites ≡ s.sites → All (λ need. need.thing < length sites) needs
left-below s needs left sites same =
    needs-below left.marks (length sites) needs ((left-needs s needs left).full ∙ ap (λ (l : List Site). length l) (sym same)) left.things

-- what the walk comes to, in a setting that stays
module _ (s t : Setting) (same : s ≡ t) where
  pub walk-left : (answer : Shrunk) (needs seen : List Need) → IsShrunk (IsBadIn s) (IsShown s) (length s.sites) answer → answer ≡ Kept needs → seen ≡ needs → AreLeft t seen
  walk-left answer needs seen shrunk kept see =
      let there : IsShrunk (IsBadIn s) (IsShown s) (length s.sites) (Kept needs) = subst (λ (a : Shrunk). IsShrunk (IsBadIn s) (IsShown s) (length s.sites) a) kept shrunk in
      let left : AreLeft s needs = record { marks = there.0; walk = there.1; things = there.2; shown = there.3 } in
      subst (λ (u : Setting). AreLeft u seen) same (subst (λ (l : List Need). AreLeft s l) (sym see) left)

  pub walk-spent : (o : Option (List Bool)) → IsSpent (IsBadIn s) (length s.sites) o → IsSpent (IsBadIn t) (length t.sites) o
  walk-spent o asked = subst (λ (u : Setting). IsSpent (IsBadIn u) (length u.sites) o) same asked

pub walk-bad : (s : Setting) (answer : Shrunk) (crash : Crash) → IsShrunk (IsBadIn s) (IsShown s) (length s.sites) answer → answer ≡ shrunks.NoneSuffice crash
    → Reaches s.litmus s.model s.sites crash
walk-bad s answer crash shrunk none =
    let there : IsShown s (all_things (length s.sites)) crash = subst (λ (a : Shrunk). IsShrunk (IsBadIn s) (IsShown s) (length s.sites) a) none shrunk in
    subst (λ (l : List Site). Reaches s.litmus s.model l crash) (all-there s.sites) there.reached

-- a fresh oracle is ready
pub fresh-ready : (s t : Setting) (series : Solving) (limit : ℕ) (pred : Pred) (want : Bool) → IsSetting s → t ≡ s → pred ≡ s.litmus.pred → want ≡ s.litmus.want → IsAbout series s.all pred want
    → IsReady t series limit None
fresh-ready s t series limit pred want is same same_pred same_want about =
    let asks : IsAbout series s.all s.litmus.pred s.litmus.want =
    subst (λ (b : Bool). IsAbout series s.all s.litmus.pred b) same_want (subst (λ (p : Pred). IsAbout series s.all p want) same_pred about) in
    let ready : IsReady s series limit None = record { setting = is; about = asks; last = tt } in
    subst (λ (u : Setting). IsReady u series limit None) (sym same) ready
