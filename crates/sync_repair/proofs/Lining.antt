-- Why each need's crash is one of the kept sites without one.
use Rattle.std.proofs.Common.{◌≡◌, ℕ, zero, suc, ◌+◌, ◌-◌, ◌<◌, ◌≤◌, Bool, true, false, List, [], ◌∷◌, ◌++◌, length, map, take, drop, set, get_or, Some, All, Contains, refl, sym, ◌∙◌, ap, subst, inl, inr, arith}
use Rattle.std.specs.Prelude.{slice_get, option_map, IsPermutation}
use Rattle.std.specs.List.Sorted.{IsNonDecreasingBy}
use Rattle.std.proofs.lemmas.Option.{slice_get_within, get_or_from_slice_get, slice_get-get_or, slice_get-map, slice_get_cases}
use Rattle.std.proofs.lemmas.List.Elements.{All-nil, All-cons, All-contains, All-head, All-tail, All-weaker, All-contains_itself}
use Rattle.std.proofs.lemmas.List.Sorted.{Contains-permutation, IsPermutation-sym}
use Rattle.std.proofs.lemmas.List.{length-map, length-append}
use Rattle.std.proofs.lemmas.Bool.{cases_lt}
use Rattle.litmus_syntax.specs.Test.{Test}
use Rattle.litmus_syntax.specs.declared.call.Step.{Step}
use Rattle.litmus_syntax.specs.declared.site.Site.{Site}
use Rattle.litmus_syntax.specs.Sites.{AreSyncs, StandOutside}
use Rattle.fer_events.specs.declared.event.Crash.{Crash}
use Rattle.fer_events.specs.Orders.{numbers}
use Rattle.fer_events.specs.Tables.{Trace}
use Rattle.call_events.specs.Resolved.{HasEvents}
use Rattle.model_reader.specs.declared.model.Model.{Model}
use Rattle.sync_shrink.specs.declared.walking.Need.{Need}
use Rattle.sync_shrink.specs.Sets.{things_from, things_in, without}
use Rattle.sync_shrink.specs.Walk.{IsNeed}
use Rattle.sync_parts.specs.Sites.{sites_present, places_present, AreInOrder, IsSiteEvent}
use Rattle.sync_parts.specs.Reaching.{Reaches}
use Rattle.sync_parts.proofs.Reached.{all-present, syncs-present}
use Rattle.sync_parts.proofs.Numbering.{numbers-within}
use Rattle.sync_parts.proofs.Tables.{few-places}
use Rattle.sync_parts.proofs.Joining.{slice_left, slice_right}
use Rattle.report.specs.declared.outcome.NeedLine.{NeedLine}
use Rattle.sync_repair.specs.Repairs.{without_one, crash_raised, IsNeedAt, AreNeeds}
use Rattle.sync_repair.specs.Settings.{Setting, IsSetting, IsShown}
use Rattle.sync_repair.specs.Marks.{things_of, AreNeedsOf, AreLines}
use Rattle.sync_repair.proofs.Kepts.{some-counted, places-ascend, places-few}

-- the sites without the j-th thing are those that are present without the j-th one
pub thing-left : (from : ℕ) (sites : List Site) (marks : List Bool) (j thing : ℕ) → length marks ≡ length sites → slice_get (things_from from marks) j ≡ Some thing
    → (k : ℕ) × (thing ≡ from + k) × (sites_present sites (set marks k false) ≡ without_one j (sites_present sites marks))
thing-left from sites [] j thing size at = absurd (let there = slice_get_within {A = ℕ} [] j thing at in omega (arith, there))
thing-left from [] (mark ∷ marks) j thing size at = absurd (omega (arith, size))
thing-left from (site ∷ sites) (true ∷ marks) zero thing size at =
    let same : Some from ≡ Some thing = at in
    let is : from ≡ thing = cc in
    (0, omega (arith, is), refl)
thing-left from (site ∷ sites) (true ∷ marks) (suc j) thing size at =
    let rest = thing-left (from + 1) sites marks j thing (omega (arith, size)) at in
    let is = rest.1 in
    let some : List Site = sites_present sites marks in
    let next : suc (j + 1) ≡ suc j + 1 = omega arith in
    let left : sites_present (site ∷ sites) (set (true ∷ marks) (suc rest.0) false) ≡ without_one (suc j) (site ∷ some) =
    ap (λ (l : List Site). site ∷ l) rest.2 ∙ ap (λ (n : ℕ). take (suc j) (site ∷ some) ++ drop n (site ∷ some)) next in
    (suc rest.0, omega (arith, is), left)
thing-left from (site ∷ sites) (false ∷ marks) j thing size at =
    let rest = thing-left (from + 1) sites marks j thing (omega (arith, size)) at in
    let is = rest.1 in
    (suc rest.0, omega (arith, is), rest.2)

-- there are as many present sites as things
pub present-count : (from : ℕ) (sites : List Site) (marks : List Bool) → length marks ≡ length sites → length (sites_present sites marks) ≡ length (things_from from marks)
present-count from [] [] size = refl
present-count from [] (mark ∷ marks) size = absurd (omega (arith, size))
present-count from (site ∷ sites) [] size = absurd (omega (arith, size))
present-count from (site ∷ sites) (true ∷ marks) size = ap suc (present-count (from + 1) sites marks (omega (arith, size)))
present-count from (site ∷ sites) (false ∷ marks) size = present-count (from + 1) sites marks (omega (arith, size))

abbrev after : Site → ℕ
after site = site.after

-- a first one that is least, before ones that rise
rise-cons : (site : Site) (sites : List Site) → All (λ other. site.after ≤ other.after) sites → IsNonDecreasingBy after sites → IsNonDecreasingBy after (site ∷ sites)
rise-cons site sites least rise zero zero d l h = omega arith
rise-cons site sites least rise zero (suc j) d l h = least j d (omega (arith, h))
rise-cons site sites least rise (suc i) zero d l h = absurd (omega (arith, l))
rise-cons site sites least rise (suc i) (suc j) d l h = rise i j d (omega (arith, l)) (omega (arith, h))

rise-tail : (site : Site) (sites : List Site) → IsNonDecreasingBy after (site ∷ sites) → IsNonDecreasingBy after sites
rise-tail site sites rise i j d l h = rise (suc i) (suc j) d (omega (arith, l)) (omega (arith, h))

rise-least : (site : Site) (sites : List Site) → IsNonDecreasingBy after (site ∷ sites) → All (λ other. site.after ≤ other.after) sites
rise-least site sites rise k d l = rise 0 (suc k) d (omega arith) (omega (arith, l))

present-rise : (sites : List Site) (marks : List Bool) → IsNonDecreasingBy after sites → IsNonDecreasingBy after (sites_present sites marks)
present-rise [] marks rise = rise
present-rise (site ∷ sites) [] rise = λ i j d l h. absurd (omega (arith, h))
present-rise (site ∷ sites) (true ∷ marks) rise =
    rise-cons site (sites_present sites marks) (all-present (λ other. site.after ≤ other.after) sites marks (rise-least site sites rise))
    (present-rise sites marks (rise-tail site sites rise))
present-rise (site ∷ sites) (false ∷ marks) rise = present-rise sites marks (rise-tail site sites rise)

-- the present sites stand in order too
pub present-order : (body : List Step) (sites : List Site) (marks : List Bool) → AreInOrder body sites → AreInOrder body (sites_present sites marks)
present-order body sites marks order = record {
  behind = all-present (λ site. (1 ≤ site.after) × (site.after ≤ length body)) sites marks order.behind;
  rise = present-rise sites marks order.rise;
}

-- the numbers of a crash with some of the sites are small
pub reached-fit : (s : Setting) (is : IsSetting s) (marks : List Bool) (crash : Crash) → length s.all.events ≤ 128 → Reaches s.litmus s.model (sites_present s.sites marks) crash
    → All (λ x. x < 4294967295) crash.order
reached-fit s is marks crash few r =
    let places : List ℕ = places_present s.litmus.body s.sites marks s.all.events in
    let count : length r.trace.events ≡ length places = some-counted s.litmus s.sites (sites_present s.sites marks) marks s.all r.trace refl is.syncs is.outside is.resolved r.resolved in
    let ascend = places-ascend s.litmus s.sites marks s.all places is.syncs is.outside is.resolved refl in
    let within = places-few s.litmus s.sites marks s.all places is.syncs is.outside is.resolved refl few in
    let small : length r.trace.events ≤ 128 = elim (cases_lt 128 (length places)) [
      | inl more ↦ absurd (let less = few-places places ascend within 128 more in omega (arith, less))
      | inr le ↦ omega (arith, le, count)
    ] in
    All-weaker (Contains crash.order) (λ x. x < 4294967295)
    (λ x h.
    let all : List ℕ = numbers (length r.trace.events) in
    let permutes = IsPermutation-sym all crash.order r.answers.crashes.valid.permutes in
    let there = numbers-within (length r.trace.events) x (Contains-permutation crash.order all x permutes h) in
    let up = there.1 in
    omega (arith, up, small))
    crash.order (All-contains_itself crash.order)

-- what a need shows, in its place among the kept sites
pub need-shown : (s : Setting) (marks : List Bool) (needs : List Need) (place : ℕ) (d : Need) → AreNeedsOf s marks needs → place < length needs
    → IsShown s (without (get_or needs place d).thing marks) (get_or needs place d).crash
    × (sites_present s.sites (without (get_or needs place d).thing marks) ≡ without_one place (sites_present s.sites marks))
need-shown s marks needs place d are there =
    let need : Need = get_or needs place d in
    let at : slice_get needs place ≡ Some need = slice_get-get_or needs place d there in
    let thing_at : slice_get (things_in marks) place ≡ Some need.thing =
    ap (λ (l : List ℕ). slice_get l place) (sym are.things) ∙ slice_get-map (λ (n : Need). n.thing) needs place ∙ ap (option_map (λ (n : Need). n.thing)) at in
    let left = thing-left 0 s.sites marks place need.thing are.full thing_at in
    let same : need.thing ≡ left.0 = let e = left.1 in omega (arith, e) in
    ((are.shown place d there).shown, ap (λ (k : ℕ). sites_present s.sites (set marks k false)) same ∙ left.2)

pub need-below : (s : Setting) (kept : List Site) (marks : List Bool) (needs : List Need) (place : ℕ) → kept ≡ sites_present s.sites marks → AreNeedsOf s marks needs → place < length needs
    → place < length kept
need-below s kept marks needs place same are there =
    let count = present-count 0 s.sites marks are.full in
    let things = ap (λ (l : List ℕ). length l) are.things in
    let mapped = length-map needs (λ (n : Need). n.thing) in
    let size = ap (λ (l : List Site). length l) same in
    omega (arith, count, things, mapped, size, there)

module _ (s : Setting) (is : IsSetting s) (kept : List Site) (marks : List Bool) (same : kept ≡ sites_present s.sites marks) (needs : List Need) (are : AreNeedsOf s marks needs)
    (place : ℕ) (there : place < length needs) (need : Need) (read : need ≡ get_or needs place need) where
  reached : Reaches s.litmus s.model (sites_present s.sites (without need.thing marks)) need.crash
  reached =
      subst (λ (n : Need). Reaches s.litmus s.model (sites_present s.sites (without n.thing marks)) n.crash) (sym read) (need-shown s marks needs place need are there).0.reached

  pub need-fits : (all : Trace) → all ≡ s.all → length all.events ≤ 128 → All (λ x. x < 4294967295) need.crash.order
  need-fits all is_all few =
      reached-fit s is (without need.thing marks) need.crash (let e = ap (λ (t : Trace). length t.events) is_all in omega (arith, e, few)) reached

  pub line-shown : (t : Trace) (event : ℕ) (crash : Crash) → HasEvents s.litmus kept t
      → ((litmus : Test) → AreSyncs kept → AreInOrder litmus.body kept → HasEvents litmus kept t → IsSiteEvent t.events kept place event)
      → crash ≡ crash_raised event need.crash → IsNeedAt s.litmus s.model kept place (record { event = event; crash = crash })
  line-shown t event crash resolved found raised =
      let left : sites_present s.sites (without need.thing marks) ≡ without_one place kept =
      subst (λ (n : Need). sites_present s.sites (without n.thing marks) ≡ without_one place (sites_present s.sites marks)) (sym read) (need-shown s marks needs place need are there).1
      ∙ ap (without_one place) (sym same) in
      record {
        trace = t;
        resolved = resolved;
        event = found s.litmus (subst AreSyncs (sym same) (syncs-present s.sites marks is.syncs))
            (subst (AreInOrder s.litmus.body) (sym same) (present-order s.litmus.body s.sites marks is.in_order)) resolved;
        crash = need.crash;
        shown = subst (λ (l : List Site). Reaches s.litmus s.model l need.crash) left reached;
        numbered = raised;
      }

pub lines-none : (s : Setting) (kept : List Site) → AreLines s kept 0 []
lines-none s kept = record { counted = refl; each = λ i line at. absurd (let there = slice_get_within {A = NeedLine} [] i line at in omega (arith, there)) }

pub lines-next : (s : Setting) (kept : List Site) (count : ℕ) (lines more : List NeedLine) (line : NeedLine) → AreLines s kept count lines → IsNeedAt s.litmus s.model kept count line
    → more ≡ lines ++ line ∷ [] → AreLines s kept (count + 1) more
lines-next s kept count lines more line are is pushed = record {
  counted = let n = are.counted in let m = length-append lines (line ∷ []) in let e = ap (λ (l : List NeedLine). length l) pushed in omega (arith, n, m, e);
  each = λ i other at.
      let here : slice_get (lines ++ line ∷ []) i ≡ Some other = ap (λ (l : List NeedLine). slice_get l i) (sym pushed) ∙ at in
      let within = slice_get_within (lines ++ line ∷ []) i other here in
      let m = length-append lines (line ∷ []) in
      elim (cases_lt i (length lines)) [
        | inl early ↦ are.each i other (sym (slice_left lines (line ∷ []) i early) ∙ here)
        | inr late ↦
            let last : i ≡ length lines = omega (arith, late, within, m) in
            let found : Some line ≡ Some other = sym (slice_right lines (line ∷ []) 0 i (omega (arith, last))) ∙ here in
            let same : line ≡ other = cc in
            let count_is = are.counted in
            let place : count ≡ i = omega (arith, count_is, last) in
            subst (λ (n : ℕ). IsNeedAt s.litmus s.model kept n other) place (subst (λ (l : NeedLine). IsNeedAt s.litmus s.model kept count l) same is)
      ];
}

pub lines-all : (s : Setting) (kept : List Site) (marks : List Bool) (same : kept ≡ sites_present s.sites marks) (needs : List Need) (are : AreNeedsOf s marks needs)
    (count : ℕ) (lines : List NeedLine) → count ≡ length needs → AreLines s kept count lines → AreNeeds s.litmus s.model kept lines
lines-all s kept marks same needs are count lines end done = record {
  counted =
      let sites = present-count 0 s.sites marks are.full in
      let things = ap (λ (l : List ℕ). length l) are.things in
      let mapped = length-map needs (λ (n : Need). n.thing) in
      let size = ap (λ (l : List Site). length l) same in
      let n = done.counted in
      omega (arith, sites, things, mapped, size, n, end);
  each = done.each;
}
