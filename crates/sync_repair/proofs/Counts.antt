-- A test has no more sites than events.
use Rattle.std.proofs.Common.{◌≡◌, ℕ, zero, suc, ◌+◌, ◌-◌, ◌<◌, ◌≤◌, List, length, Some, inl, inr, ap, get_or, arith}
use Rattle.std.specs.Prelude.{slice_get}
use Rattle.std.proofs.lemmas.Option.{slice_get_within, get_or_from_slice_get, slice_get-get_or, slice_get_cases}
use Rattle.std.proofs.lemmas.Bool.{cases_lt}
use Rattle.litmus_syntax.specs.Test.{Test}
use Rattle.litmus_syntax.specs.declared.site.Site.{Site}
use Rattle.litmus_syntax.specs.Sites.{AreSyncs}
use Rattle.fer_events.specs.declared.event.Event.{Event}
use Rattle.fer_events.specs.Tables.{Trace, IsTrace}
use Rattle.call_events.specs.Resolved.{HasEvents}
use Rattle.sync_parts.specs.Sites.{AreInOrder, IsSiteEvent}
use Rattle.sync_parts.proofs.SiteCalls.{site-there}

module _ (litmus : Test) (sites : List Site) (t : Trace) (order : AreInOrder litmus.body sites) (rules : IsTrace t) where
  -- calls never fall
  calls : (s r : ℕ) (d : Event) → 0 < s → s ≤ r → r ≤ length t.events → (get_or t.events (s - 1) d).call ≤ (get_or t.events (r - 1) d).call
  calls s r d pos l within = rules.calls_rise (s - 1) (r - 1) d (omega (arith, l)) (omega (arith, within, pos, l))

  -- of two sites the later one has the later event
  later : (s r i j : ℕ) (a : IsSiteEvent t.events sites i s) (b : IsSiteEvent t.events sites j r) → i < j → s < r
  later s r i j a b l = elim (cases_lt s r) [
    | inl less ↦ less
    | inr more ↦
        let rise = order.rise i j b.site (omega (arith, l)) (slice_get_within sites j b.site b.at) in
        let sa = ap (λ (x : Site). x.after) (get_or_from_slice_get sites i a.site b.site a.at) in
        let sb = ap (λ (x : Site). x.after) (get_or_from_slice_get sites j b.site b.site b.at) in
        let ea = ap (λ (x : Event). x.call) (get_or_from_slice_get t.events (s - 1) a.event b.event a.is.1) in
        let eb = ap (λ (x : Event). x.call) (get_or_from_slice_get t.events (r - 1) b.event b.event b.is.1) in
        let within = slice_get_within t.events (s - 1) a.event a.is.1 in
        let up = calls r s b.event b.is.0 more (omega (arith, within, a.is.0)) in
        let ca = a.call in
        let cb = b.call in
        absurd (omega (arith, l, rise, sa, sb, ea, eb, up, ca, cb))
  ]

  module _ (syncs : AreSyncs sites) (h : HasEvents litmus sites t) where
    -- so many sites stand before it, and each has an event
    above : (i : ℕ) (site : Site) → slice_get sites i ≡ Some site → (s : ℕ) × IsSiteEvent t.events sites i s × (i < s)
    above zero site at = let found = site-there litmus sites t 0 syncs order h site at in (found.0, found.1, found.1.is.0)
    above (suc i) site at =
        let found = site-there litmus sites t (suc i) syncs order h site at in
        let within = slice_get_within sites (suc i) site at in
        let rest = above i (get_or sites i site) (slice_get-get_or sites i site (omega (arith, within))) in
        let more = later rest.0 found.0 i (suc i) rest.1 found.1 (omega arith) in
        let low = rest.2 in
        (found.0, found.1, omega (arith, low, more))

    pub few-sites : length sites ≤ 128
    few-sites = elim (slice_get_cases sites (length sites - 1)).1 [
      | inl (site, within, at, _) ↦
          let found = above (length sites - 1) site at in
          let there = slice_get_within t.events (found.0 - 1) found.1.event found.1.is.1 in
          let few = rules.few_events in
          let low = found.2 in
          omega (arith, within, there, few, low)
      | inr (past, _) ↦ omega (arith, past)
    ]
