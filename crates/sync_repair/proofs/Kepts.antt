-- What holds of the pairs that are kept with some of the sites.
use Rattle.std.proofs.Common.{◌≡◌, ◌↔◌, ℕ, ◌<◌, ◌≤◌, Bool, true, false, List, length, filter, map, All, AllPairs, Contains, refl, sym, ◌∙◌, ap, subst, arith}
use Rattle.std.proofs.lemmas.List.Elements.{All-contains_itself, All-weaker}
use Rattle.litmus_syntax.specs.Test.{Test}
use Rattle.litmus_syntax.specs.declared.site.Site.{Site}
use Rattle.litmus_syntax.specs.Sites.{AreSyncs, StandOutside}
use Rattle.fer_events.specs.declared.event.Event.{Event}
use Rattle.fer_events.specs.declared.event.Crash.{Crash}
use Rattle.fer_events.specs.Orders.{AreForward}
use Rattle.fer_events.specs.Pairs.{PairList, IsListed, has_pair, square}
use Rattle.fer_events.specs.Lifting.{AreLifted}
use Rattle.fer_events.specs.Tables.{Trace}
use Rattle.fer_events.specs.Witness.{IsWitness}
use Rattle.fer_events.proofs.PairLaws.{has_self, has_only}
use Rattle.call_events.specs.Resolved.{HasEvents}
use Rattle.model_reader.specs.declared.model.Model.{Model}
use Rattle.event_relations.specs.Kept.{IsKept}
use Rattle.event_relations.proofs.Within.{kept_within}
use Rattle.sync_parts.specs.Parts.{crash_without}
use Rattle.sync_parts.specs.Sites.{sites_present, places_present}
use Rattle.sync_parts.specs.Reaching.{Reaches, IsReachable}
use Rattle.sync_parts.proofs.Members.{filter-same}
use Rattle.sync_parts.proofs.Reached.{list-forth, list-back, list-forward, one-trace, syncs-present, outside-present, present-without}
use Rattle.sync_parts.proofs.Tests.{left-present}
use Rattle.sync_repair.specs.Sets.{AreKept, AreKeptWith}

same-test : (b c : Bool) → (b ≡ true → c ≡ true) → (c ≡ true → b ≡ true) → b ≡ c
same-test true true f g = refl
same-test true false f g = sym (f refl)
same-test false true f g = g refl
same-test false false f g = refl

-- two lists of pairs that have the same ones are one
same-lists : (p q : PairList) → p.n ≡ q.n → IsListed p → IsListed q → ((a b : ℕ) → has_pair p.pairs a b ≡ has_pair q.pairs a b) → p ≡ q
same-lists p q counts first second same =
    let filtered : filter (λ (x : ℕ × ℕ). has_pair p.pairs x.0 x.1) (square p.n) ≡ filter (λ (x : ℕ × ℕ). has_pair q.pairs x.0 x.1) (square q.n) =
    filter-same (λ (x : ℕ × ℕ). has_pair p.pairs x.0 x.1) (λ (x : ℕ × ℕ). has_pair q.pairs x.0 x.1) (square p.n) (λ x h. same x.0 x.1)
    ∙ ap (λ (n : ℕ). filter (λ (x : ℕ × ℕ). has_pair q.pairs x.0 x.1) (square n)) counts in
    let pairs : p.pairs ≡ q.pairs = first ∙ filtered ∙ sym second in
    ap (λ (l : List (ℕ × ℕ)). record p { pairs = l }) pairs ∙ ap (λ (n : ℕ). record q { n = n }) counts

-- a model keeps one list of pairs of some events
one-kept : (model : Model) (events : List Event) (p q : PairList) → AreKept model events p → AreKept model events q → p ≡ q
one-kept model events p q first second =
    same-lists p q (first.counted ∙ sym second.counted) first.listed second.listed
    (λ a b. same-test (has_pair p.pairs a b) (has_pair q.pairs a b)
    (λ h. has_self q.pairs (a, b) ((second.exactly a b).1 ((first.exactly a b).0 (has_only p.pairs a b h))))
    (λ h. has_self p.pairs (a, b) ((first.exactly a b).1 ((second.exactly a b).0 (has_only q.pairs a b h)))))

one-lifted : (places : List ℕ) (n : ℕ) (small p q : PairList) → AreLifted places n small p → AreLifted places n small q → p ≡ q
one-lifted places n small p q first second =
    same-lists p q (first.counted ∙ sym second.counted) first.listed second.listed (λ a b. first.exactly a b ∙ sym (second.exactly a b))

module _ (litmus : Test) (model : Model) (sites : List Site) (set : List Bool) (all : Trace) where
  pub one-list : (p q : PairList) → AreKeptWith litmus model sites set all p → AreKeptWith litmus model sites set all q → p ≡ q
  one-list p q first second =
      let trace : first.trace ≡ second.trace = one-trace litmus (sites_present sites set) first.trace second.trace first.resolved second.resolved in
      let kept : AreKept model second.trace.events first.some = subst (λ (t : Trace). AreKept model t.events first.some) trace first.kept in
      let some : first.some ≡ second.some = one-kept model second.trace.events first.some second.some kept second.kept in
      let places : List ℕ = places_present litmus.body sites set all.events in
      one-lifted places (length all.events) second.some p q
      (subst (λ (l : PairList). AreLifted places (length all.events) l p) some first.lifted) second.lifted

  module _ (syncs : AreSyncs sites) (outside : StandOutside litmus.body sites) (resolved : HasEvents litmus sites all)
      (pairs : PairList) (kept : AreKeptWith litmus model sites set all pairs) where
    -- a crash of all events that keeps the pairs, without the events of the sites that aren't in the set
    pub kept-forth : (crash : Crash) → IsWitness all pairs.pairs litmus.pred litmus.want crash
        → Reaches litmus model (sites_present sites set) (crash_without (places_present litmus.body sites set all.events) crash)
    kept-forth crash w = list-forth litmus model sites set all kept.trace kept.some pairs syncs outside resolved kept.resolved kept.kept.exactly kept.lifted crash w

    pub kept-back : (less : Crash) → Reaches litmus model (sites_present sites set) less → (crash : Crash) × IsWitness all pairs.pairs litmus.pred litmus.want crash
    kept-back less r = list-back litmus model sites set all kept.trace kept.some pairs syncs outside resolved kept.resolved kept.kept.exactly kept.lifted less r

    some-forward : AreForward (length kept.trace.events) kept.some.pairs
    some-forward =
        All-weaker (Contains kept.some.pairs) (λ p. (1 ≤ p.0) × (p.0 < p.1) × (p.1 ≤ length kept.trace.events))
        (λ p h. kept_within model kept.trace.events p.0 p.1 ((kept.kept.exactly p.0 p.1).0 h)) kept.some.pairs (All-contains_itself kept.some.pairs)

    pub kept-forward : AreForward (length all.events) pairs.pairs
    kept-forward = list-forward litmus model sites set all kept.trace kept.some pairs syncs outside resolved kept.resolved kept.kept.exactly kept.lifted some-forward

    pub kept-reached : ((crash : Crash) × IsWitness all pairs.pairs litmus.pred litmus.want crash) ↔ IsReachable litmus model (sites_present sites set)
    kept-reached = (
      λ (crash, w). (crash_without (places_present litmus.body sites set all.events) crash, kept-forth crash w),
      λ (less, r). kept-back less r,
    )

-- the sites that are present are syncs outside of transactions too, and the test has events with them
pub some-syncs : (sites some : List Site) (set : List Bool) → some ≡ sites_present sites set → AreSyncs sites → AreSyncs some
some-syncs sites some set same syncs = subst AreSyncs (sym same) (syncs-present sites set syncs)

pub some-outside : (litmus : Test) (sites some : List Site) (set : List Bool) → some ≡ sites_present sites set → StandOutside litmus.body sites → StandOutside litmus.body some
some-outside litmus sites some set same outside = subst (λ (l : List Site). StandOutside litmus.body l) (sym same) (outside-present litmus sites set outside)

pub some-resolved : (litmus : Test) (sites some : List Site) (set : List Bool) (t : Trace) → some ≡ sites_present sites set → AreSyncs sites → StandOutside litmus.body sites → HasEvents litmus sites t
    → (u : Trace) × HasEvents litmus some u
some-resolved litmus sites some set t same syncs outside resolved =
    let left = left-present litmus sites set t syncs outside resolved in
    (record t { events = left.0 }, subst (λ (l : List Site). HasEvents litmus l (record t { events = left.0 })) (sym same) left.1)

-- there are as many places as events
pub some-counted : (litmus : Test) (sites some : List Site) (set : List Bool) (t u : Trace) → some ≡ sites_present sites set → AreSyncs sites → StandOutside litmus.body sites → HasEvents litmus sites t
    → HasEvents litmus some u → length u.events ≡ length (places_present litmus.body sites set t.events)
some-counted litmus sites some set t u same syncs outside resolved here =
    (present-without litmus sites set t u syncs outside resolved (subst (λ (l : List Site). HasEvents litmus l u) same here)).1.each

-- places ascend, and are numbers of events
pub places-ascend : (litmus : Test) (sites : List Site) (set : List Bool) (t : Trace) (places : List ℕ) → AreSyncs sites → StandOutside litmus.body sites → HasEvents litmus sites t
    → places ≡ places_present litmus.body sites set t.events → AllPairs (λ x y. x < y) places
places-ascend litmus sites set t places syncs outside resolved same =
    subst (λ (l : List ℕ). AllPairs (λ x y. x < y) l) (sym same) (left-present litmus sites set t syncs outside resolved).2.0.ascending

pub places-few : (litmus : Test) (sites : List Site) (set : List Bool) (t : Trace) (places : List ℕ) → AreSyncs sites → StandOutside litmus.body sites → HasEvents litmus sites t
    → places ≡ places_present litmus.body sites set t.events → length t.events ≤ 128 → All (λ x. (1 ≤ x) × (x ≤ 128)) places
places-few litmus sites set t places syncs outside resolved same few =
    let within = (left-present litmus sites set t syncs outside resolved).2.0.within in
    subst (λ (l : List ℕ). All (λ x. (1 ≤ x) × (x ≤ 128)) l) (sym same)
    (All-weaker (λ x. (0 < x) × (x ≤ length t.events)) (λ x. (1 ≤ x) × (x ≤ 128)) (λ x h. let up = h.1 in let pos = h.0 in (omega (arith, pos), omega (arith, up, few)))
    (places_present litmus.body sites set t.events) within)
