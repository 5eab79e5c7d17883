-- A question about a test with some sites, asked of the test with all of them.
use Rattle.std.proofs.Common.{◌≡◌, ◌↔◌, ℕ, ◌-◌, ◌<◌, ◌≤◌, List, [], ◌∷◌, length, take, All, Contains, Bool, true, false, ◌&&◌, IsTrue, Some, Ok, inl, inr, refl, sym, ◌∙◌, ap, subst, arith}
use Rattle.std.specs.Prelude.{Result}
use Rattle.std.proofs.lemmas.List.Elements.{All-nil, All-cons, All-head, All-tail, All-contains, All-contains_itself, All-weaker}
use Rattle.litmus_syntax.specs.Test.{Test}
use Rattle.litmus_syntax.specs.declared.pred.Pred.{Pred}
use Rattle.litmus_syntax.specs.declared.site.Site.{Site}
use Rattle.litmus_syntax.specs.CallKinds.{is_sync}
use Rattle.litmus_syntax.specs.Forms.{is_formed_call}
use Rattle.litmus_syntax.specs.Transactions.{calls_of, is_open}
use Rattle.litmus_syntax.specs.Sites.{AreSyncs, StandOutside}
use Rattle.fer_events.specs.declared.event.Event.{Event}
use Rattle.fer_events.specs.declared.event.Crash.{Crash}
use Rattle.fer_events.specs.Orders.{IsEvent, StandsBefore, AreForward}
use Rattle.fer_events.specs.Pairs.{PairList}
use Rattle.fer_events.specs.Lifting.{lifted, lifted_pairs, AreLifted}
use Rattle.fer_events.specs.Tables.{Trace}
use Rattle.fer_events.specs.Witness.{IsWitness}
use Rattle.fer_events.proofs.PairLaws.{has_self}
use Rattle.call_events.specs.declared.call_kind.CallFault.{CallFault}
use Rattle.call_events.specs.Resolved.{HasEvents}
use Rattle.model_reader.specs.declared.model.Model.{Model}
use Rattle.event_relations.specs.Kept.{IsKept}
use Rattle.event_relations.specs.Parts.{IsPart}
use Rattle.event_relations.proofs.Within.{has_contained, kept_within}
use Rattle.event_relations.proofs.Growing.{kept_grows}
use Rattle.sync_parts.specs.Parts.{crash_without}
use Rattle.sync_parts.specs.Without.{IsRenumbered, IsWithout, ArePairsOf, KeepsAll, KeepsCalls}
use Rattle.sync_parts.specs.Sites.{AreSome, sites_present, places_present, IsPartOf}
use Rattle.sync_parts.specs.Reaching.{Reaches, IsReachable}
use Rattle.sync_parts.proofs.Members.{Contains-from_map}
use Rattle.sync_parts.proofs.Leaving.{event-number, has-event, lift-stays, stands}
use Rattle.sync_parts.proofs.Among.{keeps-lifted}
use Rattle.sync_parts.proofs.Witnesses.{witness-without, same-witnesses}
use Rattle.sync_parts.proofs.Tests.{left-present, left-test}

-- events of the small list stand in the large one, in the same order
pub lifted-less : (places : List ℕ) (large small : List Event) → IsWithout places large small → (a b : ℕ) → 0 < a → a < b → b ≤ length small → lifted places a < lifted places b
lifted-less places large small w a b pos l h = w.ascending (a - 1) (b - 1) 0 (omega arith) (omega (arith, w.each))

pub lifted-within : (places : List ℕ) (large small : List Event) → IsWithout places large small → (a : ℕ) → 0 < a → a ≤ length small → (0 < lifted places a) × (lifted places a ≤ length large)
lifted-within places large small w a pos h = All-contains (λ x. (0 < x) × (x ≤ length large)) places (lifted places a) w.within (lift-stays places large small w a pos h)

pub lifted-event : (places : List ℕ) (large small : List Event) → IsWithout places large small → (a : ℕ) (e : Event) → IsEvent small a e
    → (f : Event) × IsEvent large (lifted places a) f × IsRenumbered e f
lifted-event places large small w a e at =
    let range = event-number small a e at in
    let within = lifted-within places large small w a range.0 range.1 in
    let found = has-event large (lifted places a) within.0 within.1 in
    (found.0, found.1, w.alike a e found.0 at found.1)

same-event : (events : List Event) (a : ℕ) (e f : Event) → IsEvent events a e → IsEvent events a f → e ≡ f
same-event events a e f at_e at_f = let same : Some e ≡ Some f = sym at_e.1 ∙ at_f.1 in cc

-- so they are a part of it, as models see parts
pub part-of : (places : List ℕ) (large small : List Event) → IsWithout places large small → KeepsCalls places large small → IsPart small large (lifted places)
part-of places large small w calls = record {
  rises = λ a b some l there. lifted-less places large small w a b (omega (arith, some)) l there;
  there = λ a e at.
      let found = lifted-event places large small w a e at in
      let same = found.2 in (
        found.0,
        found.1,
        record {
          kind = ap (λ (v : Event). v.kind) same;
          file = ap (λ (v : Event). v.file) same;
          block = ap (λ (v : Event). v.block) same;
          dir = ap (λ (v : Event). v.dir) same;
          slot = ap (λ (v : Event). v.slot) same;
        },
      );
  calls = λ a b e f g h at_e at_f at_g at_h same.
      let t = (calls a b at_e.0 at_f.0).0 (e, f, at_e, at_f, same) in
      ap (λ (v : Event). v.call) (same-event large (lifted places a) g t.0 at_g t.2) ∙ t.4 ∙ ap (λ (v : Event). v.call) (same-event large (lifted places b) t.1 h t.3 at_h);
  txns = λ a b e f g h at_e at_f at_g at_h same.
      let t = (w.together a b at_e.0 at_f.0).0 (e, f, at_e, at_f, same) in
      ap (λ (v : Event). v.txn) (same-event large (lifted places a) g t.0 at_g t.2) ∙ t.4 ∙ ap (λ (v : Event). v.txn) (same-event large (lifted places b) t.1 h t.3 at_h);
}

no-pairs : (places : List ℕ) → KeepsAll places [] []
no-pairs places a b h = let l = h.1 in absurd (omega (arith, l))

no-pairs_of : (n : ℕ) → ArePairsOf n []
no-pairs_of n a b h = let l = h.1 in absurd (omega (arith, l))

-- a crash that keeps what the model keeps of all events keeps, of those that stay, what the model keeps of these
pub keeps-without :
    (model : Model) (places : List ℕ) (large small : List Event) (order : List ℕ) → IsWithout places large small → KeepsCalls places large small
    → ((a b : ℕ) → IsKept model large a b → StandsBefore order a b)
    → (crash : Crash) → crash.order ≡ order → (a b : ℕ) → IsKept model small a b → StandsBefore (crash_without places crash).order a b
keeps-without model places large small order w calls keeps crash is a b kept =
    let within = kept_within model small a b kept in
    let many = kept_grows model small large (lifted places) (part-of places large small w calls) a b kept in
    stands places large small w crash.order a b (omega (arith, within.0)) (omega (arith, within.1, within.2)) (omega (arith, within.0, within.1)) within.2
    (rw is (keeps (lifted places a) (lifted places b) many))

pub reach-without :
    (litmus : Test) (model : Model) (few : List Site) (t : Trace) (small : List Event) (places : List ℕ) (crash : Crash)
    → HasEvents litmus few (record t { events = small }) → IsWithout places t.events small → KeepsCalls places t.events small
    → IsWitness t [] litmus.pred litmus.want crash → ((a b : ℕ) → IsKept model t.events a b → StandsBefore crash.order a b)
    → Reaches litmus model few (crash_without places crash)
reach-without litmus model few t small places crash h w calls answers keeps = record {
  trace = record t { events = small };
  resolved = h;
  answers = witness-without places t small [] [] litmus.pred litmus.want crash w (no-pairs_of (length small)) (no-pairs places) answers;
  keeps = keeps-without model places t.events small crash.order w calls keeps crash refl;
}

-- fewer syncs, more crashes
pub fewer-reach : (litmus : Test) (model : Model) (few many : List Site) (crash : Crash) → AreSyncs many → StandOutside litmus.body many → AreSome few many
    → Reaches litmus model many crash → IsReachable litmus model few
fewer-reach litmus model few many crash syncs outside some r =
    let left = left-test litmus few many r.trace syncs outside some r.resolved in
    (crash_without left.2.0 crash, reach-without litmus model few r.trace left.0 left.2.0 crash left.1 left.2.1 left.2.2 r.answers r.keeps)

-- what holds of all sites holds of those that are present
pub all-present : (P : Site → Type 0) (sites : List Site) (present : List Bool) → All P sites → All P (sites_present sites present)
all-present P [] present all = All-nil P
all-present P (site ∷ sites) [] all = All-nil P
all-present P (site ∷ sites) (true ∷ present) all = All-cons P site (sites_present sites present) (All-head P site sites all) (all-present P sites present (All-tail P site sites all))
all-present P (site ∷ sites) (false ∷ present) all = all-present P sites present (All-tail P site sites all)

-- a part of the present sites is some of them
pub present-some : (sites : List Site) (from to : List Bool) → IsPartOf to from → AreSome (sites_present sites to) (sites_present sites from)
present-some [] from to part = refl
present-some (site ∷ sites) [] [] part = refl
present-some (site ∷ sites) (m ∷ from) [] part = absurd part
present-some (site ∷ sites) [] (t ∷ to) part = absurd part
present-some (site ∷ sites) (true ∷ from) (true ∷ to) part = inl (sites_present sites to, refl, present-some sites from to part.1)
present-some (site ∷ sites) (true ∷ from) (false ∷ to) part = inr (present-some sites from to part.1)
present-some (site ∷ sites) (false ∷ from) (true ∷ to) part = absurd (let bad : false ≡ true = part.0 refl in cc)
present-some (site ∷ sites) (false ∷ from) (false ∷ to) part = present-some sites from to part.1

pub syncs-present : (sites : List Site) (present : List Bool) → AreSyncs sites → AreSyncs (sites_present sites present)
syncs-present sites present syncs = all-present (λ site. IsTrue (is_sync site.call && is_formed_call site.call)) sites present syncs

pub outside-present : (litmus : Test) (sites : List Site) (present : List Bool) → StandOutside litmus.body sites → StandOutside litmus.body (sites_present sites present)
outside-present litmus sites present outside = all-present (λ site. is_open (take site.after (calls_of litmus.body)) ≡ false) sites present outside

pub part-reach : (litmus : Test) (model : Model) (sites : List Site) (from to : List Bool) → AreSyncs sites → StandOutside litmus.body sites → IsPartOf to from
    → IsReachable litmus model (sites_present sites from) → IsReachable litmus model (sites_present sites to)
part-reach litmus model sites from to syncs outside part found =
    fewer-reach litmus model (sites_present sites to) (sites_present sites from) found.0 (syncs-present sites from syncs) (outside-present litmus sites from outside)
    (present-some sites from to part) found.1

pub one-trace : (litmus : Test) (sites : List Site) (t u : Trace) → HasEvents litmus sites t → HasEvents litmus sites u → t ≡ u
one-trace litmus sites t u first second = let same : ◌≡◌ {A = Result Trace CallFault} (Ok t) (Ok u) = sym first ∙ second in cc

-- the list has exactly the pairs that the model keeps
abbrev pub IsKeptList : Model → List Event → List (ℕ × ℕ) → Type 0
IsKeptList model events kept = (a b : ℕ) → Contains kept (a, b) ↔ IsKept model events a b

pub kept-pairs : (model : Model) (events : List Event) (kept : List (ℕ × ℕ)) → IsKeptList model events kept → ArePairsOf (length events) kept
kept-pairs model events kept exact a b h =
    let within = kept_within model events a b ((exact a b).0 h) in
    (omega (arith, within.0), omega (arith, within.1, within.2), omega (arith, within.0, within.1), within.2)

-- a witness under other pairs
pub other-pairs : (t : Trace) (kept others : List (ℕ × ℕ)) (pred : Pred) (want : Bool) (crash : Crash)
    → IsWitness t kept pred want crash → ((a b : ℕ) → Contains others (a, b) → StandsBefore crash.order a b) → IsWitness t others pred want crash
other-pairs t kept others pred want crash w keeps = record {
  crashes = record { valid = record { permutes = w.crashes.valid.permutes; keeps = keeps }; within = w.crashes.within; whole = w.crashes.whole };
  answers = w.answers;
}

pub kept-reaches : (litmus : Test) (model : Model) (sites : List Site) (t : Trace) (kept : List (ℕ × ℕ)) (crash : Crash)
    → HasEvents litmus sites t → IsKeptList model t.events kept → IsWitness t kept litmus.pred litmus.want crash → Reaches litmus model sites crash
kept-reaches litmus model sites t kept crash h exact w = record {
  trace = t;
  resolved = h;
  answers = other-pairs t kept [] litmus.pred litmus.want crash w (λ a b c. let l = c.1 in absurd (omega (arith, l)));
  keeps = λ a b k. w.crashes.valid.keeps a b ((exact a b).1 k);
}

pub reaches-kept : (litmus : Test) (model : Model) (sites : List Site) (t : Trace) (kept : List (ℕ × ℕ)) (crash : Crash)
    → HasEvents litmus sites t → IsKeptList model t.events kept → Reaches litmus model sites crash → IsWitness t kept litmus.pred litmus.want crash
reaches-kept litmus model sites t kept crash h exact r =
    let same : r.trace ≡ t = one-trace litmus sites r.trace t r.resolved h in
    let answers : IsWitness t [] litmus.pred litmus.want crash = subst (λ (u : Trace). IsWitness u [] litmus.pred litmus.want crash) same r.answers in
    let keeps : (a b : ℕ) → IsKept model t.events a b → StandsBefore crash.order a b =
    subst (λ (u : Trace). (a b : ℕ) → IsKept model u.events a b → StandsBefore crash.order a b) same r.keeps in
    other-pairs t [] kept litmus.pred litmus.want crash answers (λ a b c. keeps a b ((exact a b).0 c))

-- the events of some sites, as those of all without some syncs
pub present-without : (litmus : Test) (sites : List Site) (present : List Bool) (t u : Trace) → AreSyncs sites → StandOutside litmus.body sites → HasEvents litmus sites t
    → HasEvents litmus (sites_present sites present) u
    → (record t { events = u.events } ≡ u) × IsWithout (places_present litmus.body sites present t.events) t.events u.events
    × KeepsCalls (places_present litmus.body sites present t.events) t.events u.events
present-without litmus sites present t u syncs outside all some =
    let left = left-present litmus sites present t syncs outside all in
    let same : record t { events = left.0 } ≡ u = one-trace litmus (sites_present sites present) (record t { events = left.0 }) u left.1 some in
    let events : left.0 ≡ u.events = ap (λ (v : Trace). v.events) same in
    let places : List ℕ = places_present litmus.body sites present t.events in (
      ap (λ (l : List Event). record t { events = l }) (sym events) ∙ same,
      subst (λ (l : List Event). IsWithout places t.events l) events left.2.0,
      subst (λ (l : List Event). KeepsCalls places t.events l) events left.2.1,
    )

module _ (n : ℕ) (places : List ℕ) (kept large : PairList) (is : AreLifted places n kept large) where
  pub from-large : (a b : ℕ) → Contains large.pairs (a, b) → Contains (lifted_pairs places kept.pairs) (a, b)
  from-large a b h = has_contained (lifted_pairs places kept.pairs) a b (sym (is.exactly a b) ∙ has_self large.pairs (a, b) h)

  pub to-large : (a b : ℕ) → Contains (lifted_pairs places kept.pairs) (a, b) → Contains large.pairs (a, b)
  to-large a b h = has_contained large.pairs a b (is.exactly a b ∙ has_self (lifted_pairs places kept.pairs) (a, b) h)

-- one list of pairs over the events with all sites answers for those that are present
module _ (litmus : Test) (model : Model) (sites : List Site) (present : List Bool) (t u : Trace) (kept large : PairList)
    (syncs : AreSyncs sites) (outside : StandOutside litmus.body sites) (all : HasEvents litmus sites t) (some : HasEvents litmus (sites_present sites present) u)
    (exact : IsKeptList model u.events kept.pairs) (is : AreLifted (places_present litmus.body sites present t.events) (length t.events) kept large) where
  abbrev places : List ℕ
  places = places_present litmus.body sites present t.events

  pub list-forth : (crash : Crash) → IsWitness t large.pairs litmus.pred litmus.want crash → Reaches litmus model (sites_present sites present) (crash_without places crash)
  list-forth crash w =
      let part = present-without litmus sites present t u syncs outside all some in
      let keeps : KeepsAll places kept.pairs large.pairs = λ a b h. to-large (length t.events) places kept large is (lifted places a) (lifted places b) (keeps-lifted places t.events u.events part.1 kept.pairs a b h) in
      let here : IsWitness (record t { events = u.events }) kept.pairs litmus.pred litmus.want (crash_without places crash) =
      witness-without places t u.events large.pairs kept.pairs litmus.pred litmus.want crash part.1 (kept-pairs model u.events kept.pairs exact) keeps w in
      kept-reaches litmus model (sites_present sites present) u kept.pairs (crash_without places crash) some exact
      (subst (λ (v : Trace). IsWitness v kept.pairs litmus.pred litmus.want (crash_without places crash)) part.0 here)

  pub list-back : (less : Crash) → Reaches litmus model (sites_present sites present) less → (crash : Crash) × IsWitness t large.pairs litmus.pred litmus.want crash
  list-back less r =
      let part = present-without litmus sites present t u syncs outside all some in
      let there : IsWitness u kept.pairs litmus.pred litmus.want less = reaches-kept litmus model (sites_present sites present) u kept.pairs less some exact r in
      let here : IsWitness (record t { events = u.events }) kept.pairs litmus.pred litmus.want less =
      subst (λ (v : Trace). IsWitness v kept.pairs litmus.pred litmus.want less) (sym part.0) there in
      let more = (same-witnesses places t u.events kept.pairs litmus.pred litmus.want part.1 (kept-pairs model u.events kept.pairs exact)).0 (less, here) in (
        more.0,
        other-pairs t (lifted_pairs places kept.pairs) large.pairs litmus.pred litmus.want more.0 more.1
            (λ a b h. more.1.crashes.valid.keeps a b (from-large (length t.events) places kept large is a b h)),
      )

  forward-pair : AreForward (length u.events) kept.pairs → (p : ℕ × ℕ) → Contains large.pairs p → (1 ≤ p.0) × (p.0 < p.1) × (p.1 ≤ length t.events)
  forward-pair forward p h =
      let part = present-without litmus sites present t u syncs outside all some in
      let found = Contains-from_map (λ (q : ℕ × ℕ). (lifted places q.0, lifted places q.1)) kept.pairs p (from-large (length t.events) places kept large is p.0 p.1 h) in
      let ahead = All-contains (λ (q : ℕ × ℕ). (1 ≤ q.0) × (q.0 < q.1) × (q.1 ≤ length u.events)) kept.pairs found.0 forward found.1 in
      let first : lifted places found.0.0 ≡ p.0 = ap (λ (q : ℕ × ℕ). q.0) found.2 in
      let second : lifted places found.0.1 ≡ p.1 = ap (λ (q : ℕ × ℕ). q.1) found.2 in
      let one = lifted-within places t.events u.events part.1 found.0.0 (omega (arith, ahead.0)) (omega (arith, ahead.1, ahead.2)) in
      let two = lifted-within places t.events u.events part.1 found.0.1 (omega (arith, ahead.0, ahead.1)) ahead.2 in
      let apart = lifted-less places t.events u.events part.1 found.0.0 found.0.1 (omega (arith, ahead.0)) ahead.1 ahead.2 in
      (omega (arith, one.0, first), omega (arith, apart, first, second), omega (arith, two.1, second))

  pub list-forward : AreForward (length u.events) kept.pairs → AreForward (length t.events) large.pairs
  list-forward forward =
      All-weaker (Contains large.pairs) (λ p. (1 ≤ p.0) × (p.0 < p.1) × (p.1 ≤ length t.events)) (λ p h. forward-pair forward p h) large.pairs (All-contains_itself large.pairs)
