-- From some sites to fewer: the events of the fewer, among those of the others.
use Rattle.std.proofs.Common.{◌≡◌, ℕ, zero, suc, ◌+◌, ◌-◌, ◌<◌, ◌≤◌, ◌==◌, inl, inr, Bool, true, false, cond, List, [], ◌∷◌, ◌++◌, length, get_or, filter, map, nat_le, Contains, refl, sym, ◌∙◌, ap, subst, arith}
use Rattle.std.specs.List.{All, AllPairs, AllZip}
use Rattle.std.proofs.lemmas.Bool.{cases_lt}
use Rattle.std.proofs.lemmas.Bool.Decides.{nat_tests}
use Rattle.std.proofs.lemmas.List.{get_or_past}
use Rattle.std.proofs.lemmas.List.Elements.{Contains-get_or, AllZip-get_or}
use Rattle.std.proofs.lemmas.List.Sums.{sum_by-cons}
use Rattle.std.proofs.lemmas.Grind.{get_or_default_zero}
use Rattle.litmus_syntax.specs.Test.{Test}
use Rattle.litmus_syntax.specs.declared.call.Step.{Step}
use Rattle.litmus_syntax.specs.declared.site.Site.{Site}
use Rattle.litmus_syntax.specs.Sites.{AreSyncs, StandOutside}
use Rattle.fer_events.specs.declared.event.Event.{Event}
use Rattle.fer_events.specs.declared.event.Effect.TheVariants.{Nothing}
use Rattle.fer_events.specs.declared.event.Crash.{Crash}
use Rattle.fer_events.specs.Orders.{IsEvent, SameTransaction}
use Rattle.fer_events.specs.Lifting.{lifted}
use Rattle.fer_events.specs.Tables.{Trace}
use Rattle.call_events.specs.Resolved.{HasEvents}
use Rattle.model_reader.specs.declared.model.Model.{Model}
use Rattle.sync_parts.specs.Parts.{stays, lowered, crash_without}
use Rattle.sync_parts.specs.Without.{IsRenumbered, IsWithout, KeepsCalls, places_between}
use Rattle.sync_parts.specs.Sites.{IsPartOf, sites_present, present_at, calls_present, call_stays, places_from, places_present}
use Rattle.sync_parts.specs.Reaching.{Reaches}
use Rattle.sync_parts.proofs.Members.{test-cases, Contains-map, Contains-head_is, Contains-tail, Contains-cons_cases, Contains-nil, map-same, length-mapped, filter-yes, filter-no}
use Rattle.sync_parts.proofs.Numbering.{stays-yes, stays-no, lowered-lifted, lifted-stays, lifted-lowered, lowered-within, number-of}
use Rattle.sync_parts.proofs.Leaving.{event-number}
use Rattle.sync_parts.proofs.Among.{fewer}
use Rattle.sync_parts.proofs.Joining.{Share, KeepsShared, lifted-past}
use Rattle.sync_parts.proofs.Reached.{lifted-event, reach-without, present-without}
use Rattle.sync_parts.proofs.Tests.{left-present}

-- what is in `few` is in `many`
abbrev IsLess : Bool → Bool → Type 0
IsLess f m = f ≡ true → m ≡ true

zip-append : (xs ys us vs : List Bool) → AllZip IsLess xs ys → AllZip IsLess us vs → AllZip IsLess (xs ++ us) (ys ++ vs)
zip-append [] [] us vs first second = second
zip-append [] (y ∷ ys) us vs first second = absurd first
zip-append (x ∷ xs) [] us vs first second = absurd first
zip-append (x ∷ xs) (y ∷ ys) us vs first second = (first.0, zip-append xs ys us vs first.1 second)

zip-chosen : (b f m : Bool) (xs ys : List Bool) → IsLess f m → AllZip IsLess xs ys → AllZip IsLess (cond b (f ∷ xs) xs) (cond b (m ∷ ys) ys)
zip-chosen true f m xs ys less zip = (less, zip)
zip-chosen false f m xs ys less zip = zip

less-behind : (number : ℕ) (sites : List Site) (to from : List Bool) → IsPartOf to from → AllZip IsLess (present_at number sites to) (present_at number sites from)
less-behind number [] to from part = tt
less-behind number (site ∷ sites) [] [] part = zip-chosen (site.after == number) false false (present_at number sites []) (present_at number sites []) (λ h. h) (less-behind number sites [] [] tt)
less-behind number (site ∷ sites) [] (m ∷ from) part = absurd part
less-behind number (site ∷ sites) (f ∷ to) [] part = absurd part
less-behind number (site ∷ sites) (f ∷ to) (m ∷ from) part =
    zip-chosen (site.after == number) f m (present_at number sites to) (present_at number sites from) part.0 (less-behind number sites to from part.1)

less-calls : (number : ℕ) (body : List Step) (sites : List Site) (to from : List Bool) → IsPartOf to from
    → AllZip IsLess (calls_present number body sites to) (calls_present number body sites from)
less-calls number [] sites to from part = tt
less-calls number (step ∷ body) sites to from part = (
  λ h. h,
  zip-append (present_at number sites to) (present_at number sites from) (calls_present (number + 1) body sites to) (calls_present (number + 1) body sites from)
      (less-behind number sites to from part) (less-calls (number + 1) body sites to from part),
)

zip-stays : (few many : List Bool) → AllZip IsLess few many → (call : ℕ) → call_stays few call ≡ true → call_stays many call ≡ true
zip-stays few many zip call h = elim (cases_lt (call - 1) (length few)) [
  | inl there ↦ AllZip-get_or IsLess few many (call - 1) false false zip there h
  | inr past ↦ let out = get_or_past few (call - 1) false past in (let bad : true ≡ false = sym h ∙ out in cc)
]

pub less-stays : (body : List Step) (sites : List Site) (to from : List Bool) → IsPartOf to from
    → (call : ℕ) → call_stays (calls_present 1 body sites to) call ≡ true → call_stays (calls_present 1 body sites from) call ≡ true
less-stays body sites to from part call h = zip-stays (calls_present 1 body sites to) (calls_present 1 body sites from) (less-calls 1 body sites to from part) call h

-- places from a number on aren't below it
places-above : (stay : ℕ → Bool) (low : ℕ) (es : List Event) (x : ℕ) → Contains (places_from low stay es) x → low ≤ x
places-above stay low [] x h = absurd (Contains-nil x h)
places-above stay low (e ∷ es) x h = elim (test-cases (stay e.call)) [
  | inl here ↦ elim (Contains-cons_cases low (places_from (low + 1) stay es) x (rw here at h)) [
    | inl is ↦ omega (arith, is)
    | inr later ↦ let more = places-above stay (low + 1) es x later in omega (arith, more)
  ]
  | inr out ↦ let more = places-above stay (low + 1) es x (rw out at h) in omega (arith, more)
]

-- of fewer calls fewer places
pub places-within : (to from : ℕ → Bool) → ((call : ℕ) → to call ≡ true → from call ≡ true) → (low : ℕ) (es : List Event) (x : ℕ)
    → Contains (places_from low to es) x → Contains (places_from low from es) x
places-within to from less low [] x h = h
places-within to from less low (e ∷ es) x h = elim (test-cases (to e.call)) [
  | inl here ↦
      let there : from e.call ≡ true = less e.call here in
      rw there (elim (Contains-cons_cases low (places_from (low + 1) to es) x (rw here at h)) [
        | inl is ↦ Contains-head_is low (places_from (low + 1) from es) x is
        | inr later ↦ Contains-tail low (places_from (low + 1) from es) x (places-within to from less (low + 1) es x later)
      ])
  | inr out ↦
      let more = places-within to from less (low + 1) es x (rw out at h) in
      elim (test-cases (from e.call)) [
        | inl there ↦ rw there (Contains-tail low (places_from (low + 1) from es) x more)
        | inr gone ↦ rw gone more
      ]
]

count-head : (x p : ℕ) (ps : List ℕ) → p ≤ x → lowered (p ∷ ps) x ≡ 1 + lowered ps x
count-head x p ps h = let bit : ◌≡◌ {A = ℕ} (cond (nat_le p x) 1 0) 1 = grind (arith, nat_tests) in sum_by-cons (λ q. cond {A = ℕ} (nat_le q x) 1 0) p ps ∙ ap (λ n. n + lowered ps x) bit

none-upto : (x : ℕ) (ps : List ℕ) → ((q : ℕ) → Contains ps q → x < q) → lowered ps x ≡ 0
none-upto x [] above = refl
none-upto x (q ∷ qs) above =
    let far : x < q = above q (Contains-head_is q qs q refl) in
    let bit : ◌≡◌ {A = ℕ} (cond (nat_le q x) 1 0) 0 = grind (arith, nat_tests) in
    sum_by-cons (λ y. cond {A = ℕ} (nat_le y x) 1 0) q qs ∙ ap (λ n. n + lowered qs x) bit
    ∙ (let rest = none-upto x qs (λ y h. above y (Contains-tail q qs y h)) in omega (arith, rest))

abbrev kept_by : (ℕ → Bool) → List Event → List Event
kept_by from es = filter (λ e. from e.call) es

-- the places among those that stay are the places among all, lowered
pub places-lowered : (to from : ℕ → Bool) → ((call : ℕ) → to call ≡ true → from call ≡ true) → (k low : ℕ) (es : List Event)
    → places_from (k + 1) to (kept_by from es) ≡ map (λ q. k + lowered (places_from low from es) q) (places_from low to es)
places-lowered to from less k low [] = refl
places-lowered to from less k low (e ∷ es) = elim (test-cases (from e.call)) [
  | inl there ↦
      let P : List ℕ = places_from (low + 1) from es in
      let Q : List ℕ = places_from (low + 1) to es in
      let keeps : kept_by from (e ∷ es) ≡ e ∷ kept_by from es = filter-yes (λ (f : Event). from f.call) e es there in
      let has : places_from low from (e ∷ es) ≡ low ∷ P = ap (λ (b : Bool). cond b (low ∷ P) P) there in
      let later : (q : ℕ) → Contains Q q → k + 1 + lowered P q ≡ k + lowered (low ∷ P) q =
      λ q h. (let above = places-above to (low + 1) es q h in let more = count-head q low P (omega (arith, above)) in omega (arith, more)) in
      let rest : places_from (k + 1 + 1) to (kept_by from es) ≡ map (λ q. k + lowered (low ∷ P) q) Q =
      places-lowered to from less (k + 1) (low + 1) es ∙ map-same (λ q. k + 1 + lowered P q) (λ q. k + lowered (low ∷ P) q) Q later in
      elim (test-cases (to e.call)) [
        | inl here ↦
            let none : lowered P low ≡ 0 = none-upto low P (λ q h. let above = places-above from (low + 1) es q h in omega (arith, above)) in
            let first : k + 1 ≡ k + lowered (low ∷ P) low = let more = count-head low low P (omega arith) in omega (arith, more, none) in
            ap (places_from (k + 1) to) keeps
            ∙ ap (λ (b : Bool). cond b ((k + 1) ∷ places_from (k + 1 + 1) to (kept_by from es)) (places_from (k + 1 + 1) to (kept_by from es))) here
            ∙ ap (λ (l : List ℕ). (k + 1) ∷ l) rest ∙ ap (λ (x : ℕ). x ∷ map (λ q. k + lowered (low ∷ P) q) Q) first
            ∙ ap (λ (b : Bool). map (λ q. k + lowered (low ∷ P) q) (cond b (low ∷ Q) Q)) (sym here)
            ∙ ap (λ (l : List ℕ). map (λ q. k + lowered l q) (places_from low to (e ∷ es))) (sym has)
        | inr out ↦
            ap (places_from (k + 1) to) keeps
            ∙ ap (λ (b : Bool). cond b ((k + 1) ∷ places_from (k + 1 + 1) to (kept_by from es)) (places_from (k + 1 + 1) to (kept_by from es))) out
            ∙ rest
            ∙ ap (λ (b : Bool). map (λ q. k + lowered (low ∷ P) q) (cond b (low ∷ Q) Q)) (sym out)
            ∙ ap (λ (l : List ℕ). map (λ q. k + lowered l q) (places_from low to (e ∷ es))) (sym has)
      ]
  | inr gone ↦
      let P : List ℕ = places_from (low + 1) from es in
      let Q : List ℕ = places_from (low + 1) to es in
      let out : to e.call ≡ false = elim (test-cases (to e.call)) [ inl here ↦ (let bad : true ≡ false = sym (less e.call here) ∙ gone in cc) | inr o ↦ o ] in
      ap (places_from (k + 1) to) (filter-no (λ (f : Event). from f.call) e es gone)
      ∙ places-lowered to from less k (low + 1) es
      ∙ ap (λ (b : Bool). map (λ q. k + lowered P q) (cond b (low ∷ Q) Q)) (sym out)
      ∙ ap (λ (b : Bool). map (λ q. k + lowered (cond b (low ∷ P) P) q) (places_from low to (e ∷ es))) (sym gone)
]

get_or-mapped : (f : ℕ → ℕ) (xs : List ℕ) (k : ℕ) → k < length xs → get_or (map f xs) k 0 ≡ f (get_or xs k 0)
get_or-mapped f [] k h = absurd (omega arith)
get_or-mapped f (x ∷ xs) zero h = refl
get_or-mapped f (x ∷ xs) (suc k) h = get_or-mapped f xs k (omega arith)

-- two lists that are another without some syncs, the one with fewer of its events than the other
module _ (ps qs : List ℕ) (large some few : List Event) (w : IsWithout ps large some) (v : IsWithout qs large few) (part : (x : ℕ) → Contains qs x → Contains ps x) where
  abbrev rs : List ℕ
  rs = map (lowered ps) qs

  lifted-rs : (a : ℕ) → 0 < a → a ≤ length qs → lifted rs a ≡ lowered ps (lifted qs a)
  lifted-rs a pos h = get_or-mapped (lowered ps) qs (a - 1) (omega arith)

  held : (a : ℕ) → 0 < a → a ≤ length qs → Contains ps (lifted qs a)
  held a pos h = part (lifted qs a) (lifted-stays qs a pos h)

  back-up : (a : ℕ) → 0 < a → a ≤ length qs → lifted ps (lifted rs a) ≡ lifted qs a
  back-up a pos h = ap (lifted ps) (lifted-rs a pos h) ∙ lifted-lowered ps w.ascending (lifted qs a) (held a pos h)

  positive : (a : ℕ) → 0 < a → a ≤ length qs → (0 < lifted rs a) × (lifted rs a ≤ length some)
  positive a pos h =
      let range = lowered-within ps w.ascending (lifted qs a) (held a pos h) in
      let is = lifted-rs a pos h in
      (omega (arith, range.0, is), omega (arith, range.1, is, w.each))

  -- a number whose event is there is one of the few
  counted : (a : ℕ) (e : Event) → 0 < a → IsEvent some (lifted rs a) e → a ≤ length qs
  counted a e pos at = elim (cases_lt (length qs) a) [
    | inl past ↦ absurd (let none = lifted-past rs a (omega (arith, past, length-mapped (lowered ps) qs)) in let low = at.0 in omega (arith, none, low))
    | inr few_enough ↦ few_enough
  ]

  shared-between : (of : Event → ℕ) → KeepsShared of ps large some → KeepsShared of qs large few → KeepsShared of rs some few
  shared-between of first second a b pa pb = (
    λ t.
        let na = event-number few a t.0 t.2 in
        let nb = event-number few b t.1 t.3 in
        let ha : a ≤ length qs = omega (arith, na.1, v.each) in
        let hb : b ≤ length qs = omega (arith, nb.1, v.each) in
        let up : Share of large (lifted qs a) (lifted qs b) = (second a b pa pb).0 t in
        let same : Share of large (lifted ps (lifted rs a)) (lifted ps (lifted rs b)) = rw (back-up a pa ha, back-up b pb hb) up in
        (first (lifted rs a) (lifted rs b) (positive a pa ha).0 (positive b pb hb).0).1 same,
    λ t.
        let ha : a ≤ length qs = counted a t.0 pa t.2 in
        let hb : b ≤ length qs = counted b t.1 pb t.3 in
        let up : Share of large (lifted ps (lifted rs a)) (lifted ps (lifted rs b)) = (first (lifted rs a) (lifted rs b) (positive a pa ha).0 (positive b pb hb).0).0 t in
        let same : Share of large (lifted qs a) (lifted qs b) = rw (back-up a pa ha, back-up b pb hb) at up in
        (second a b pa pb).1 same,
  )

  out-above : (x : ℕ) → 0 < x → x ≤ length some → stays rs x ≡ false → stays qs (lifted ps x) ≡ false
  out-above x pos h out = stays-no qs (lifted ps x) (λ c.
      let low : lowered ps (lifted ps x) ≡ x = lowered-lifted ps w.ascending x pos (omega (arith, h, w.each)) in
      let there : Contains rs x = rw low at (Contains-map (lowered ps) qs (lifted ps x) c) in
      (let bad : true ≡ false = sym (stays-yes rs x there) ∙ out in cc))

  up-between : AllPairs (λ x y. x < y) rs
  up-between = λ i j d l h.
      let long = length-mapped (lowered ps) qs in
      let short : j < length qs = omega (arith, h, long) in
      let one : get_or rs i 0 ≡ lowered ps (get_or qs i 0) = get_or-mapped (lowered ps) qs i (omega (arith, l, short)) in
      let two : get_or rs j 0 ≡ lowered ps (get_or qs j 0) = get_or-mapped (lowered ps) qs j short in
      let apart : get_or qs i 0 < get_or qs j 0 = v.ascending i j 0 l short in
      let first = number-of ps (get_or qs i 0) (part (get_or qs i 0) (Contains-get_or qs i 0 (omega (arith, l, short)))) in
      let second = number-of ps (get_or qs j 0) (part (get_or qs j 0) (Contains-get_or qs j 0 short)) in
      let low : lowered ps (get_or qs i 0) ≡ first.0 = ap (lowered ps) (sym first.3) ∙ lowered-lifted ps w.ascending first.0 first.1 first.2 in
      let high : lowered ps (get_or qs j 0) ≡ second.0 = ap (lowered ps) (sym second.3) ∙ lowered-lifted ps w.ascending second.0 second.1 second.2 in
      let less : first.0 < second.0 = elim (cases_lt first.0 second.0) [
        | inl is ↦ is
        | inr not_so ↦ elim (cases_lt second.0 first.0) [
          | inl turned ↦ absurd (let bad = w.ascending (second.0 - 1) (first.0 - 1) 0 (omega (arith, turned, second.1)) (omega (arith, first.1, first.2)) in
              let p = first.3 in let q = second.3 in omega (arith, bad, p, q, apart))
          | inr same ↦ absurd (let is : first.0 ≡ second.0 = omega (arith, not_so, same) in let one_place = sym first.3 ∙ ap (lifted ps) is ∙ second.3 in omega (arith, one_place, apart))
        ]
      ] in
      rw (get_or_default_zero rs i d (omega (arith, l, h)), get_or_default_zero rs j d h) (omega (arith, one, two, low, high, less))

  renumbered-between : (a : ℕ) (e f : Event) → IsEvent few a e → IsEvent some (lifted rs a) f → IsRenumbered e f
  renumbered-between a e f at_e at_f =
      let na = event-number few a e at_e in
      let ha : a ≤ length qs = omega (arith, na.1, v.each) in
      let found = lifted-event ps large some w (lifted rs a) f at_f in
      let h : Event = found.0 in
      let at : IsEvent large (lifted qs a) h = rw (back-up a na.0 ha) at found.1 in
      let same_e : record e { call = h.call; txn = h.txn } ≡ h = v.alike a e h at_e at in
      let same_f : record f { call = h.call; txn = h.txn } ≡ h = found.2 in
      ap (λ (g : Event). record g { call = f.call; txn = f.txn }) (same_e ∙ sym same_f)

  idle-between : (x : ℕ) (f : Event) → IsEvent some x f → stays rs x ≡ false → f.effect ≡ Nothing
  idle-between x f at out =
      let n = event-number some x f at in
      let found = lifted-event ps large some w x f at in
      ap (λ (g : Event). g.effect) found.2 ∙ v.idle (lifted ps x) found.0 found.1 (out-above x n.0 n.1 out)

  alone-between : (x y : ℕ) → SameTransaction some x y → stays rs x ≡ false → x ≡ y
  alone-between x y t out =
      let n = event-number some x t.0 t.2 in
      let m = event-number some y t.1 t.3 in
      let up : SameTransaction large (lifted ps x) (lifted ps y) = (w.together x y n.0 m.0).0 t in
      let same : lifted ps x ≡ lifted ps y = v.alone (lifted ps x) (lifted ps y) up (out-above x n.0 n.1 out) in
      sym (lowered-lifted ps w.ascending x n.0 (omega (arith, n.1, w.each))) ∙ ap (lowered ps) same ∙ lowered-lifted ps w.ascending y m.0 (omega (arith, m.1, w.each))

  pub between-without : IsWithout rs some few
  between-without = record {
    ascending = up-between;
    within = λ k d h.
        let short : k < length qs = omega (arith, h, length-mapped (lowered ps) qs) in
        let range = positive (k + 1) (omega arith) (omega (arith, short)) in
        let place : k + 1 - 1 ≡ k = omega arith in
        let is : get_or rs (k + 1 - 1) 0 ≡ get_or rs k d = ap (λ n. get_or rs n 0) place ∙ sym (get_or_default_zero rs k d h) in
        (omega (arith, range.0, is), omega (arith, range.1, is));
    each = v.each ∙ sym (length-mapped (lowered ps) qs);
    alike = renumbered-between;
    together = shared-between (λ e. e.txn) w.together v.together;
    idle = idle-between;
    alone = alone-between;
  }

  pub between-calls : KeepsCalls ps large some → KeepsCalls qs large few → KeepsCalls rs some few
  between-calls first second = shared-between (λ e. e.call) first second

module _ (litmus : Test) (sites : List Site) (t : Trace) (from to : List Bool) (syncs : AreSyncs sites) (outside : StandOutside litmus.body sites) (all : HasEvents litmus sites t) (part : IsPartOf to from) where
  abbrev P : List ℕ
  P = places_present litmus.body sites from t.events

  abbrev Q : List ℕ
  Q = places_present litmus.body sites to t.events

  abbrev R : List ℕ
  R = places_between litmus.body sites from to t.events

  lowered-places : R ≡ map (lowered P) Q
  lowered-places =
      let stay : ℕ → Bool = call_stays (calls_present 1 litmus.body sites to) in
      let was : ℕ → Bool = call_stays (calls_present 1 litmus.body sites from) in
      let here : places_from (0 + 1) stay (kept_by was t.events) ≡ map (λ q. 0 + lowered (places_from 1 was t.events) q) (places_from 1 stay t.events) =
      places-lowered stay was (less-stays litmus.body sites to from part) 0 1 t.events in
      here ∙ map-same (λ q. 0 + lowered (places_from 1 was t.events) q) (lowered (places_from 1 was t.events)) (places_from 1 stay t.events) (λ q h. omega arith)

  inner : (x : ℕ) → Contains Q x → Contains P x
  inner x h = places-within (call_stays (calls_present 1 litmus.body sites to)) (call_stays (calls_present 1 litmus.body sites from)) (less-stays litmus.body sites to from part) 1 t.events x h

  -- the events of the fewer sites are those of the others without some syncs
  pub part-without : (some few : List Event) → IsWithout P t.events some → IsWithout Q t.events few → IsWithout R some few
  part-without some few w v = subst (λ (l : List ℕ). IsWithout l some few) (sym lowered-places) (between-without P Q t.events some few w v inner)

  part-calls : (some few : List Event) → IsWithout P t.events some → IsWithout Q t.events few → KeepsCalls P t.events some → KeepsCalls Q t.events few → KeepsCalls R some few
  part-calls some few w v first second = subst (λ (l : List ℕ). KeepsCalls l some few) (sym lowered-places) (between-calls P Q t.events some few w v inner first second)

  pub carried : (model : Model) (crash : Crash) → Reaches litmus model (sites_present sites from) crash → Reaches litmus model (sites_present sites to) (crash_without R crash)
  carried model crash r =
      let some = present-without litmus sites from t r.trace syncs outside all r.resolved in
      let few = left-present litmus sites to t syncs outside all in
      let trace : record t { events = r.trace.events } ≡ r.trace = some.0 in
      let left : record t { events = few.0 } ≡ record r.trace { events = few.0 } = ap (λ (u : Trace). record u { events = few.0 }) trace in
      let there : HasEvents litmus (sites_present sites to) (record r.trace { events = few.0 }) = subst (HasEvents litmus (sites_present sites to)) left few.1 in
      reach-without litmus model (sites_present sites to) r.trace few.0 R crash there
      (part-without r.trace.events few.0 some.1 few.2.0) (part-calls r.trace.events few.0 some.1 few.2.0 some.2 few.2.1) r.answers r.keeps

  -- its places ascend, from 1 on
  pub between-range : length t.events ≤ 128 → AllPairs (λ x y. x < y) R × All (λ x. (1 ≤ x) × (x ≤ 128)) R
  between-range short =
      let some = left-present litmus sites from t syncs outside all in
      let few = left-present litmus sites to t syncs outside all in
      let w = part-without some.0 few.0 some.2.0 few.2.0 in
      let count = fewer P t.events some.0 some.2.0 in
      (w.ascending, λ k d h. let range = w.within k d h in (omega (arith, range.0), omega (arith, range.1, count, short)))
