-- Two lists with their small ones, joined: where they share no transaction, the joined lists are so too.
use Rattle.std.proofs.Common.{◌≡◌, ◌≢◌, ◌↔◌, ◌⊎◌, ℕ, zero, suc, ◌+◌, ◌-◌, ◌<◌, ◌≤◌, inl, inr, List, [], ◌∷◌, ◌++◌, length, get_or, map, Contains, true, false, refl, sym, ◌∙◌, ap, arith}
use Rattle.std.specs.Prelude.{slice_get}
use Rattle.std.specs.List.{All, AllPairs}
use Rattle.std.proofs.lemmas.List.{length-append, get_or-append-add, get_or_past}
use Rattle.std.proofs.Math.ListN.{get_or-append}
use Rattle.std.proofs.lemmas.List.Elements.{All-append, All-map, All-head, All-tail, All-weaker, All-contains, Contains-append_left, Contains-append_right}
use Rattle.std.proofs.lemmas.List.Kept.{AllPairs-cons}
use Rattle.std.proofs.lemmas.Option.{slice_get_within}
use Rattle.fer_events.specs.declared.event.Event.{Event}
use Rattle.fer_events.specs.declared.event.Effect.TheVariants.{Nothing}
use Rattle.fer_events.specs.Orders.{IsEvent, SameTransaction}
use Rattle.fer_events.specs.Lifting.{lifted}
use Rattle.sync_parts.specs.Parts.{stays}
use Rattle.sync_parts.specs.Without.{IsWithout, IsRenumbered}
use Rattle.sync_parts.proofs.Members.{Contains-map, test-cases, length-mapped}
use Rattle.sync_parts.proofs.Numbering.{stays-yes, stays-contained, lifted-stays, tail-ascending, above-head}
use Rattle.sync_parts.proofs.Leaving.{event-number, has-event}

pub slice_left : {A : Type 0} (xs ys : List A) (k : ℕ) → k < length xs → slice_get (xs ++ ys) k ≡ slice_get xs k
slice_left [] ys k h = absurd (omega arith)
slice_left (x ∷ xs) ys zero h = refl
slice_left (x ∷ xs) ys (suc k) h = slice_left xs ys k (omega arith)

pub slice_right : {A : Type 0} (xs ys : List A) (k m : ℕ) → m ≡ length xs + k → slice_get (xs ++ ys) m ≡ slice_get ys k
slice_right [] ys k m e = let same : m ≡ k = omega arith in ap (slice_get ys) same
slice_right (x ∷ xs) ys k zero e = absurd (omega arith)
slice_right (x ∷ xs) ys k (suc m) e = slice_right xs ys k m (omega arith)

pub event-left : (xs ys : List Event) (a : ℕ) (e : Event) → IsEvent xs a e → IsEvent (xs ++ ys) a e
event-left xs ys a e is = (is.0, slice_left xs ys (a - 1) (slice_get_within xs (a - 1) e is.1) ∙ is.1)

pub event-right : (xs ys : List Event) (a b : ℕ) (e : Event) → b ≡ length xs + a → IsEvent ys a e → IsEvent (xs ++ ys) b e
event-right xs ys a b e at is = let pos = is.0 in (omega arith, slice_right xs ys (a - 1) (b - 1) (omega arith) ∙ is.1)

-- an event of joined lists is one of the first, or of the second
pub event-cases : (xs ys : List Event) (a : ℕ) (e : Event) → IsEvent (xs ++ ys) a e
    → IsEvent xs a e ⊎ ((z : ℕ) × (a ≡ length xs + z) × IsEvent ys z e)
event-cases xs ys a e is = split (side a (length xs))
  where
    side : (m n : ℕ) → (m ≤ n) ⊎ (n < m)
    side m n = grind arith

    split : (a ≤ length xs) ⊎ (length xs < a) → IsEvent xs a e ⊎ ((z : ℕ) × (a ≡ length xs + z) × IsEvent ys z e)
    split (inl h) = let pos = is.0 in inl (is.0, sym (slice_left xs ys (a - 1) (omega arith)) ∙ is.1)
    split (inr h) = inr (a - length xs, omega arith, (omega arith, sym (slice_right xs ys (a - length xs - 1) (a - 1) (omega arith)) ∙ is.1))

pub ascending-append : (xs ys : List ℕ) → AllPairs (λ x y. x < y) xs → AllPairs (λ x y. x < y) ys → All (λ x. All (λ y. x < y) ys) xs
    → AllPairs (λ x y. x < y) (xs ++ ys)
ascending-append [] ys first second across = second
ascending-append (x ∷ xs) ys first second across =
    AllPairs-cons (λ x y. x < y) x (xs ++ ys)
    (All-append (λ y. x < y) xs ys (above-head x xs first) (All-head (λ x. All (λ y. x < y) ys) x xs across))
    (ascending-append xs ys (tail-ascending x xs first) second (All-tail (λ x. All (λ y. x < y) ys) x xs across))

ascending-shifted : (n : ℕ) (xs : List ℕ) → AllPairs (λ x y. x < y) xs → AllPairs (λ x y. x < y) (map (λ x. n + x) xs)
ascending-shifted n [] up = λ i j d l h. absurd (omega arith)
ascending-shifted n (x ∷ xs) up =
    AllPairs-cons (λ x y. x < y) (n + x) (map (λ x. n + x) xs)
    (All-map (λ y. n + x < y) (λ x. n + x) xs (All-weaker (λ y. x < y) (λ y. n + x < n + y) (λ y h. omega arith) xs (above-head x xs up)))
    (ascending-shifted n xs (tail-ascending x xs up))

pub lifted-past : (places : List ℕ) (a : ℕ) → length places < a → lifted places a ≡ 0
lifted-past places a h = get_or_past places (a - 1) 0 (omega arith)

get_or-shifted : (n : ℕ) (xs : List ℕ) (k : ℕ) → k < length xs → get_or (map (λ x. n + x) xs) k 0 ≡ n + get_or xs k 0
get_or-shifted n [] k h = absurd (omega arith)
get_or-shifted n (x ∷ xs) zero h = refl
get_or-shifted n (x ∷ xs) (suc k) h = get_or-shifted n xs k (omega arith)

-- a and b are numbers of events that have the same of something, as a transaction
abbrev pub Share : (Event → ℕ) → List Event → ℕ → ℕ → Type 0
Share of events a b = (e : Event) × (f : Event) × IsEvent events a e × IsEvent events b f × (of e ≡ of f)

abbrev pub KeepsShared : (Event → ℕ) → List ℕ → List Event → List Event → Type 0
KeepsShared of places large small = (a b : ℕ) → 0 < a → 0 < b → Share of small a b ↔ Share of large (lifted places a) (lifted places b)

-- two lists that have nothing of that in common
abbrev pub AreApart : (Event → ℕ) → List Event → List Event → Type 0
AreApart of xs ys = (x y : ℕ) (e f : Event) → IsEvent xs x e → IsEvent ys y f → of e ≢ of f

-- where something is shared across the two lists, it is shared among all where it is among those that stay
abbrev pub KeepsAcross : (Event → ℕ) → List ℕ → List ℕ → List Event → List Event → List Event → List Event → Type 0
KeepsAcross of ps qs large small more_large more_small =
    (a z : ℕ) (e f g h : Event) → IsEvent small a e → IsEvent more_small z f → IsEvent large (lifted ps a) g → IsEvent more_large (lifted qs z) h
    → (of e ≡ of f) ↔ (of g ≡ of h)

-- what is left out of one list shares no transaction with the other
abbrev pub IsAloneAcross : List ℕ → List ℕ → List Event → List Event → Type 0
IsAloneAcross ps qs large more_large =
    (x z : ℕ) (e f : Event) → IsEvent large x e → IsEvent more_large z f → e.txn ≡ f.txn → (stays ps x ≡ true) × (stays qs z ≡ true)

pub apart-across : (of : Event → ℕ) (ps qs : List ℕ) (large small more_large more_small : List Event) → AreApart of large more_large → AreApart of small more_small
    → KeepsAcross of ps qs large small more_large more_small
apart-across of ps qs large small more_large more_small big little a z e f g h at_e at_f at_g at_h =
    (λ same. absurd (little a z e f at_e at_f same), λ same. absurd (big (lifted ps a) (lifted qs z) g h at_g at_h same))

pub apart-alone : (ps qs : List ℕ) (large more_large : List Event) → AreApart (λ e. e.txn) large more_large → IsAloneAcross ps qs large more_large
apart-alone ps qs large more_large big x z e f at_e at_f same = absurd (big x z e f at_e at_f same)

module _ (ps qs : List ℕ) (large small more_large more_small : List Event) (w : IsWithout ps large small) (v : IsWithout qs more_large more_small) where
  abbrev n : ℕ
  n = length large

  abbrev m : ℕ
  m = length small

  abbrev pub places : List ℕ
  places = ps ++ map (λ q. n + q) qs

  left-lifted : (a : ℕ) → 0 < a → a ≤ m → lifted places a ≡ lifted ps a
  left-lifted a pos h = get_or-append ps (map (λ q. n + q) qs) 0 (a - 1) (omega (arith, w.each))

  right-lifted : (z : ℕ) → 0 < z → z ≤ length more_small → lifted places (m + z) ≡ n + lifted qs z
  right-lifted z pos h =
      let at : m + z - 1 ≡ length ps + (z - 1) = omega (arith, w.each) in
      ap (λ k. get_or places k 0) at ∙ get_or-append-add ps (map (λ q. n + q) qs) (z - 1) 0 ∙ get_or-shifted n qs (z - 1) (omega (arith, v.each))

  left-range : (a : ℕ) → 0 < a → a ≤ m → (0 < lifted ps a) × (lifted ps a ≤ n)
  left-range a pos h = All-contains (λ x. (0 < x) × (x ≤ n)) ps (lifted ps a) w.within (lifted-stays ps a pos (omega (arith, w.each)))

  right-range : (z : ℕ) → 0 < z → z ≤ length more_small → (0 < lifted qs z) × (lifted qs z ≤ length more_large)
  right-range z pos h = All-contains (λ x. (0 < x) × (x ≤ length more_large)) qs (lifted qs z) v.within (lifted-stays qs z pos (omega (arith, v.each)))

  -- what a number of the joined small lists is lifted to
  record Left (a : ℕ) : Type 0 where
    pos : 0 < a
    few : a ≤ m
    is : lifted places a ≡ lifted ps a
    low : 0 < lifted ps a
    high : lifted ps a ≤ n

  record Right (a : ℕ) : Type 0 where
    z : ℕ
    at : a ≡ m + z
    pos : 0 < z
    few : z ≤ length more_small
    is : lifted places a ≡ n + lifted qs z
    low : 0 < lifted qs z
    high : lifted qs z ≤ length more_large

  left-number : (a : ℕ) → 0 < a → a ≤ m → Left a
  left-number a pos h = record { pos = pos; few = h; is = left-lifted a pos h; low = (left-range a pos h).0; high = (left-range a pos h).1 }

  right-number : (a z : ℕ) → a ≡ m + z → 0 < z → z ≤ length more_small → Right a
  right-number a z at pos h = record { z = z; at = at; pos = pos; few = h; is = ap (lifted places) at ∙ right-lifted z pos h; low = (right-range z pos h).0; high = (right-range z pos h).1 }

  sides : (a : ℕ) → 0 < a → a ≤ m + length more_small → Left a ⊎ Right a
  sides a pos h = split (side a m)
    where
      side : (x y : ℕ) → (x ≤ y) ⊎ (y < x)
      side x y = grind arith

      split : (a ≤ m) ⊎ (m < a) → Left a ⊎ Right a
      split (inl few) = inl (left-number a pos few)
      split (inr more) = inr (right-number a (a - m) (omega arith) (omega arith) (omega arith))

  long : length places ≡ m + length more_small
  long = omega (arith, length-append ps (map (λ q. n + q) qs), length-mapped (λ q. n + q) qs, w.each, v.each)

  -- the lifted event
  left-event : (a : ℕ) (f : Event) → Left a → IsEvent (large ++ more_large) (lifted places a) f → IsEvent large (lifted ps a) f
  left-event a f l at = elim (event-cases large more_large (lifted places a) f at) [
    | inl here ↦ rw l.is at here
    | inr there ↦ absurd (let pos = there.2.0 in omega (arith, there.1, l.is, l.high))
  ]

  right-event : (a : ℕ) (f : Event) (r : Right a) → IsEvent (large ++ more_large) (lifted places a) f → IsEvent more_large (lifted qs r.z) f
  right-event a f r at = elim (event-cases large more_large (lifted places a) f at) [
    | inl here ↦ absurd (let within = event-number large (lifted places a) f here in omega (arith, within.1, r.is, r.low))
    | inr there ↦ let same : there.0 ≡ lifted qs r.z = omega (arith, there.1, r.is) in rw same at there.2
  ]

  small-left : (a : ℕ) (e : Event) → Left a → IsEvent (small ++ more_small) a e → IsEvent small a e
  small-left a e l at = elim (event-cases small more_small a e at) [
    | inl here ↦ here
    | inr there ↦ absurd (let pos = there.2.0 in omega (arith, there.1, l.few))
  ]

  small-right : (a : ℕ) (e : Event) (r : Right a) → IsEvent (small ++ more_small) a e → IsEvent more_small r.z e
  small-right a e r at = elim (event-cases small more_small a e at) [
    | inl here ↦ absurd (let within = event-number small a e here in omega (arith, within.1, r.at, r.pos))
    | inr there ↦ let same : there.0 ≡ r.z = omega (arith, there.1, r.at) in rw same at there.2
  ]

  small-sides : (a : ℕ) (e : Event) → IsEvent (small ++ more_small) a e → Left a ⊎ Right a
  small-sides a e at = let range = event-number (small ++ more_small) a e at in sides a range.0 (omega (arith, range.1, length-append small more_small))

  large-sides : (a : ℕ) (e : Event) → 0 < a → IsEvent (large ++ more_large) (lifted places a) e → Left a ⊎ Right a
  large-sides a e pos at = split (side a (length places))
    where
      side : (x y : ℕ) → (x ≤ y) ⊎ (y < x)
      side x y = grind arith

      split : (a ≤ length places) ⊎ (length places < a) → Left a ⊎ Right a
      split (inl few) = sides a pos (omega (arith, long))
      split (inr more) = absurd (let none = lifted-past places a more in let low = at.0 in omega arith)

  -- what holds of each event and the one that it is lifted to
  pub joined-pointwise : (P : Event → Event → Type 0) → ((a : ℕ) (e f : Event) → IsEvent small a e → IsEvent large (lifted ps a) f → P e f)
      → ((z : ℕ) (e f : Event) → IsEvent more_small z e → IsEvent more_large (lifted qs z) f → P e f)
      → (a : ℕ) (e f : Event) → IsEvent (small ++ more_small) a e → IsEvent (large ++ more_large) (lifted places a) f → P e f
  joined-pointwise P first second a e f at_small at_large = elim (small-sides a e at_small) [
    | inl l ↦ first a e f (small-left a e l at_small) (left-event a f l at_large)
    | inr r ↦ second r.z e f (small-right a e r at_small) (right-event a f r at_large)
  ]

  -- what has something stays, where it does in both lists
  pub joined-kept : (P : Event → Type 0) → ((x : ℕ) (f : Event) → IsEvent large x f → P f → stays ps x ≡ true)
      → ((z : ℕ) (f : Event) → IsEvent more_large z f → P f → stays qs z ≡ true)
      → (x : ℕ) (f : Event) → IsEvent (large ++ more_large) x f → P f → stays places x ≡ true
  joined-kept P first second x f at is = elim (event-cases large more_large x f at) [
    | inl here ↦ stays-yes places x (Contains-append_left ps (map (λ q. n + q) qs) x (stays-contained ps x (first x f here is)))
    | inr there ↦
        let held : Contains (map (λ q. n + q) qs) (n + there.0) = Contains-map (λ q. n + q) qs there.0 (stays-contained qs there.0 (second there.0 f there.2 is)) in
        stays-yes places x (Contains-append_right ps (map (λ q. n + q) qs) x (rw (← there.1) at held))
  ]

  lifted-left : (a : ℕ) → Left a → (g : Event) × IsEvent large (lifted ps a) g
  lifted-left a l = has-event large (lifted ps a) l.low l.high

  lifted-right : (a : ℕ) (r : Right a) → (h : Event) × IsEvent more_large (lifted qs r.z) h
  lifted-right a r = has-event more_large (lifted qs r.z) r.low r.high

  left-small : (a : ℕ) → Left a → (g : Event) × IsEvent small a g
  left-small a l = has-event small a l.pos l.few

  right-small : {a : ℕ} (r : Right a) → (h : Event) × IsEvent more_small r.z h
  right-small r = has-event more_small r.z r.pos r.few

  up : (of : Event → ℕ) (keeps : KeepsShared of ps large small) (keeps_more : KeepsShared of qs more_large more_small) (across : KeepsAcross of ps qs large small more_large more_small) (a b : ℕ) → Share of (small ++ more_small) a b → Share of (large ++ more_large) (lifted places a) (lifted places b)
  up of keeps keeps_more across a b (e, f, at_a, at_b, same) = go (small-sides a e at_a) (small-sides b f at_b)
    where
      go : Left a ⊎ Right a → Left b ⊎ Right b → Share of (large ++ more_large) (lifted places a) (lifted places b)
      go (inl l) (inl k) =
          let t = (keeps a b l.pos k.pos).0 (e, f, small-left a e l at_a, small-left b f k at_b, same) in
          rw (l.is, k.is) (t.0, t.1, event-left large more_large (lifted ps a) t.0 t.2, event-left large more_large (lifted ps b) t.1 t.3, t.4)
      go (inl l) (inr k) =
          let g = lifted-left a l in
          let h = lifted-right b k in
          let shared = (across a k.z e f g.0 h.0 (small-left a e l at_a) (small-right b f k at_b) g.1 h.1).0 same in
          rw (l.is, k.is) (g.0, h.0, event-left large more_large (lifted ps a) g.0 g.1, event-right large more_large (lifted qs k.z) (n + lifted qs k.z) h.0 refl h.1, shared)
      go (inr l) (inl k) =
          let g = lifted-left b k in
          let h = lifted-right a l in
          let shared = (across b l.z f e g.0 h.0 (small-left b f k at_b) (small-right a e l at_a) g.1 h.1).0 (sym same) in
          rw (l.is, k.is) (h.0, g.0, event-right large more_large (lifted qs l.z) (n + lifted qs l.z) h.0 refl h.1, event-left large more_large (lifted ps b) g.0 g.1, sym shared)
      go (inr l) (inr k) =
          let t = (keeps_more l.z k.z l.pos k.pos).0 (e, f, small-right a e l at_a, small-right b f k at_b, same) in
          rw (l.is, k.is) (t.0, t.1, event-right large more_large (lifted qs l.z) (n + lifted qs l.z) t.0 refl t.2, event-right large more_large (lifted qs k.z) (n + lifted qs k.z) t.1 refl t.3, t.4)

  down : (of : Event → ℕ) (keeps : KeepsShared of ps large small) (keeps_more : KeepsShared of qs more_large more_small) (across : KeepsAcross of ps qs large small more_large more_small) (a b : ℕ) → 0 < a → 0 < b → Share of (large ++ more_large) (lifted places a) (lifted places b) → Share of (small ++ more_small) a b
  down of keeps keeps_more across a b pa pb (e, f, at_a, at_b, same) = go (large-sides a e pa at_a) (large-sides b f pb at_b)
    where
      go : Left a ⊎ Right a → Left b ⊎ Right b → Share of (small ++ more_small) a b
      go (inl l) (inl k) =
          let t = (keeps a b l.pos k.pos).1 (e, f, left-event a e l at_a, left-event b f k at_b, same) in
          (t.0, t.1, event-left small more_small a t.0 t.2, event-left small more_small b t.1 t.3, t.4)
      go (inl l) (inr k) =
          let g = left-small a l in
          let h = right-small k in
          let shared = (across a k.z g.0 h.0 e f g.1 h.1 (left-event a e l at_a) (right-event b f k at_b)).1 same in
          (g.0, h.0, event-left small more_small a g.0 g.1, event-right small more_small k.z b h.0 k.at h.1, shared)
      go (inr l) (inl k) =
          let g = left-small b k in
          let h = right-small l in
          let shared = (across b l.z g.0 h.0 f e g.1 h.1 (left-event b f k at_b) (right-event a e l at_a)).1 (sym same) in
          (h.0, g.0, event-right small more_small l.z a h.0 l.at h.1, event-left small more_small b g.0 g.1, sym shared)
      go (inr l) (inr k) =
          let t = (keeps_more l.z k.z l.pos k.pos).1 (e, f, right-event a e l at_a, right-event b f k at_b, same) in
          (t.0, t.1, event-right small more_small l.z a t.0 l.at t.2, event-right small more_small k.z b t.1 k.at t.3, t.4)

  pub joined-shared : (of : Event → ℕ) (keeps : KeepsShared of ps large small) (keeps_more : KeepsShared of qs more_large more_small) (across : KeepsAcross of ps qs large small more_large more_small) → KeepsShared of places (large ++ more_large) (small ++ more_small)
  joined-shared of keeps keeps_more across = λ a b pa pb. (up of keeps keeps_more across a b, down of keeps keeps_more across a b pa pb)

  out-left : (x : ℕ) → stays places x ≡ false → stays ps x ≡ false
  out-left x out = elim (test-cases (stays ps x)) [
    | inl taken ↦ (let bad : true ≡ false = sym (stays-yes places x (Contains-append_left ps (map (λ q. n + q) qs) x (stays-contained ps x taken))) ∙ out in cc)
    | inr passed ↦ passed
  ]

  out-right : (x z : ℕ) → x ≡ n + z → stays places x ≡ false → stays qs z ≡ false
  out-right x z at out = elim (test-cases (stays qs z)) [
    | inl taken ↦
        let there : Contains places x = Contains-append_right ps (map (λ q. n + q) qs) x (rw (← at) at (Contains-map (λ q. n + q) qs z (stays-contained qs z taken))) in
        (let bad : true ≡ false = sym (stays-yes places x there) ∙ out in cc)
    | inr passed ↦ passed
  ]

  joined-idle : (x : ℕ) (f : Event) → IsEvent (large ++ more_large) x f → stays places x ≡ false → f.effect ≡ Nothing
  joined-idle x f at out = elim (event-cases large more_large x f at) [
    | inl here ↦ w.idle x f here (out-left x out)
    | inr there ↦ v.idle there.0 f there.2 (out-right x there.0 there.1 out)
  ]

  joined-alone : IsAloneAcross ps qs large more_large → (x y : ℕ) → SameTransaction (large ++ more_large) x y → stays places x ≡ false → x ≡ y
  joined-alone across x y (e, f, at_x, at_y, same) out = go (event-cases large more_large x e at_x) (event-cases large more_large y f at_y)
    where
      go : IsEvent large x e ⊎ ((z : ℕ) × (x ≡ n + z) × IsEvent more_large z e) → IsEvent large y f ⊎ ((z : ℕ) × (y ≡ n + z) × IsEvent more_large z f) → x ≡ y
      go (inl a) (inl b) = w.alone x y (e, f, a, b, same) (out-left x out)
      go (inl a) (inr b) = absurd (let bad : true ≡ false = sym (across x b.0 e f a b.2 same).0 ∙ out-left x out in cc)
      go (inr a) (inl b) = absurd (let bad : true ≡ false = sym (across y a.0 f e b a.2 (sym same)).1 ∙ out-right x a.0 a.1 out in cc)
      go (inr a) (inr b) = a.1 ∙ ap (λ z. n + z) (v.alone a.0 b.0 (e, f, a.2, b.2, same) (out-right x a.0 a.1 out)) ∙ sym b.1

  pub joined : KeepsAcross (λ e. e.txn) ps qs large small more_large more_small → IsAloneAcross ps qs large more_large → IsWithout places (large ++ more_large) (small ++ more_small)
  joined across alone = record {
    ascending = ascending-append ps (map (λ q. n + q) qs) w.ascending (ascending-shifted n qs v.ascending)
        (λ k d h. All-map (λ y. get_or ps k d < y) (λ q. n + q) qs
        (All-weaker (λ x. (0 < x) × (x ≤ length more_large)) (λ q. get_or ps k d < n + q) (λ q r. let low = w.within k d h in omega (arith, low.1, r.0)) qs v.within));
    within = All-append (λ x. (0 < x) × (x ≤ length (large ++ more_large))) ps (map (λ q. n + q) qs)
        (All-weaker (λ x. (0 < x) × (x ≤ n)) (λ x. (0 < x) × (x ≤ length (large ++ more_large))) (λ x r. (r.0, omega (arith, r.1, length-append large more_large))) ps w.within)
        (All-map (λ x. (0 < x) × (x ≤ length (large ++ more_large))) (λ q. n + q) qs
        (All-weaker (λ x. (0 < x) × (x ≤ length more_large)) (λ q. (0 < n + q) × (n + q ≤ length (large ++ more_large))) (λ q r. (omega (arith, r.0), omega (arith, r.1, length-append large more_large))) qs v.within));
    each = omega (arith, length-append small more_small, long);
    alike = joined-pointwise IsRenumbered w.alike v.alike;
    together = joined-shared (λ e. e.txn) w.together v.together across;
    idle = joined-idle;
    alone = joined-alone alone;
  }
