-- A crash of the large list, without the events that are left out, is a crash of the small one, and leaves the same state.
use Rattle.std.proofs.Common.{◌≡◌, ℕ, zero, suc, ◌+◌, ◌-◌, ◌<◌, ◌≤◌, inl, inr, List, [], ◌∷◌, ◌++◌, length, take, drop, get_or, map, filter, count_by, Contains, IsPermutation, Bool, false, refl, sym, ◌∙◌, ap, arith}
use Rattle.std.specs.Prelude.{slice_get, Option}
use Rattle.std.proofs.lemmas.List.{map-append, length-append, take-append-drop}
use Rattle.std.proofs.lemmas.List.Elements.{filter-append, All-contains}
use Rattle.std.proofs.lemmas.List.FromFn.{length-range_with_len, length-map-range_with_len, get_or-map-range_with_len}
use Rattle.std.proofs.lemmas.List.Sums.{length-filter}
use Rattle.std.proofs.lemmas.List.Sorted.{IsPermutation-map, length_permutation, Contains-permutation, IsPermutation-sym}
use Rattle.std.proofs.lemmas.Option.{slice_get_within, slice_get_cases}
use Rattle.fer_events.specs.declared.event.Event.{Event}
use Rattle.fer_events.specs.declared.event.Effect.{Effect}
use Rattle.fer_events.specs.declared.event.Effect.TheVariants.{Nothing}
use Rattle.fer_events.specs.declared.event.Crash.{Crash}
use Rattle.fer_events.specs.Orders.{numbers, StandsBefore, IsEvent, before_cut, IsCrash}
use Rattle.fer_events.specs.States.{State, effected, after_event, after_option, after_numbers}
use Rattle.fer_events.specs.Lifting.{lifted}
use Rattle.sync_parts.specs.Parts.{stays, lowered, without, crash_without}
use Rattle.sync_parts.specs.Without.{IsWithout, IsRenumbered, ArePairsOf, KeepsAll}
use Rattle.sync_parts.proofs.Members.{Contains-head_is, Contains-tail, Contains-map, Contains-from_map, Contains-filter, Contains-from_filter, test-cases, filter-yes, filter-no, map-same, map-itself, map-twice, length-mapped, from-take}
use Rattle.sync_parts.proofs.Numbering.{stays-yes, stays-contained, lowered-lifted, lifted-stays, lifted-lowered, lowered-within, numbers-within, range-stays}
use Rattle.sync_parts.proofs.Reordering.{IsPermutation-filter}
use Rattle.std.proofs.lemmas.Grind.{same_number_lists}

take-append_seam : {A : Type 0} (xs ys : List A) → take (length xs) (xs ++ ys) ≡ xs
take-append_seam [] ys = refl
take-append_seam (x ∷ xs) ys = ap (λ l. x ∷ l) (take-append_seam xs ys)

pub take-mapped : {A B : Type 0} (f : A → B) (k : ℕ) (xs : List A) → take k (map f xs) ≡ map f (take k xs)
take-mapped f zero xs = refl
take-mapped f (suc k) [] = refl
take-mapped f (suc k) (x ∷ xs) = ap (λ l. f x ∷ l) (take-mapped f k xs)

-- what a test leaves of the first k is the first of what it leaves
take-filter : (p : ℕ → Bool) (k : ℕ) (xs : List ℕ) → take (count_by p (take k xs)) (filter p xs) ≡ filter p (take k xs)
take-filter p k xs =
    ap (λ n. take n (filter p xs)) (sym (length-filter p (take k xs)))
    ∙ ap (λ l. take (length (filter p (take k xs))) l) (ap (filter p) (sym (take-append-drop k xs)) ∙ filter-append p (take k xs) (drop k xs))
    ∙ take-append_seam (filter p (take k xs)) (filter p (drop k xs))

pub before-without : (places : List ℕ) (crash : Crash) → before_cut (crash_without places crash) ≡ without places (before_cut crash)
before-without places crash =
    take-mapped (lowered places) (count_by (stays places) (before_cut crash)) (filter (stays places) crash.order)
    ∙ ap (map (lowered places)) (take-filter (stays places) crash.cut crash.order)

pub without-append : (places xs ys : List ℕ) → without places (xs ++ ys) ≡ without places xs ++ without places ys
without-append places xs ys =
    ap (map (lowered places)) (filter-append (stays places) xs ys)
    ∙ map-append (lowered places) (filter (stays places) xs) (filter (stays places) ys)

pub event-number : (events : List Event) (a : ℕ) (e : Event) → IsEvent events a e → (0 < a) × (a ≤ length events)
event-number events a e is = let short = slice_get_within events (a - 1) e is.1 in (is.0, omega (arith, is.0))

pub has-event : (events : List Event) (a : ℕ) → 0 < a → a ≤ length events → (e : Event) × IsEvent events a e
has-event events a pos h = elim (slice_get_cases events (a - 1)).1 [
  | inl found ↦ (found.0, (pos, found.2))
  | inr past ↦ absurd (omega (arith, past.0))
]

alike-effects : (s : State) (e f : Event) → IsRenumbered e f → after_event s e ≡ after_event s f
alike-effects s e f same = ap (λ g. effected s g.slot g.file g.effect) same

idle-effects : (s : State) (slot file : Option ℕ) (effect : Effect) → effect ≡ Nothing → effected s slot file effect ≡ s
idle-effects s slot file effect is = ap (λ x. effected s slot file x) is

module _ (places : List ℕ) (large small : List Event) (w : IsWithout places large small) where
  pub numbers-stay : filter (stays places) (numbers (length large)) ≡ places
  numbers-stay = range-stays 1 (length large) places w.ascending (λ k d h. let x = w.within k d h in (omega (arith, x.0), omega (arith, x.1)))

  pub numbers-lifted : map (lifted places) (numbers (length places)) ≡ places
  numbers-lifted = same_number_lists (map (lifted places) (numbers (length places))) places
      (length-map-range_with_len (lifted places) 1 (length places))
      (λ k h.
      let short : k < length places = omega (arith, length-map-range_with_len (lifted places) 1 (length places)) in
      let back : 1 + k - 1 ≡ k = omega arith in
      get_or-map-range_with_len (lifted places) 1 (length places) k (1 + k) 0 short refl ∙ ap (λ i. get_or places i 0) back)

  pub lower-lift : (a : ℕ) → 0 < a → a ≤ length small → lowered places (lifted places a) ≡ a
  lower-lift a pos h = lowered-lifted places w.ascending a pos (omega (arith, w.each))

  pub lift-stays : (a : ℕ) → 0 < a → a ≤ length small → Contains places (lifted places a)
  lift-stays a pos h = lifted-stays places a pos (omega (arith, w.each))

  places-lowered : map (lowered places) places ≡ numbers (length small)
  places-lowered =
      ap (map (lowered places)) (sym numbers-lifted)
      ∙ map-twice (lowered places) (lifted places) (numbers (length places))
      ∙ map-same (λ a. lowered places (lifted places a)) (λ a. a) (numbers (length places)) (λ a h. let at = numbers-within (length places) a h in lowered-lifted places w.ascending a at.0 at.1)
      ∙ map-itself (numbers (length places)) ∙ ap numbers (sym w.each)

  -- an order of all is an order of those that stay
  pub permutes : (order : List ℕ) → IsPermutation (numbers (length large)) order → IsPermutation (numbers (length small)) (without places order)
  permutes order h =
      let renamed : without places (numbers (length large)) ≡ numbers (length small) = ap (map (lowered places)) numbers-stay ∙ places-lowered in
      rw (← renamed) (IsPermutation-map (lowered places) (filter (stays places) (numbers (length large))) (filter (stays places) order) (IsPermutation-filter (stays places) (numbers (length large)) order h))

  pub in-without : (xs : List ℕ) (a : ℕ) → 0 < a → a ≤ length small → Contains xs (lifted places a) → Contains (without places xs) a
  in-without xs a pos h c =
      let there = Contains-map (lowered places) (filter (stays places) xs) (lifted places a) (Contains-filter (stays places) xs (lifted places a) c (stays-yes places (lifted places a) (lift-stays a pos h))) in
      rw (lower-lift a pos h) at there

  pub from-without : (xs : List ℕ) (a : ℕ) → Contains (without places xs) a → (0 < a) × (a ≤ length small) × Contains xs (lifted places a)
  from-without xs a c =
      let found = Contains-from_map (lowered places) (filter (stays places) xs) a c in
      let held = Contains-from_filter (stays places) xs found.0 found.1 in
      let place = stays-contained places found.0 held.1 in
      let range = lowered-within places w.ascending found.0 place in
      let same : found.0 ≡ lifted places a = sym (lifted-lowered places w.ascending found.0 place) ∙ ap (lifted places) found.2 in
      (omega (arith, range.0, found.2), omega (arith, range.1, found.2, w.each), rw same at held.0)

  pub stands : (order : List ℕ) (a b : ℕ) → 0 < a → a ≤ length small → 0 < b → b ≤ length small
      → StandsBefore order (lifted places a) (lifted places b) → StandsBefore (without places order) a b
  stands order a b pa ha pb hb (front, back, is, ca, cb) = (
    without places front,
    without places back,
    ap (without places) is ∙ without-append places front back,
    in-without front a pa ha ca,
    in-without back b pb hb cb,
  )

  -- the state is that of the large list, event after event
  step : (s : State) (x : ℕ) → Contains places x → after_option s (slice_get large (x - 1)) ≡ after_option s (slice_get small (lowered places x - 1))
  step s x place =
      let at = lowered-within places w.ascending x place in
      let range = All-contains (λ y. (0 < y) × (y ≤ length large)) places x w.within place in
      let back : lifted places (lowered places x) ≡ x = lifted-lowered places w.ascending x place in
      let big = has-event large x range.0 range.1 in
      let little = has-event small (lowered places x) at.0 (omega (arith, at.1, w.each)) in
      let same = w.alike (lowered places x) little.0 big.0 little.1 (rw back big.1) in
      ap (after_option s) big.1.1 ∙ sym (alike-effects s little.0 big.0 same) ∙ ap (after_option s) (sym little.1.1)

  skip : (s : State) (x : ℕ) → 0 < x → stays places x ≡ false → after_option s (slice_get large (x - 1)) ≡ s
  skip s x pos out = elim (slice_get_cases large (x - 1)).1 [
    | inl found ↦ ap (after_option s) found.2 ∙ idle-effects s found.0.slot found.0.file found.0.effect (w.idle x found.0 (pos, found.2) out)
    | inr past ↦ ap (after_option s) past.1
  ]

  pub after-same : (s : State) (xs : List ℕ) → ((x : ℕ) → Contains xs x → 0 < x) → after_numbers large s xs ≡ after_numbers small s (without places xs)
  after-same s [] pos = refl
  after-same s (x ∷ xs) pos = elim (test-cases (stays places x)) [
    | inl taken ↦
        ap (λ t. after_numbers large t xs) (step s x (stays-contained places x taken))
        ∙ after-same (after_option s (slice_get small (lowered places x - 1))) xs (λ y h. pos y (Contains-tail x xs y h))
        ∙ ap (λ l. after_numbers small s (map (lowered places) l)) (sym (filter-yes (stays places) x xs taken))
    | inr passed ↦
        ap (λ t. after_numbers large t xs) (skip s x (pos x (Contains-head_is x xs x refl)) passed)
        ∙ after-same s xs (λ y h. pos y (Contains-tail x xs y h))
        ∙ ap (λ l. after_numbers small s (map (lowered places) l)) (sym (filter-no (stays places) x xs passed))
  ]

  few : (order : List ℕ) (k : ℕ) → IsPermutation (numbers (length large)) order → count_by (stays places) (take k order) ≤ length small
  few order k h =
      let whole = length_permutation (numbers (length small)) (without places order) (permutes order h) in
      let split = ap length (ap (without places) (sym (take-append-drop k order)) ∙ without-append places (take k order) (drop k order)) in
      omega (arith, length-range_with_len 1 (length small), length-append (without places (take k order)) (without places (drop k order)), length-mapped (lowered places) (filter (stays places) (take k order)), length-filter (stays places) (take k order))

  order-positive : (order : List ℕ) → IsPermutation (numbers (length large)) order → (k x : ℕ) → Contains (take k order) x → 0 < x
  order-positive order h k x c =
      let there = Contains-permutation order (numbers (length large)) x (IsPermutation-sym (numbers (length large)) order h) (from-take k order x c) in
      (numbers-within (length large) x there).0

  pub crash-without : (kept_large kept_small : List (ℕ × ℕ)) (crash : Crash) → ArePairsOf (length small) kept_small
      → KeepsAll places kept_small kept_large → IsCrash large kept_large crash → IsCrash small kept_small (crash_without places crash)
  crash-without kept_large kept_small crash range keeps c = record {
    valid = record {
      permutes = permutes crash.order c.valid.permutes;
      keeps = λ a b h. let at = range a b h in stands crash.order a b at.0 at.1 at.2 at.3 (c.valid.keeps (lifted places a) (lifted places b) (keeps a b h));
    };
    within = few crash.order crash.cut c.valid.permutes;
    whole = λ a b same h.
        let left = from-without (before_cut crash) a (rw (before-without places crash) at h) in
        let number = event-number small b same.1 same.3 in
        let there = c.whole (lifted places a) (lifted places b) ((w.together a b left.0 number.0).0 same) left.2 in
        rw (before-without places crash) (in-without (before_cut crash) b number.0 number.1 there);
  }

  pub after-without : (kept_large : List (ℕ × ℕ)) (crash : Crash) → IsCrash large kept_large crash
      → (s : State) → after_numbers large s (before_cut crash) ≡ after_numbers small s (before_cut (crash_without places crash))
  after-without kept_large crash c s =
      after-same s (before_cut crash) (order-positive crash.order c.valid.permutes crash.cut)
      ∙ ap (after_numbers small s) (sym (before-without places crash))
