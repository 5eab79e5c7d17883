-- Where only lifted pairs are kept, every crash of the small list comes from one of the large list.
use Rattle.std.proofs.Common.{◌≡◌, ◌↔◌, ℕ, ◌<◌, ◌≤◌, inl, inr, List, [], ◌++◌, length, take, map, filter, count_by, Contains, IsPermutation, true, false, not, refl, sym, ◌∙◌, ap, append_assoc, arith}
use Rattle.std.proofs.lemmas.List.{map-append, append-nil, take-append-le, length-take-le}
use Rattle.std.proofs.lemmas.List.Elements.{Contains-append_left}
use Rattle.std.proofs.lemmas.List.FromFn.{length-range_with_len}
use Rattle.std.proofs.lemmas.List.Sums.{length-filter, count_by-le-length}
use Rattle.std.proofs.lemmas.List.Sorted.{IsPermutation-map, IsPermutation-filter_both, IsPermutation-append_left, IsPermutation-trans, length_permutation, Contains-permutation, IsPermutation-sym}
use Rattle.fer_events.specs.declared.event.Event.{Event}
use Rattle.fer_events.specs.declared.event.Crash.{Crash}
use Rattle.fer_events.specs.Orders.{numbers, StandsBefore, SameTransaction, before_cut, IsCrash}
use Rattle.fer_events.specs.Lifting.{lifted, lifted_pairs}
use Rattle.sync_parts.specs.Parts.{stays, lowered, without, crash_without}
use Rattle.sync_parts.specs.Without.{is_left_out, crash_among, IsWithout, ArePairsOf, KeepsAll}
use Rattle.sync_parts.proofs.Members.{Contains-map, Contains-from_map, Contains-from_filter, test-cases, filter-all, filter-none, map-same, map-itself, map-twice, length-mapped, from-take}
use Rattle.sync_parts.proofs.Numbering.{stays-yes, stays-contained, number-of, numbers-within}
use Rattle.sync_parts.proofs.Leaving.{take-mapped, without-append, numbers-stay, numbers-lifted, lower-lift, lift-stays, crash-without}

abbrev crash_of : List ℕ → ℕ → Crash
crash_of order cut = record { order = order; cut = cut }

same-crash : (order other : List ℕ) (cut less : ℕ) → order ≡ other → cut ≡ less → crash_of order cut ≡ crash_of other less
same-crash order other cut less e f = ap (λ o. crash_of o cut) e ∙ ap (crash_of other) f

out-stays : (places : List ℕ) (x : ℕ) → is_left_out places x ≡ true → stays places x ≡ false
out-stays places x t = elim (test-cases (stays places x)) [
  | inl yes_it_does ↦ (let bad : false ≡ true = sym (ap not yes_it_does) ∙ t in cc)
  | inr f ↦ f
]

turned : (large : List Event) (x y : ℕ) → SameTransaction large x y → SameTransaction large y x
turned large x y (e, f, at_x, at_y, same) = (f, e, at_y, at_x, sym same)

module _ (places : List ℕ) (large small : List Event) (w : IsWithout places large small) where
  abbrev others : List ℕ
  others = filter (is_left_out places) (numbers (length large))

  pub fewer : length small ≤ length large
  fewer =
      let whole = ap length (numbers-stay places large small w) in
      omega (arith, w.each, length-filter (stays places) (numbers (length large)), count_by-le-length (stays places) (numbers (length large)), length-range_with_len 1 (length large))

  among-permutes : (order : List ℕ) → IsPermutation (numbers (length small)) order → IsPermutation (numbers (length large)) (map (lifted places) order ++ others)
  among-permutes order h =
      let parts = IsPermutation-filter_both (stays places) (is_left_out places) (λ x. refl) (numbers (length large)) in
      let front : filter (stays places) (numbers (length large)) ≡ map (lifted places) (numbers (length small)) =
      numbers-stay places large small w ∙ sym (numbers-lifted places large small w) ∙ ap (λ n. map (lifted places) (numbers n)) (sym w.each) in
      let moved = IsPermutation-append_left others (map (lifted places) (numbers (length small))) (map (lifted places) order) (IsPermutation-map (lifted places) (numbers (length small)) order h) in
      IsPermutation-trans (numbers (length large)) (map (lifted places) (numbers (length small)) ++ others) (map (lifted places) order ++ others) (rw front at parts) moved

  order-long : (order : List ℕ) → IsPermutation (numbers (length small)) order → length order ≡ length small
  order-long order h = length_permutation (numbers (length small)) order h ∙ length-range_with_len 1 (length small)

  numbers-of-order : (order : List ℕ) → IsPermutation (numbers (length small)) order → (a : ℕ) → Contains order a → (0 < a) × (a ≤ length small)
  numbers-of-order order h a c = numbers-within (length small) a (Contains-permutation order (numbers (length small)) a (IsPermutation-sym (numbers (length small)) order h) c)

  -- what stands before the cut is what stood there
  before-among : (crash : Crash) → IsPermutation (numbers (length small)) crash.order → crash.cut ≤ length small
      → take crash.cut (map (lifted places) crash.order ++ others) ≡ map (lifted places) (before_cut crash)
  before-among crash h within =
      take-append-le crash.cut (map (lifted places) crash.order) others (omega (arith, length-mapped (lifted places) crash.order, order-long crash.order h))
      ∙ take-mapped (lifted places) crash.cut crash.order

  lifted-all-stay : (xs : List ℕ) → ((a : ℕ) → Contains xs a → (0 < a) × (a ≤ length small)) → filter (stays places) (map (lifted places) xs) ≡ map (lifted places) xs
  lifted-all-stay xs range = filter-all (stays places) (map (lifted places) xs) (λ x h.
      let found = Contains-from_map (lifted places) xs x h in
      let at = range found.0 found.1 in
      ap (stays places) (sym found.2) ∙ stays-yes places (lifted places found.0) (lift-stays places large small w found.0 at.0 at.1))

  without-lifted : (xs : List ℕ) → ((a : ℕ) → Contains xs a → (0 < a) × (a ≤ length small)) → without places (map (lifted places) xs) ≡ xs
  without-lifted xs range =
      ap (map (lowered places)) (lifted-all-stay xs range) ∙ map-twice (lowered places) (lifted places) xs
      ∙ map-same (λ a. lowered places (lifted places a)) (λ a. a) xs (λ a h. let at = range a h in lower-lift places large small w a at.0 at.1)
      ∙ map-itself xs

  without-others : without places others ≡ []
  without-others = ap (map (lowered places)) (filter-none (stays places) others (λ x h. out-stays places x (Contains-from_filter (is_left_out places) (numbers (length large)) x h).1))

  put-behind : (order : List ℕ) (x y a b : ℕ) → StandsBefore order a b → lifted places a ≡ x → lifted places b ≡ y → StandsBefore (map (lifted places) order ++ others) x y
  put-behind order x y a b (front, back, is, ca, cb) ea eb = (
    map (lifted places) front,
    map (lifted places) back ++ others,
    ap (λ l. map (lifted places) l ++ others) is ∙ ap (λ l. l ++ others) (map-append (lifted places) front back) ∙ append_assoc (map (lifted places) front) (map (lifted places) back) others,
    rw ea at (Contains-map (lifted places) front a ca),
    Contains-append_left (map (lifted places) back) others y (rw eb at (Contains-map (lifted places) back b cb)),
  )

  among-keeps : (kept : List (ℕ × ℕ)) (order : List ℕ) → ((a b : ℕ) → Contains kept (a, b) → StandsBefore order a b)
      → (x y : ℕ) → Contains (lifted_pairs places kept) (x, y) → StandsBefore (map (lifted places) order ++ others) x y
  among-keeps kept order keeps x y h =
      let found = Contains-from_map (λ (p : ℕ × ℕ). (lifted places p.0, lifted places p.1)) kept (x, y) h in
      let stands = keeps found.0.0 found.0.1 found.1 in
      let first : lifted places found.0.0 ≡ x = ap (λ (p : ℕ × ℕ). p.0) found.2 in
      let second : lifted places found.0.1 ≡ y = ap (λ (p : ℕ × ℕ). p.1) found.2 in
      put-behind order x y found.0.0 found.0.1 stands first second

  among-whole : (kept : List (ℕ × ℕ)) (crash : Crash) → IsCrash small kept crash → (x y : ℕ) → SameTransaction large x y
      → Contains (map (lifted places) (before_cut crash)) x → Contains (map (lifted places) (before_cut crash)) y
  among-whole kept crash c x y same h = elim (test-cases (stays places y)) [
    | inr out ↦ let e : y ≡ x = w.alone y x (turned large x y same) out in rw e h
    | inl kept_there ↦
        let from = Contains-from_map (lifted places) (before_cut crash) x h in
        let number = numbers-of-order crash.order c.valid.permutes from.0 (from-take crash.cut crash.order from.0 from.1) in
        let to = number-of places y (stays-contained places y kept_there) in
        let same_large : SameTransaction large (lifted places from.0) (lifted places to.0) = rw (from.2, to.3) same in
        let together = (w.together from.0 to.0 number.0 to.1).1 same_large in
        rw to.3 at (Contains-map (lifted places) (before_cut crash) to.0 (c.whole from.0 to.0 together from.1))
  ]

  pub crash-among : (kept : List (ℕ × ℕ)) (crash : Crash) → IsCrash small kept crash → IsCrash large (lifted_pairs places kept) (crash_among places (length large) crash)
  crash-among kept crash c =
      let before = before-among crash c.valid.permutes c.within in
      record {
        valid = record { permutes = among-permutes crash.order c.valid.permutes; keeps = among-keeps kept crash.order c.valid.keeps };
        within = omega (arith, c.within, fewer);
        whole = λ x y same h. rw before (among-whole kept crash c x y same (rw before at h));
      }

  pub among-without : (kept : List (ℕ × ℕ)) (crash : Crash) → IsCrash small kept crash → crash_without places (crash_among places (length large) crash) ≡ crash
  among-without kept crash c =
      let range = numbers-of-order crash.order c.valid.permutes in
      let order : without places (map (lifted places) crash.order ++ others) ≡ crash.order =
      without-append places (map (lifted places) crash.order) others
      ∙ ap (λ l. without places (map (lifted places) crash.order) ++ l) without-others
      ∙ append-nil (without places (map (lifted places) crash.order)) ∙ without-lifted crash.order range in
      let cut : count_by (stays places) (take crash.cut (map (lifted places) crash.order ++ others)) ≡ crash.cut =
      ap (count_by (stays places)) (before-among crash c.valid.permutes c.within)
      ∙ sym (length-filter (stays places) (map (lifted places) (before_cut crash)))
      ∙ ap length (lifted-all-stay (before_cut crash) (λ a h. range a (from-take crash.cut crash.order a h)))
      ∙ length-mapped (lifted places) (before_cut crash)
      ∙ length-take-le crash.cut crash.order (omega (arith, c.within, order-long crash.order c.valid.permutes)) in
      same-crash (without places (map (lifted places) crash.order ++ others)) crash.order (count_by (stays places) (take crash.cut (map (lifted places) crash.order ++ others))) crash.cut order cut

  pub keeps-lifted : (kept : List (ℕ × ℕ)) → KeepsAll places kept (lifted_pairs places kept)
  keeps-lifted kept = λ a b h. Contains-map (λ (p : ℕ × ℕ). (lifted places p.0, lifted places p.1)) kept (a, b) h

  -- the crashes of the small list are those of the large one without the events that are left out
  pub same-crashes : (kept : List (ℕ × ℕ)) (crash : Crash) → ArePairsOf (length small) kept
      → IsCrash small kept crash ↔ ((more : Crash) × IsCrash large (lifted_pairs places kept) more × (crash_without places more ≡ crash))
  same-crashes kept crash range = (
    λ c. (crash_among places (length large) crash, crash-among kept crash c, among-without kept crash c),
    λ found. rw found.2 at (crash-without places large small w (lifted_pairs places kept) kept found.0 range (keeps-lifted kept) found.1),
  )
