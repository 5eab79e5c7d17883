-- A transaction that the cut parts is parted between two neighbours, since transactions never fall.
use Rattle.std.proofs.Common.{◌≡◌, ◌≢◌, ℕ, zero, suc, ◌+◌, ◌-◌, ◌<◌, ◌≤◌, ◌⊎◌, inl, inr, Bool, true, false, ltb, List, length, slice_get, Some, refl, sym, ◌∙◌, ap, arith}
use Rattle.std.specs.List.Sorted.{IsNonDecreasingBy}
use Rattle.std.proofs.lemmas.Bool.Decides.{nat_tests}
use Rattle.fer_events.specs.declared.event.Event.{Event}
use Rattle.order_coding.specs.Variables.{IsNumber}
use Rattle.order_coding.specs.Families.{txn_of}
use Rattle.order_coding.proofs.GeneralLists.{order-of, bit_cases}
use Rattle.order_coding.proofs.Transactions.{event-of, number-of, txn-is, txns-rise}
use Rattle.witness_replay.specs.Judging.{IsInTransaction}
use Rattle.witness_replay.specs.Places.{place_in, IsParted, PartsNext}

same_or_not : (p q : Bool) → (p ≡ q) ⊎ (p ≢ q)
same_or_not true true = inl refl
same_or_not true false = inr (λ e. cc)
same_or_not false true = inr (λ e. cc)
same_or_not false false = inl refl

-- a test that differs at two places differs at two neighbours between them
flips : (test : ℕ → Bool) (low n : ℕ) → test low ≢ test (low + n) → (k : ℕ) × (low ≤ k) × (k < low + n) × (test k ≢ test (k + 1))
flips test low zero differs = let e : low ≡ low + zero = omega arith in absurd (differs (ap test e))
flips test low (suc n) differs = elim (same_or_not (test low) (test (low + 1))) [
  | inl same ↦
      let e : low + 1 + n ≡ low + suc n = omega arith in
      let found = flips test (low + 1) n (λ h. differs (same ∙ h ∙ ap test e)) in
      (found.0, omega arith, omega arith, found.3)
  | inr here ↦ (low, omega arith, omega arith, here)
]

in_transaction : (events : List Event) (txn e : ℕ) → IsNumber (length events) e → txn_of events e ≡ txn → IsInTransaction events txn e
in_transaction events txn e is same =
    let x = event-of events e is in
    (x.0, x.1, sym (txn-is events e x.0 x.1) ∙ same)

module _ (events : List Event) (places : List ℕ) (cut : ℕ) (rises : IsNonDecreasingBy (λ e. e.txn) events) where
  abbrev inside : ℕ → Bool
  inside a = ltb (place_in places a) cut

  -- two events of one transaction, on two sides of the cut
  between : (txn low high : ℕ) → IsNumber (length events) low → IsNumber (length events) high → low < high → txn_of events low ≡ txn → txn_of events high ≡ txn
      → inside low ≢ inside high → (k : ℕ) × (1 ≤ k) × (k < length events) × PartsNext events places cut k × (txn_of events (k + 1) ≡ txn)
  between txn low high is_low is_high less at_low at_high differs =
      let e : low + (high - low) ≡ high = omega arith in
      let found = flips inside low (high - low) (λ h. differs (h ∙ ap inside e)) in
      let k = found.0 in
      let is_k : IsNumber (length events) k = (omega (arith, is_low, found.1), omega (arith, is_high, found.2)) in
      let is_next : IsNumber (length events) (k + 1) = (omega arith, omega (arith, is_high, found.2)) in
      let one = txns-rise events low k rises is_low is_k found.1 in
      let two = txns-rise events k (k + 1) rises is_k is_next (omega arith) in
      let three = txns-rise events (k + 1) high rises is_next is_high (omega (arith, found.2)) in
      (k, is_k.0, omega (arith, is_high.1, found.2), (omega (arith, one, two, three, at_low, at_high), found.3), omega (arith, one, two, three, at_low, at_high))

  pub parted_next : (txn : ℕ) → IsParted events places cut txn
      → (k : ℕ) × (1 ≤ k) × (k < length events) × PartsNext events places cut k × (txn_of events (k + 1) ≡ txn)
  parted_next txn (a, b, (e, is_e, of_a), before, (f, is_f, of_b), behind) =
      let is_a = number-of events a e is_e in
      let is_b = number-of events b f is_f in
      let at_a : txn_of events a ≡ txn = txn-is events a e is_e ∙ of_a in
      let at_b : txn_of events b ≡ txn = txn-is events b f is_f ∙ of_b in
      let in_a : inside a ≡ true = grind (arith, nat_tests) in
      let in_b : inside b ≡ false = grind (arith, nat_tests) in
      elim (order-of a b) [
        | inl less ↦ between txn a b is_a is_b less at_a at_b (λ h. let bad : true ≡ false = sym in_a ∙ h ∙ in_b in cc)
        | inr (inl same) ↦ let bad : true ≡ false = sym in_a ∙ ap inside same ∙ in_b in cc
        | inr (inr more) ↦ between txn b a is_b is_a more at_b at_a (λ h. let bad : true ≡ false = sym in_a ∙ sym h ∙ in_b in cc)
      ]

  next_parted : (k txn : ℕ) → 1 ≤ k → k < length events → PartsNext events places cut k → txn_of events (k + 1) ≡ txn → IsParted events places cut txn
  next_parted k txn above below (same, differs) at =
      let first = in_transaction events txn k (above, omega arith) (same ∙ at) in
      let second = in_transaction events txn (k + 1) (omega arith, omega arith) at in
      elim (bit_cases (inside k)) [
        | inl yes_k ↦ elim (bit_cases (inside (k + 1))) [
          | inl yes_next ↦ absurd (differs (yes_k ∙ sym yes_next))
          | inr no_next ↦ (k, k + 1, first, grind (arith, nat_tests), second, grind (arith, nat_tests))
        ]
        | inr no_k ↦ elim (bit_cases (inside (k + 1))) [
          | inl yes_next ↦ (k + 1, k, second, grind (arith, nat_tests), first, grind (arith, nat_tests))
          | inr no_next ↦ absurd (differs (no_k ∙ sym no_next))
        ]
      ]

  -- where no neighbours are parted, no transaction is
  pub none_parted : ((a : ℕ) → 1 ≤ a → a < length events → PartsNext events places cut a → ⊥) → (txn : ℕ) → IsParted events places cut txn → ⊥
  none_parted none txn parted = let found = parted_next txn parted in none found.0 found.1 found.2 found.3

  -- the first neighbours that are parted are of the least transaction that is
  pub first_is_least : (next : ℕ) (e : Event) → 1 ≤ next → next < length events → slice_get events next ≡ Some e → PartsNext events places cut next
      → ((a : ℕ) → 1 ≤ a → a < next → PartsNext events places cut a → ⊥)
      → IsParted events places cut e.txn × ((other : ℕ) → IsParted events places cut other → e.txn ≤ other)
  first_is_least next e above below at parts none =
      let step : next + 1 - 1 ≡ next = omega arith in
      let is_e = txn-is events (next + 1) e (omega arith, ap (slice_get events) step ∙ at) in (
        next_parted next e.txn above below parts is_e,
        λ other parted.
            let found = parted_next other parted in
            let later : next ≤ found.0 = elim (order-of found.0 next) [
              | inl less ↦ absurd (none found.0 found.1 less found.3)
              | inr (inl same) ↦ omega arith
              | inr (inr more) ↦ omega arith
            ] in
            let rise = txns-rise events (next + 1) (found.0 + 1) rises (omega arith, omega arith) (omega arith, omega (arith, found.2)) (omega (arith, later)) in
            omega (arith, rise, is_e, found.4),
      )
