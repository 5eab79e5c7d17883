-- Pairs that get those of rows, forward ones alone.
use Rattle.std.proofs.Common.{pow-add, ◌≡◌, ◌↔◌, ◌⊎◌, ℕ, zero, suc, ◌+◌, ◌-◌, ◌*◌, ◌/◌, ◌^◌, ◌<◌, ◌≤◌, ◌&&◌, ◌||◌, inl, inr, true, eqb, List, get_or, refl, sym, ◌∙◌, ap, subst, arith}
use Rattle.std.specs.Int.{bit_at}
use Rattle.std.proofs.lemmas.Nat.Bits.{bit_at_above}
use Rattle.std.proofs.lemmas.Nat.{le-div, pow_pos}
use Rattle.std.proofs.lemmas.Bool.{cases_eq, cases_lt, and_parts, and_from, eq-eqb, eqb-true}
use Rattle.fer_events.specs.Pairs.{PairList, has_pair}
use Rattle.event_relations.specs.Showing.{shown, IsLater}
use Rattle.event_relations.proofs.Joining.{or_cases, or_left, or_right}

-- up to event k, the pairs have those of the row, and those that they had
pub record HasRowTo (old now : PairList) (a row k : ℕ) : Type 0 where
  pub same : now.n ≡ old.n
  pub pairs : (x y : ℕ) → (has_pair now.pairs x y ≡ true) ↔ ((has_pair old.pairs x y ≡ true) ⊎ ((x ≡ a) × IsLater k a row y))

pub row_begun : (old : PairList) (a row : ℕ) → HasRowTo old old a row a
row_begun old a row = record {
  same = refl;
  pairs = λ x y. (λ h. inl h, λ h. elim h [ inl e ↦ e | inr e ↦ absurd (omega (arith, e.1.0, e.1.1)) ]);
}

later_more : (k a row y : ℕ) → IsLater k a row y → IsLater (k + 1) a row y
later_more k a row y h = (h.0, omega (arith, h.1), h.2)

pub row_put :
    (old now new : PairList) (a row b : ℕ) → a ≤ b → HasRowTo old now a row b → bit_at row b ≡ 1 → new.n ≡ now.n
    → ((x y : ℕ) → has_pair new.pairs x y ≡ ((eqb a x && eqb (b + 1) y) || has_pair now.pairs x y)) → HasRowTo old new a row (b + 1)
row_put old now new a row b low is bit n pairs = record {
  same = n ∙ is.same;
  pairs = λ x y. (
    λ h. elim (or_cases (eqb a x && eqb (b + 1) y) (has_pair now.pairs x y) (sym (pairs x y) ∙ h)) [
      | inl e ↦
          let parts = and_parts (eqb a x) (eqb (b + 1) y) e in
          let first : a ≡ x = eqb-true a x parts.0 in
          let second : b + 1 ≡ y = eqb-true (b + 1) y parts.1 in
          let at : y - 1 ≡ b = omega (arith, second) in
          inr (sym first, (omega (arith, second), omega (arith, second), ap (bit_at row) at ∙ bit))
      | inr e ↦ elim ((is.pairs x y).0 e) [ inl o ↦ inl o | inr r ↦ inr (r.0, later_more b a row y r.1) ]
    ],
    λ h. pairs x y ∙ elim h [
      | inl o ↦ or_right (eqb a x && eqb (b + 1) y) (has_pair now.pairs x y) ((is.pairs x y).1 (inl o))
      | inr r ↦ elim (cases_eq y (b + 1)) [
        | inl last ↦ or_left (eqb a x && eqb (b + 1) y) (has_pair now.pairs x y) (and_from (eqb a x) (eqb (b + 1) y) (eq-eqb a x (sym r.0)) (eq-eqb (b + 1) y (sym last)))
        | inr apart ↦ or_right (eqb a x && eqb (b + 1) y) (has_pair now.pairs x y) ((is.pairs x y).1 (inr (r.0, (r.1.0, omega (arith, r.1.1, apart), r.1.2))))
      ]
    ],
  );
}

pub row_passed :
    (old now : PairList) (a row b : ℕ) → HasRowTo old now a row b → (bit_at row b ≡ 1 → ⊥) → HasRowTo old now a row (b + 1)
row_passed old now a row b is none = record {
  same = is.same;
  pairs = λ x y. (
    λ h. elim ((is.pairs x y).0 h) [ inl o ↦ inl o | inr r ↦ inr (r.0, later_more b a row y r.1) ],
    λ h. elim h [
      | inl o ↦ (is.pairs x y).1 (inl o)
      | inr r ↦ elim (cases_eq y (b + 1)) [
        | inl last ↦ let at : y - 1 ≡ b = omega (arith, last) in absurd (none (ap (bit_at row) (sym at) ∙ r.1.2))
        | inr apart ↦ (is.pairs x y).1 (inr (r.0, (r.1.0, omega (arith, r.1.1, apart), r.1.2)))
      ]
    ],
  );
}

pub row_ended :
    (old now : PairList) (a row k : ℕ) → HasRowTo old now a row k → (a ≤ old.n → k ≤ old.n) → a ≤ old.n → old.n ≤ k
    → (x y : ℕ) → (has_pair now.pairs x y ≡ true) ↔ ((has_pair old.pairs x y ≡ true) ⊎ ((x ≡ a) × IsLater old.n a row y))
row_ended old now a row k is upper low all x y =
    let at : k ≡ old.n = let h = upper low in omega (arith, h, all) in
    subst (λ (m : ℕ). (has_pair now.pairs x y ≡ true) ↔ ((has_pair old.pairs x y ≡ true) ⊎ ((x ≡ a) × IsLater m a row y))) at (is.pairs x y)

-- the rows have a later event y for event x, among n events
abbrev pub IsForward : ℕ → List ℕ → ℕ → ℕ → Type 0
IsForward n rows x y = (x < y) × (y ≤ n) × shown rows x y

-- the pairs have those of the first k rows, and those that they had
pub record HasRowsTo (old now : PairList) (rows : List ℕ) (k : ℕ) : Type 0 where
  pub same : now.n ≡ old.n
  pub pairs : (x y : ℕ) → (has_pair now.pairs x y ≡ true) ↔ ((has_pair old.pairs x y ≡ true) ⊎ ((x ≤ k) × IsForward old.n rows x y))

pub rows_begun : (old : PairList) (rows : List ℕ) → HasRowsTo old old rows 0
rows_begun old rows = record {
  same = refl;
  pairs = λ x y. (λ h. inl h, λ h. elim h [ inl e ↦ e | inr e ↦ absurd (none x y e.0 e.1.2) ]);
}
  where
    none : (x y : ℕ) → x ≤ 0 → shown rows x y → ⊥
    none zero y low h = h
    none (suc x) y low h = absurd (omega (arith, low))

later_shown : (n : ℕ) (rows : List ℕ) (k y : ℕ) → IsLater n (k + 1) (get_or rows k 0) y → shown rows (k + 1) y
later_shown n rows k zero h = absurd (omega (arith, h.0))
later_shown n rows k (suc y) h =
    let at : suc y - 1 ≡ y = omega arith in
    let first : k + 1 ≡ suc k = omega arith in
    subst (λ (x : ℕ). shown rows x (suc y)) (sym first) (eq-eqb (bit_at (get_or rows k 0) y) 1 (ap (bit_at (get_or rows k 0)) (sym at) ∙ h.2))

shown_later : (n : ℕ) (rows : List ℕ) (k y : ℕ) → k + 1 < y → y ≤ n → shown rows (k + 1) y → IsLater n (k + 1) (get_or rows k 0) y
shown_later n rows k zero l there h = absurd (omega (arith, l))
shown_later n rows k (suc y) l there h =
    let at : suc y - 1 ≡ y = omega arith in
    let first : k + 1 ≡ suc k = omega arith in
    (l, there, ap (bit_at (get_or rows k 0)) at ∙ eqb-true (bit_at (get_or rows k 0) y) 1 (subst (λ (x : ℕ). shown rows x (suc y)) first h))

pub rows_put :
    (old now new : PairList) (rows : List ℕ) (k : ℕ) → HasRowsTo old now rows k → new.n ≡ now.n
    → ((x y : ℕ) → (has_pair new.pairs x y ≡ true) ↔ ((has_pair now.pairs x y ≡ true) ⊎ ((x ≡ k + 1) × IsLater now.n (k + 1) (get_or rows k 0) y)))
    → HasRowsTo old new rows (k + 1)
rows_put old now new rows k is n pairs = record {
  same = n ∙ is.same;
  pairs = λ x y. (
    λ h. elim ((pairs x y).0 h) [
      | inl e ↦ elim ((is.pairs x y).0 e) [ inl o ↦ inl o | inr r ↦ inr (omega (arith, r.0), r.1) ]
      | inr e ↦
          let later = e.1 in
          inr (
            omega (arith, e.0),
            (omega (arith, e.0, later.0), omega (arith, later.1, is.same), subst (λ (m : ℕ). shown rows m y) (sym e.0) (later_shown now.n rows k y later)),
          )
    ],
    λ h. (pairs x y).1 (elim h [
      | inl o ↦ inl ((is.pairs x y).1 (inl o))
      | inr r ↦ elim (cases_eq x (k + 1)) [
        | inl last ↦ inr (last, shown_later now.n rows k y (omega (arith, last, r.1.0)) (omega (arith, r.1.1, is.same)) (subst (λ (m : ℕ). shown rows m y) last r.1.2))
        | inr apart ↦ inl ((is.pairs x y).1 (inr (omega (arith, r.0, apart), r.1)))
      ]
    ]),
  );
}

-- a row whose bits from its own event on are at most the first has no later event
none_later : (n k row y : ℕ) → row / 2 ^ k ≤ 1 → IsLater n (k + 1) row y → ⊥
none_later n k row y few later =
    let power : 2 ^ (k + 1) ≡ 2 ^ k * 2 = pow-add 2 k 1 in
    let below : row < 2 ^ (k + 1) = elim (cases_lt row (2 ^ (k + 1))) [
      | inl less ↦ less
      | inr more ↦ absurd (omega (arith, few, le-div 2 row (2 ^ k) (pow_pos k) (omega (arith, more, power))))
    ] in
    let none : bit_at row (y - 1) ≡ 0 = bit_at_above row (k + 1) (y - 1) below (omega (arith, later.0)) in
    absurd (omega (arith, none, later.2))

pub rows_passed : (old now : PairList) (rows : List ℕ) (k : ℕ) → HasRowsTo old now rows k → get_or rows k 0 / 2 ^ k ≤ 1 → HasRowsTo old now rows (k + 1)
rows_passed old now rows k is few =
    rows_put old now now rows k is refl (λ x y. (λ h. inl h, λ h. elim h [ inl o ↦ o | inr r ↦ absurd (none_later now.n k (get_or rows k 0) y few r.1) ]))

pub rows_ended :
    (old now : PairList) (rows : List ℕ) (k : ℕ) → HasRowsTo old now rows k → old.n ≤ k
    → (x y : ℕ) → (has_pair now.pairs x y ≡ true) ↔ ((has_pair old.pairs x y ≡ true) ⊎ IsForward old.n rows x y)
rows_ended old now rows k is all x y = (
  λ h. elim ((is.pairs x y).0 h) [ inl o ↦ inl o | inr r ↦ inr r.1 ],
  λ h. (is.pairs x y).1 (elim h [ inl o ↦ inl o | inr r ↦ inr (omega (arith, r.0, r.1, all), r) ]),
)
