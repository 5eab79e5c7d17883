-- What the rows have whose bit is set in a word.
use Rattle.std.proofs.Common.{◌≡◌, ℕ, ◌+◌, ◌-◌, ◌*◌, ◌/◌, ◌%◌, ◌^◌, ◌<◌, ◌≤◌, ◌⊎◌, ◌↔◌, inl, inr, true, List, length, get_or, bit_and, bit_or, refl, sym, ◌∙◌, ap, subst, arith}
use Rattle.std.specs.Int.{bit_at, trailing_zeros, w64}
use Rattle.std.proofs.lemmas.Bool.{cases_lt, eq-eqb, eqb-true}
use Rattle.std.proofs.lemmas.Nat.Bits.{bit_at-zero, bit_at_above, bit_at_cat_low, bit_at_cat_high}
use Rattle.event_relations.specs.Rows.{has, ReachesFrom}
use Rattle.event_relations.proofs.Joining.{has_within, or_row, or_cases, or_left, or_right}
use Rattle.event_relations.proofs.LowestBits.{lowest_taken}
use Rattle.event_relations.proofs.Changing.{Reaches}

-- what was there and what the word reaches is in `all` or is reached by the rest of the word
abbrev pub IsGathered : List ℕ → ℕ → ℕ → ℕ → ℕ → ℕ → Type 0
IsGathered rows first word init rest all =
    (b : ℕ) → ((bit_at init b ≡ 1) ⊎ ReachesFrom rows first word b) ↔ ((bit_at all b ≡ 1) ⊎ ReachesFrom rows first rest b)

pub gathered_start : (rows : List ℕ) (first word init : ℕ) → IsGathered rows first word init word init
gathered_start rows first word init b = (λ h. h, λ h. h)

-- the lowest bit goes from the rest, and what its row has is there now
gathered_more :
    (rows : List ℕ) (first word init rest all new : ℕ) → IsGathered rows first word init rest all → 0 < rest → rest < 2 ^ 64
    → ((b : ℕ) → (bit_at new b ≡ 1) ↔ ((bit_at all b ≡ 1) ⊎ (has rows (first + trailing_zeros w64 rest) b ≡ true)))
    → IsGathered rows first word init (bit_and rest (rest - 1)) new
gathered_more rows first word init rest all new is some fits adds b =
    let low = trailing_zeros w64 rest in
    let bits = lowest_taken rest some fits in (
      λ h. elim ((is b).0 h) [
        | inl e ↦ inl ((adds b).1 (inl e))
        | inr e ↦ elim ((bits e.0).0 e.1) [
          | inl same ↦ inl ((adds b).1 (inr (subst (λ (c : ℕ). has rows (first + c) b ≡ true) same e.2)))
          | inr other ↦ inr (e.0, other, e.2)
        ]
      ],
      λ h. elim h [
        | inl e ↦ elim ((adds b).0 e) [
          | inl old ↦ (is b).1 (inl old)
          | inr reached ↦ (is b).1 (inr (low, (bits low).1 (inl refl), reached))
        ]
        | inr e ↦ (is b).1 (inr (e.0, (bits e.0).1 (inr e.1), e.2))
      ],
    )

pub gathered_taken :
    (rows : List ℕ) (first word init rest all : ℕ) → IsGathered rows first word init rest all → 0 < rest → rest < 2 ^ 64
    → IsGathered rows first word init (bit_and rest (rest - 1)) (bit_or all (get_or rows (first + trailing_zeros w64 rest) 0))
gathered_taken rows first word init rest all is some fits =
    let row = get_or rows (first + trailing_zeros w64 rest) 0 in
    gathered_more rows first word init rest all (bit_or all row) is some fits (λ b. (
      λ h. elim (or_cases _ _ (sym (or_row all row b) ∙ eq-eqb _ _ h)) [ inl e ↦ inl (eqb-true _ _ e) | inr e ↦ inr e ],
      λ h. eqb-true _ _ (or_row all row b ∙ elim h [ inl e ↦ or_left _ _ (eq-eqb _ _ e) | inr e ↦ or_right _ _ e ]),
    ))

pub gathered_skipped :
    (rows : List ℕ) (first word init rest all : ℕ) → IsGathered rows first word init rest all → 0 < rest → rest < 2 ^ 64
    → length rows ≤ first + trailing_zeros w64 rest → IsGathered rows first word init (bit_and rest (rest - 1)) all
gathered_skipped rows first word init rest all is some fits far =
    gathered_more rows first word init rest all all is some fits (λ b. (
      λ h. inl h,
      λ h. elim h [ inl e ↦ e | inr e ↦ absurd (omega (arith, far, has_within rows (first + trailing_zeros w64 rest) b e)) ],
    ))

pub gathered_end :
    (rows : List ℕ) (first word init rest all : ℕ) → IsGathered rows first word init rest all → rest ≡ 0
    → (b : ℕ) → (bit_at all b ≡ 1) ↔ ((bit_at init b ≡ 1) ⊎ ReachesFrom rows first word b)
gathered_end rows first word init rest all is none b = (
  λ h. (is b).1 (inl h),
  λ h. elim ((is b).0 h) [
    | inl e ↦ e
    | inr e ↦ absurd (omega (arith, ap (λ (r : ℕ). bit_at r e.0) (sym none) ∙ e.1, bit_at-zero e.0))
  ],
)

-- the bits of a number are those of its halves
halves : (row : ℕ) → row ≡ (row / 2 ^ 64) * 2 ^ 64 + row % 2 ^ 64
halves row = omega arith

low_bit : (row c : ℕ) → c < 64 → bit_at row c ≡ bit_at (row % 2 ^ 64) c
low_bit row c few = ap (λ (n : ℕ). bit_at n c) (halves row) ∙ bit_at_cat_low (row / 2 ^ 64) 64 (row % 2 ^ 64) c few

high_bit : (row c : ℕ) → 64 ≤ c → bit_at row c ≡ bit_at (row / 2 ^ 64) (c - 64)
high_bit row c far = ap (λ (n : ℕ). bit_at n c) (halves row) ∙ bit_at_cat_high (row / 2 ^ 64) 64 (row % 2 ^ 64) c (omega arith) far

from_none : (c : ℕ) → 0 + c ≡ c
from_none c = omega arith

-- what the halves of a row reach is what the row reaches
pub halves_reach :
    (rows : List ℕ) (row high low all : ℕ) → high ≡ row / 2 ^ 64
    → ((b : ℕ) → (bit_at low b ≡ 1) ↔ ((bit_at 0 b ≡ 1) ⊎ ReachesFrom rows 0 (row % 2 ^ 64) b))
    → ((b : ℕ) → (bit_at all b ≡ 1) ↔ ((bit_at low b ≡ 1) ⊎ ReachesFrom rows 64 high b))
    → (b : ℕ) → (bit_at all b ≡ 1) ↔ Reaches rows row b
halves_reach rows row high low all is of_low of_high b =
    let from_low : ReachesFrom rows 0 (row % 2 ^ 64) b → Reaches rows row b = λ h. elim (cases_lt h.0 64) [
      | inl few ↦ (h.0, low_bit row h.0 few ∙ h.1, subst (λ (c : ℕ). has rows c b ≡ true) (from_none h.0) h.2)
      | inr far ↦ absurd (omega (arith, h.1, bit_at_above (row % 2 ^ 64) 64 h.0 (omega arith) far))
    ] in
    let from_high : ReachesFrom rows 64 high b → Reaches rows row b = λ h.
    let back : 64 + h.0 - 64 ≡ h.0 = omega arith in
    (64 + h.0, high_bit row (64 + h.0) (omega arith) ∙ ap (bit_at (row / 2 ^ 64)) back ∙ ap (λ (n : ℕ). bit_at n h.0) (sym is) ∙ h.1, h.2) in (
      λ h. elim ((of_high b).0 h) [
        | inl e ↦ elim ((of_low b).0 e) [ inl none ↦ absurd (omega (arith, none, bit_at-zero b)) | inr r ↦ from_low r ]
        | inr e ↦ from_high e
      ],
      λ h. elim (cases_lt h.0 64) [
        | inl few ↦ (of_high b).1 (inl ((of_low b).1 (inr (h.0, sym (low_bit row h.0 few) ∙ h.1, subst (λ (c : ℕ). has rows c b ≡ true) (sym (from_none h.0)) h.2))))
        | inr far ↦
            let there : 64 + (h.0 - 64) ≡ h.0 = omega (arith, far) in
            (of_high b).1 (inr (
              h.0 - 64,
              ap (λ (n : ℕ). bit_at n (h.0 - 64)) is ∙ sym (high_bit row h.0 far) ∙ h.1,
              subst (λ (c : ℕ). has rows c b ≡ true) (sym there) h.2,
            ))
      ],
    )
