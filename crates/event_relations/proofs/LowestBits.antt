-- A number without its lowest bit.
use Rattle.std.proofs.Common.{◌≡◌, ℕ, zero, suc, ◌-◌, ◌/◌, ◌%◌, ◌^◌, ◌<◌, ◌⊎◌, ◌↔◌, inl, inr, bit_and, sym, ◌∙◌, ap, arith}
use Rattle.std.specs.Int.{bit_at, trailing_zeros, w64}
use Rattle.std.proofs.lemmas.Bool.{cases_eq, cases_lt}
use Rattle.std.proofs.lemmas.Nat.{and_le_r}
use Rattle.std.proofs.lemmas.Nat.Bits.{bit_at_lowest, bit_at-suc, bit_at_and, bit_at-lt, bit_at-zero, bit_at-trailing_zeros}

-- the halves of an odd number and of the one before it are the same
odd_halves : (n i : ℕ) → n % 2 ≡ 1 → bit_at (n - 1) (suc i) ≡ bit_at n (suc i)
odd_halves n i odd =
    let same : (n - 1) / 2 ≡ n / 2 = omega (arith, odd) in
    bit_at-suc (n - 1) i ∙ ap (λ (m : ℕ). bit_at m i) same ∙ sym (bit_at-suc n i)

-- one less changes no bit above a bit that is set
one_less : (i n j : ℕ) → j < i → bit_at n j ≡ 1 → bit_at (n - 1) i ≡ bit_at n i
one_less zero n j h set = absurd (omega (arith, h))
one_less (suc i) n zero h set = odd_halves n i (sym (bit_at_lowest n) ∙ set)
one_less (suc i) n (suc j) h set = elim (cases_eq (n % 2) 1) [
  | inl odd ↦ odd_halves n i odd
  | inr even ↦
      let half : bit_at (n / 2) j ≡ 1 = sym (bit_at-suc n j) ∙ set in
      let some : 0 < n / 2 = elim (cases_eq (n / 2) 0) [
        | inl none ↦ absurd (omega (arith, ap (λ (m : ℕ). bit_at m j) (sym none) ∙ half, bit_at-zero j))
        | inr more ↦ omega (arith, more)
      ] in
      let before : (n - 1) / 2 ≡ n / 2 - 1 = omega (arith, even, some) in
      bit_at-suc (n - 1) i ∙ ap (λ (m : ℕ). bit_at m i) before ∙ one_less i (n / 2) j (omega (arith, h)) half ∙ sym (bit_at-suc n i)
]

-- the bits of a number are its lowest and those of `n & (n - 1)`
pub lowest_taken :
    (n : ℕ) → 0 < n → n < 2 ^ 64
    → (i : ℕ) → (bit_at n i ≡ 1) ↔ ((i ≡ trailing_zeros w64 n) ⊎ (bit_at (bit_and n (n - 1)) i ≡ 1))
lowest_taken n some fits i =
    let low = trailing_zeros w64 n in
    let is = bit_at-trailing_zeros w64 n some fits in (
      λ h. elim (cases_eq i low) [
        | inl same ↦ inl same
        | inr apart ↦ elim (cases_lt i low) [
          | inl below ↦ absurd (omega (arith, h, is.2 i below))
          | inr above ↦ inr (omega (arith, bit_at_and n (n - 1) i, h, one_less i n low (omega (arith, above, apart)) is.1))
        ]
      ],
      λ h. elim h [
        | inl same ↦ ap (bit_at n) same ∙ is.1
        | inr rest ↦ omega (arith, bit_at_and n (n - 1) i, rest, bit_at-lt n i)
      ],
    )

pub taken_less : (n : ℕ) → 0 < n → bit_and n (n - 1) < n
taken_less n some = omega (arith, and_le_r n (n - 1), some)

pub some_left : (n : ℕ) → (n ≡ 0 → ⊥) → 0 < n
some_left n some = omega (arith, some)
