-- Names that end in different numbers differ.
use Rattle.std.proofs.Common.{◌≡◌, ℕ, ◌<◌, ◌^◌, false, List, ◌∷◌, arith, inl, inr}
use Rattle.std.specs.Prelude.{decimal, bytes_eq}
use Rattle.std.proofs.lemmas.Bool.{cases_Bool}
use Rattle.std.proofs.lemmas.Slice.Eq.{bytes_eq-Decides}
use Rattle.std.proofs.lemmas.Fmt.{decimal_injective}
use Rattle.model_library.specs.Generated.{numbered}

-- lists that are the same have the same rest
same_rest : (b c : ℕ) (bs cs : List ℕ) → b ∷ bs ≡ c ∷ cs → bs ≡ cs
same_rest b c bs cs h = cc

pub numbered_apart : (letter other i j : ℕ) → i < j → j < 2 ^ 32 → bytes_eq (numbered letter i) (numbered other j) ≡ false
numbered_apart letter other i j less small = elim (cases_Bool (bytes_eq (numbered letter i) (numbered other j))) [
  | inl same ↦
      let texts : numbered letter i ≡ numbered other j = (bytes_eq-Decides (numbered letter i) (numbered other j)).0 same in
      let numbers : i ≡ j = decimal_injective i j (omega (arith, less, small)) (omega (arith, small)) (same_rest letter other (decimal i) (decimal j) texts) in
      absurd (omega (arith, less, numbers))
  | inr apart ↦ apart
]
