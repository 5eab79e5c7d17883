-- Bytes of one sort at the front of others: what a reader takes up to the first byte of another sort.
use Rattle.std.specs.Prelude.{◌≡◌, ℕ, Bool, true, false, List, ◌∷◌, ◌++◌, All, nat_lt}
use Rattle.std.specs.Char.{digit_value}

-- which bytes are decimal digits
abbrev pub is_decimal_digit : ℕ → Bool
is_decimal_digit b = nat_lt (digit_value b) 10

-- the first byte, if there is one, doesn't pass the test
abbrev pub StartsNot : (ℕ → Bool) → List ℕ → Type 0
StartsNot test bytes = (b : ℕ) (bs : List ℕ) → bytes ≡ b ∷ bs → test b ≡ false

-- the bytes begin with these that pass the test, and then with none
pub record IsSpan (test : ℕ → Bool) (bytes front back : List ℕ) : Type 0 where
  pub spelled : bytes ≡ front ++ back
  pub passes : All (λ b. test b ≡ true) front
  pub ends : StartsNot test back
