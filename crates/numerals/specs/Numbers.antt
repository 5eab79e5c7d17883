-- How numbers are written on a line: in decimal digits.
use Rattle.std.specs.Prelude.{◌≡◌, ℕ, ◌≤◌, List, ◌∷◌, ◌++◌, decimal}
use Rattle.std.specs.List.{flat_map}
use Rattle.std.specs.Str.Parse.{IsNumeral, digits_value}

-- decimal digits, leading zeros allowed, of a number that is at most 2^32 - 1
abbrev pub IsDecimal : List ℕ → ℕ → Type 0
IsDecimal digits n = IsNumeral 10 digits × (digits_value 10 digits ≡ n) × (n ≤ 4294967295)

-- each number with a space before it, without leading zeros
abbrev pub numbers_text : List ℕ → List ℕ
numbers_text ns = flat_map (λ n. 32 ∷ decimal n) ns
