-- Which numbers their tokens tell.
use Rattle.std.proofs.Common.{◌≡◌, ℕ, ◌^◌, ◌<◌, ◌≤◌, Bool, Some, None, if◌then◌else◌, ap}
use Rattle.std.proofs.lemmas.Bool.{lt-ltb, le-ltb}
use Rattle.lexeme_reader.specs.Lexemes.{narrowed}

pub narrow_is : (n : ℕ) → n < 2 ^ 32 → narrowed n ≡ Some n
narrow_is n below = ap (λ (b : Bool). if b then Some n else None) (lt-ltb n (2 ^ 32) below)

pub wide_is : (n : ℕ) → 2 ^ 32 ≤ n → narrowed n ≡ None
wide_is n above = ap (λ (b : Bool). if b then Some n else None) (le-ltb n (2 ^ 32) above)
