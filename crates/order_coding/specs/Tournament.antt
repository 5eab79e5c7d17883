-- Tournaments: of each two numbers of a list, one comes before the other.
use Rattle.std.specs.Prelude.{◌≡◌, ◌≢◌, ℕ, Bool, true, false, not, List, count_by}
use Rattle.std.specs.List.{Contains}

-- of two different numbers one is before the other, and none is before itself
pub record IsTournament (xs : List ℕ) (before : ℕ → ℕ → Bool) : Type 0 where
  pub one : (x y : ℕ) → Contains xs x → Contains xs y → x ≢ y → before x y ≡ not (before y x)
  pub none : (x : ℕ) → Contains xs x → before x x ≡ false

-- no three numbers are each before the next and the last before the first
abbrev pub HasNoCycle : List ℕ → (ℕ → ℕ → Bool) → Type 0
HasNoCycle xs before =
    (x y z : ℕ) → Contains xs x → Contains xs y → Contains xs z
    → before x y ≡ true → before y z ≡ true → before z x ≡ true → ⊥

-- how many numbers of the list are before x
abbrev pub rank : List ℕ → (ℕ → ℕ → Bool) → ℕ → ℕ
rank xs before x = count_by (λ y. before y x) xs
