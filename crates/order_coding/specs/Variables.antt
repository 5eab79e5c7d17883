-- Which variables say what a crash is. Of n events, variable e says that event e reached the disk before the crash; then
-- comes one variable for each two events a < b, by a, then b, which says that a stands before b in the order.
use Rattle.std.specs.Prelude.{ℕ, ◌+◌, ◌-◌, ◌*◌, ◌/◌, ◌≤◌, true, false, nat_lt, if◌then◌else◌}
use Rattle.clause_store.specs.declared.Lit.{Lit}

-- e is the number of one of n events
abbrev pub IsNumber : ℕ → ℕ → Type 0
IsNumber n e = (1 ≤ e) × (e ≤ n)

-- how many variables there are
abbrev pub order_vars : ℕ → ℕ
order_vars n = n + n * (n - 1) / 2

-- event e is in: it stands before the cut
abbrev pub in_lit : ℕ → Lit
in_lit e = record { var = e; positive = true }

-- the variable of two events a < b
abbrev pub pair_var : ℕ → ℕ → ℕ → ℕ
pair_var n a b = n + (a - 1) * (2 * n - a) / 2 + (b - a)

-- event a stands before event b
abbrev pub before_lit : ℕ → ℕ → ℕ → Lit
before_lit n a b =
    if nat_lt a b then record { var = pair_var n a b; positive = true } else record { var = pair_var n b a; positive = false }
