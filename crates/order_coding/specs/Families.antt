-- The clauses that say of values that they are a crash, in four families.
use Rattle.std.specs.Prelude.{ℕ, ◌+◌, ◌-◌, ◌==◌, List, [], ◌∷◌, ◌++◌, length, map, if◌then◌else◌, slice_index}
use Rattle.std.specs.List.{flat_map, range_with_len}
use Rattle.clause_store.specs.declared.Lit.{Lit}
use Rattle.clause_store.specs.Clauses.{Formula, negated}
use Rattle.fer_events.specs.declared.event.Event.{Event}
use Rattle.fer_events.specs.Orders.{numbers}
use Rattle.order_coding.specs.Variables.{order_vars, in_lit, before_lit}

-- each kept pair stands in its order
abbrev pub kept_pairs : ℕ → List (ℕ × ℕ) → List (List Lit)
kept_pairs n kept = map (λ p. before_lit n p.0 p.1 ∷ []) kept

-- a, b, c are in no cycle, in neither direction
abbrev pub no_cycle : ℕ → ℕ → ℕ → ℕ → List (List Lit)
no_cycle n a b c =
    (negated (before_lit n a b) ∷ negated (before_lit n b c) ∷ before_lit n a c ∷ [])
    ∷ (before_lit n a b ∷ before_lit n b c ∷ negated (before_lit n a c) ∷ []) ∷ []

-- the same for each c behind a < b, and for each two behind a
abbrev pub no_cycle_with : ℕ → ℕ → ℕ → List (List Lit)
no_cycle_with n a b = flat_map (no_cycle n a b) (range_with_len (b + 1) (n - b))

abbrev pub no_cycle_from : ℕ → ℕ → List (List Lit)
no_cycle_from n a = flat_map (no_cycle_with n a) (range_with_len (a + 1) (n - a))

-- no a < b < c are in a cycle
abbrev pub no_cycles : ℕ → List (List Lit)
no_cycles n = flat_map (no_cycle_from n) (numbers n)

-- where b is in and a stands before it, a is in
abbrev pub in_before : ℕ → ℕ → ℕ → List (List Lit)
in_before n a b =
    if a == b then [] else (negated (in_lit b) ∷ negated (before_lit n a b) ∷ in_lit a ∷ []) ∷ []

abbrev pub in_before_each : ℕ → ℕ → List (List Lit)
in_before_each n a = flat_map (in_before n a) (numbers n)

-- the events that are in are the first ones of the order
abbrev pub cut_is_prefix : ℕ → List (List Lit)
cut_is_prefix n = flat_map (in_before_each n) (numbers n)

-- the transaction of event e
abbrev pub txn_of : List Event → ℕ → ℕ
txn_of events e = slice_index (map (λ event. event.txn) events) (e - 1)

-- events e and e + 1, if they are of one transaction, are both in or both not
abbrev pub in_together : List Event → ℕ → List (List Lit)
in_together events e =
    if txn_of events e == txn_of events (e + 1)
    then (negated (in_lit e) ∷ in_lit (e + 1) ∷ []) ∷ (in_lit e ∷ negated (in_lit (e + 1)) ∷ []) ∷ []
    else []

-- no transaction is split by the cut
abbrev pub transactions_whole : List Event → List (List Lit)
transactions_whole events = flat_map (in_together events) (numbers (length events - 1))

-- all clauses, in their order
unfoldable pub order_clauses : List Event → List (ℕ × ℕ) → List (List Lit)
order_clauses events kept =
    kept_pairs (length events) kept ++ no_cycles (length events) ++ cut_is_prefix (length events) ++ transactions_whole events

-- the formula that is true of exactly the values of crashes
abbrev pub order_formula : List Event → List (ℕ × ℕ) → Formula
order_formula events kept = record { vars = order_vars (length events); clauses = order_clauses events kept }
