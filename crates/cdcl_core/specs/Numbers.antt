-- Private: the clauses that have certain numbers, and the others. Only the contracts of private functions cite it.
use Rattle.std.specs.Prelude.{ℕ, ◌<◌, List, [], ◌∷◌, suc, length, map, nat_eq, slice_index_or, if◌then◌else◌}
use Rattle.std.specs.List.{Contains, list_any}
use Rattle.clause_store.specs.declared.Lit.{Lit}

-- the numbers are of clauses that are there
abbrev pub AreNumbers : List (List Lit) → List ℕ → Type 0
AreNumbers clauses numbers = (n : ℕ) → Contains numbers n → n < length clauses

-- the clauses that have these numbers, counted from 0
unfoldable pub at_numbers : List ℕ → List (List Lit) → List (List Lit)
at_numbers numbers clauses = map (λ n. slice_index_or clauses n []) numbers

-- the clauses that have none of these numbers, where the first one has the number `n`
unfoldable pub at_others : ℕ → List ℕ → List (List Lit) → List (List Lit)
at_others n numbers [] = []
at_others n numbers (c ∷ cs) =
    if list_any (λ m. nat_eq m n) numbers then at_others (suc n) numbers cs else c ∷ at_others (suc n) numbers cs
