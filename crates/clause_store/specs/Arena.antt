-- Private: how a store keeps its clauses, as one list of literals and the place where each clause ends. Only the contracts
-- of private functions cite it.
use Rattle.std.specs.Prelude.{◌≡◌, ℕ, zero, suc, ◌≤◌, List, [], ◌∷◌, length, slice_range, slice_index}
use Rattle.std.specs.List.{All}
use Rattle.clause_store.specs.declared.Lit.{Lit}
use Rattle.clause_store.specs.Clauses.{Formula, InVars}

-- the pieces of a list that lie between the ends, the first of them beginning at a place
abbrev pub pieces : ℕ → List ℕ → List Lit → List (List Lit)
pieces from [] lits = []
pieces from (e ∷ es) lits = slice_range lits from e ∷ pieces e es lits

-- where the piece of this number begins, counted from 0
abbrev pub start_at : ℕ → List ℕ → ℕ → ℕ
start_at from es zero = from
start_at from es (suc k) = slice_index es k

-- the ends don't fall, and the last one is the end of the whole list
abbrev pub AreEnds : ℕ → List ℕ → ℕ → Type 0
AreEnds from [] n = from ≡ n
AreEnds from (e ∷ es) n = (from ≤ e) × AreEnds e es n

abbrev pub formula_of : ℕ → List ℕ → List Lit → Formula
formula_of vars ends lits = record { vars = vars; clauses = pieces 0 ends lits }

-- what is true of each store
pub record IsArena (vars : ℕ) (ends : List ℕ) (lits : List Lit) : Type 0 where
  pub cut : AreEnds 0 ends (length lits)
  pub named : All (InVars vars) lits
