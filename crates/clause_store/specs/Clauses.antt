-- Clauses: lists of literals over numbered variables.
use Rattle.std.specs.Prelude.{ℕ, ◌≤◌, List, Bool, not, nat_eq, ◌&&◌}
use Rattle.std.proofs.Math.Bool.{beq}
use Rattle.clause_store.specs.declared.Lit.{Lit}

-- how many variables there are, and the clauses over them
pub record Formula : Type 0 where
  pub vars : ℕ
  pub clauses : List (List Lit)

-- the literal's variable is one of those that are numbered from 1 to `vars`
abbrev pub InVars : ℕ → Lit → Type 0
InVars vars l = (1 ≤ l.var) × (l.var ≤ vars)

-- the literal of the same variable that is true where this one is false
abbrev pub negated : Lit → Lit
negated l = record l { positive = not l.positive }

-- whether two literals are one
abbrev pub lit_eq : Lit → Lit → Bool
lit_eq a b = nat_eq a.var b.var && beq a.positive b.positive
