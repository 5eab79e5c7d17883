-- Private: how a store grows by a node. Only the contracts of private functions cite it.
use Rattle.std.specs.Prelude.{◌≡◌, ℕ, ◌+◌, ◌≤◌, Bool, List, [], ◌∷◌, ◌++◌, length, map, if◌then◌else◌, All}
use Rattle.std.specs.List.{flat_map}
use Rattle.clause_store.specs.declared.Lit.{Lit}
use Rattle.clause_store.specs.Clauses.{Formula, negated}
use Rattle.fer_events.specs.Tables.{Trace}
use Rattle.value_coding.specs.declared.cell.CodedCell.{CodedCell}
use Rattle.value_coding.specs.Cells.{IsThere}
use Rattle.value_coding.specs.Writers.{writers}
use Rattle.value_coding.specs.LastClauses.{last_lit}
use Rattle.predicate_coding.specs.declared.asked.Asked.{Asked}
use Rattle.predicate_coding.specs.Coding.{wanted}
use Rattle.predicate_coding.specs.Asking.{reads, suits}
use Rattle.predicate_coding.specs.AtomNodes.{Node, as_held_in, same_choices}
use Rattle.predicate_coding.specs.CellChoices.{yes_lit, choice_value, is_slot}
use Rattle.predicate_coding.specs.Fits.{unsuited}

-- the formula with a node's variables and clauses behind its own; its last variable is then that of the node
abbrev pub with_node : Formula → Node → Formula
with_node formula x = record {
  vars = formula.vars + (x.below + 1);
  clauses = formula.clauses ++ x.clauses (formula.vars + 1);
}

-- the formula with one further variable, and clauses behind its own
abbrev pub with_variable : Formula → List (List Lit) → Formula
with_variable formula more = record { vars = formula.vars + 1; clauses = formula.clauses ++ more }

-- the formula with the clause behind its own that asks for its last variable
abbrev pub with_question : Formula → Bool → Formula
with_question formula want = record formula { clauses = formula.clauses ++ (wanted (yes_lit formula.vars) want ∷ []) ∷ [] }

-- a cell of the trace, with its writers, whose variables are among the first n
pub record IsCoded (t : Trace) (n : ℕ) (c : CodedCell) : Type 0 where
  pub some : 1 ≤ c.first
  pub room : c.first + length c.writers ≤ n
  pub writers : c.writers ≡ writers t.events c.cell
  pub there : IsThere t c.cell

abbrev pub AreCoded : Trace → ℕ → List CodedCell → Type 0
AreCoded t n cells = All (IsCoded t n) cells

-- the literal of a choice whose value doesn't suit
abbrev pub if_unsuited : Trace → Asked → CodedCell → ℕ → List Lit
if_unsuited t asked c j = if suits asked c.cell (choice_value t c.cell j) then [] else last_lit c.first j ∷ []

-- those of a cell that is read of the file
abbrev pub if_read : Trace → Asked → ℕ → CodedCell → List Lit
if_read t asked file c = if reads asked file c.cell then unsuited t asked c else []

-- the first literal and any of the others aren't both true
abbrev pub apart : Lit → List Lit → List (List Lit)
apart fits misfits = map (λ x. negated fits ∷ negated x ∷ []) misfits

-- the clauses of a cell, if it is the slot's
abbrev pub if_slot : Trace → ℕ → ℕ → Lit → CodedCell → List (List Lit)
if_slot t slot first own c = if is_slot slot c.cell then as_held_in t slot first own c else []

-- the clauses of a cell of one slot with one of another
abbrev pub if_other : Trace → Lit → ℕ → CodedCell → CodedCell → List (List Lit)
if_other t own slot p q = if is_slot slot q.cell then same_choices t own p q else []

abbrev pub if_both : Trace → Lit → ℕ → ℕ → List CodedCell → CodedCell → List (List Lit)
if_both t own left right cells p = if is_slot left p.cell then flat_map (if_other t own right p) cells else []
