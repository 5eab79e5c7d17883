-- The clauses that say which event writes each cell last.
use Rattle.std.specs.Prelude.{◌≡◌, ◌↔◌, ℕ, zero, suc, ◌+◌, ◌-◌, ◌≤◌, ◌==◌, Bool, true, List, [], ◌∷◌, ◌++◌, length, take, map, if◌then◌else◌, Option, None, slice_get, slice_index}
use Rattle.std.specs.List.{flat_map, range_with_len}
use Rattle.clause_store.specs.declared.Lit.{Lit}
use Rattle.clause_store.specs.Clauses.{Formula, negated}
use Rattle.clause_store.specs.Truth.{is_true}
use Rattle.fer_events.specs.declared.event.Event.{Event}
use Rattle.fer_events.specs.Orders.{numbers}
use Rattle.order_coding.specs.Variables.{order_vars, in_lit, before_lit}
use Rattle.order_coding.specs.Families.{order_formula}
use Rattle.value_coding.specs.declared.cell.Cell.{Cell}
use Rattle.value_coding.specs.Writers.{writers}

-- the j-th writer is the last one that is in, or for 0 none of them is in; `first` is the variable for 0
abbrev pub last_lit : ℕ → ℕ → Lit
last_lit first j = record { var = first + j; positive = true }

-- the j-th writer, counted from 1
abbrev pub writer_at : List ℕ → ℕ → ℕ
writer_at writers j = slice_index writers (j - 1)

-- one of these is true
abbrev pub some_last : ℕ → List ℕ → List Lit
some_last first writers = map (last_lit first) (range_with_len 0 (length writers + 1))

-- where the j-th is the last one, any other that is in stands before it
abbrev pub other_before : ℕ → ℕ → List ℕ → ℕ → ℕ → List (List Lit)
other_before n first writers j k =
    if k == j then [] else
    (negated (last_lit first j) ∷ negated (in_lit (writer_at writers k)) ∷ before_lit n (writer_at writers k) (writer_at writers j) ∷ []) ∷ []

-- where the j-th is the last one, it is in, and the others stand before it
abbrev pub last_is : ℕ → ℕ → List ℕ → ℕ → List (List Lit)
last_is n first writers j =
    (negated (last_lit first j) ∷ in_lit (writer_at writers j) ∷ []) ∷ flat_map (other_before n first writers j) (numbers (length writers))

-- where there is none, the k-th isn't in
abbrev pub none_is : ℕ → List ℕ → ℕ → List Lit
none_is first writers k = negated (last_lit first 0) ∷ negated (in_lit (writer_at writers k)) ∷ []

-- the clauses of one cell with these writers, over n events
abbrev pub last_clauses : ℕ → ℕ → List ℕ → List (List Lit)
last_clauses n first writers =
    (some_last first writers ∷ []) ++ flat_map (last_is n first writers) (numbers (length writers)) ++ map (none_is first writers) (numbers (length writers))

-- the clauses of cells with these writers; the variables of each stand behind those of the cells before it
abbrev pub each_last : ℕ → ℕ → List (List ℕ) → List (List Lit)
each_last n first [] = []
each_last n first (writers ∷ more) = last_clauses n first writers ++ each_last n (first + (length writers + 1)) more

-- how many variables these cells have
abbrev pub last_vars : List (List ℕ) → ℕ
last_vars [] = 0
last_vars (writers ∷ more) = length writers + 1 + last_vars more

-- the formula with the variables and clauses of the last writers of these cells behind its own
abbrev pub with_last_writers : List Event → List Cell → Formula → Formula
with_last_writers events cells formula = record {
  vars = formula.vars + last_vars (map (writers events) cells);
  clauses = formula.clauses ++ each_last (length events) (formula.vars + 1) (map (writers events) cells);
}

-- the formula of the crashes with the last writers of these cells
abbrev pub value_formula : List Event → List (ℕ × ℕ) → List Cell → Formula
value_formula events kept cells = with_last_writers events cells (order_formula events kept)

-- the variable for none of the cell at this place
abbrev pub first_var : List Event → List Cell → ℕ → ℕ
first_var events cells i = order_vars (length events) + 1 + last_vars (take i (map (writers events) cells))

-- the writer that a number names, counted from 1; 0 names none
abbrev pub named_writer : List ℕ → ℕ → Option ℕ
named_writer writers zero = None
named_writer writers (suc j) = slice_get writers j

-- of the variables of a cell the values make exactly one true, that of this writer
pub record SaysLast (values : List Bool) (first : ℕ) (writers : List ℕ) (writer : Option ℕ) : Type 0 where
  pub number : ℕ
  pub within : number ≤ length writers
  pub names : named_writer writers number ≡ writer
  pub one : (j : ℕ) → j ≤ length writers → (is_true values (last_lit first j) ≡ true) ↔ (j ≡ number)
