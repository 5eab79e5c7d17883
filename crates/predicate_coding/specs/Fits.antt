-- The clauses that say that a candidate has what an atom asks.
use Rattle.std.specs.Prelude.{ℕ, ◌+◌, not, List, [], ◌∷◌, ◌++◌, length, map, filter, if◌then◌else◌}
use Rattle.std.specs.List.{flat_map, range_with_len}
use Rattle.clause_store.specs.declared.Lit.{Lit}
use Rattle.clause_store.specs.Clauses.{negated}
use Rattle.fer_events.specs.Tables.{Trace}
use Rattle.value_coding.specs.Writers.{writers}
use Rattle.value_coding.specs.LastClauses.{last_lit}
use Rattle.value_coding.specs.declared.cell.CodedCell.{CodedCell}
use Rattle.predicate_coding.specs.declared.asked.Asked.{Asked}
use Rattle.predicate_coding.specs.Asking.{reads, suits, is_unknown}
use Rattle.predicate_coding.specs.CellChoices.{choice_value, yes_lit, candidates_below}

-- the candidate has what is asked; one variable for each, from `first` on
abbrev pub fits_lit : Trace → ℕ → ℕ → ℕ → Lit
fits_lit t slot first file = yes_lit (first + length (candidates_below t slot file))

-- of a cell: it has, among the first `count` of its choices, a value that doesn't suit
abbrev pub unsuited_to : Trace → Asked → CodedCell → ℕ → List Lit
unsuited_to t asked c count = map (last_lit c.first) (filter (λ j. not (suits asked c.cell (choice_value t c.cell j))) (range_with_len 0 count))

-- the same among all
abbrev pub unsuited : Trace → Asked → CodedCell → List Lit
unsuited t asked c = unsuited_to t asked c (length (writers t.events c.cell) + 1)

-- of the cells that are read of a file: one has a value that doesn't suit
abbrev pub misfits : Trace → List CodedCell → Asked → ℕ → List Lit
misfits t cells asked file = flat_map (unsuited t asked) (filter (λ c. reads asked file c.cell) cells)

-- the file fits exactly where there is no misfit
abbrev pub fits_unless : Lit → List Lit → List (List Lit)
fits_unless fits misfits = map (λ x. negated fits ∷ negated x ∷ []) misfits ++ (fits ∷ misfits) ∷ []

abbrev pub fits_clauses : Trace → List CodedCell → ℕ → Asked → ℕ → ℕ → List (List Lit)
fits_clauses t cells first asked slot file =
    if is_unknown asked then (negated (fits_lit t slot first file) ∷ []) ∷ [] else
    fits_unless (fits_lit t slot first file) (misfits t cells asked file)
