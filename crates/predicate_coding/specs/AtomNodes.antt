-- The nodes of atoms: their variables and clauses.
use Rattle.std.specs.Prelude.{ℕ, ◌+◌, Bool, ◌==◌, List, [], ◌∷◌, ◌++◌, length, map, filter, if◌then◌else◌, Option, Some, None}
use Rattle.std.specs.List.{flat_map, range_with_len}
use Rattle.clause_store.specs.declared.Lit.{Lit}
use Rattle.clause_store.specs.Clauses.{negated}
use Rattle.fer_events.specs.declared.event.Event.{Event}
use Rattle.fer_events.specs.Orders.{numbers}
use Rattle.fer_events.specs.Tables.{Trace}
use Rattle.fer_events.specs.Truth.{same_file}
use Rattle.order_coding.specs.Variables.{in_lit}
use Rattle.value_coding.specs.Writers.{writers}
use Rattle.value_coding.specs.LastClauses.{last_lit}
use Rattle.value_coding.specs.WordMarks.{is_mark}
use Rattle.value_coding.specs.declared.cell.CodedCell.{CodedCell}
use Rattle.predicate_coding.specs.declared.asked.Asked.{Asked}
use Rattle.predicate_coding.specs.declared.asked.Asked.TheVariants.{Presence}
use Rattle.predicate_coding.specs.CellChoices.{choices, choice_value, yes_lit, candidates, slot_cells, file_in}
use Rattle.predicate_coding.specs.Fits.{fits_lit, fits_clauses}

-- a node: how many variables stand before its own, and its clauses, the first of these variables having this number
pub record Node : Type 0 where
  pub below : ℕ
  pub clauses : ℕ → List (List Lit)

-- where the slot holds nothing the node is false; where it holds a file the node is as the file fits
abbrev pub as_held : Trace → ℕ → ℕ → Lit → Lit → Option ℕ → List (List Lit)
as_held t slot first own last None = (negated last ∷ negated own ∷ []) ∷ []
as_held t slot first own last (Some file) =
    (negated last ∷ negated (fits_lit t slot first file) ∷ own ∷ []) ∷ (negated last ∷ fits_lit t slot first file ∷ negated own ∷ []) ∷ []

-- the same of the first `count` choices of a cell, and of all
abbrev pub as_held_to : Trace → ℕ → ℕ → Lit → CodedCell → ℕ → List (List Lit)
as_held_to t slot first own c count = flat_map (λ j. as_held t slot first own (last_lit c.first j) (file_in (choice_value t c.cell j))) (range_with_len 0 count)

abbrev pub as_held_in : Trace → ℕ → ℕ → Lit → CodedCell → List (List Lit)
as_held_in t slot first own c = as_held_to t slot first own c (length (writers t.events c.cell) + 1)

-- an atom that asks something of the file in a slot
abbrev pub file_node : Trace → List CodedCell → Asked → ℕ → Node
file_node t cells asked slot = record {
  below = length (candidates t slot);
  clauses = λ first.
      flat_map (fits_clauses t cells first asked slot) (candidates t slot)
      ++ flat_map (as_held_in t slot first (yes_lit (first + length (candidates t slot)))) (slot_cells cells slot);
}

-- a node that is never true, and one that always is
abbrev pub never : Node
never = record { below = 0; clauses = λ own. (negated (yes_lit own) ∷ []) ∷ [] }

abbrev pub always : Node
always = record { below = 0; clauses = λ own. (yes_lit own ∷ []) ∷ [] }

-- an atom with a path is never true where the path has no slot
abbrev pub path_node : Trace → List CodedCell → Asked → Option ℕ → Node
path_node t cells asked None = never
path_node t cells asked (Some slot) = file_node t cells asked slot

-- two slots with these values hold one file, or they don't
abbrev pub as_same : Lit → Bool → Lit
as_same own same = if same then own else negated own

abbrev pub same_choice : Trace → Lit → CodedCell → CodedCell → ℕ → ℕ → List Lit
same_choice t own p q j k =
    negated (last_lit p.first j) ∷ negated (last_lit q.first k)
    ∷ as_same own (same_file (file_in (choice_value t p.cell j)) (file_in (choice_value t q.cell k))) ∷ []

abbrev pub same_choices : Trace → Lit → CodedCell → CodedCell → List (List Lit)
same_choices t own p q = flat_map (λ j. map (same_choice t own p q j) (choices t q.cell)) (choices t p.cell)

-- a slot holds the same file as itself exactly where it holds one
abbrev pub same_slots : Trace → List CodedCell → ℕ → ℕ → Node
same_slots t cells left right =
    if left == right then file_node t cells Presence left else record {
      below = 0;
      clauses = λ own. flat_map (λ p. flat_map (same_choices t (yes_lit own) p) (slot_cells cells right)) (slot_cells cells left);
    }

abbrev pub same_node : Trace → List CodedCell → Option ℕ → Option ℕ → Node
same_node t cells (Some left) (Some right) = same_slots t cells left right
same_node t cells left right = never

-- the marks of a word among events; no mark has a word without a number
abbrev pub marks_in : List Event → Option ℕ → List ℕ
marks_in events None = []
marks_in events (Some word) = filter (is_mark events word) (numbers (length events))

abbrev pub marks : Trace → Option ℕ → List ℕ
marks t word = marks_in t.events word

abbrev pub seen_node : List ℕ → Node
seen_node marks = record {
  below = 0;
  clauses = λ own. (negated (yes_lit own) ∷ map in_lit marks) ∷ map (λ e. negated (in_lit e) ∷ yes_lit own ∷ []) marks;
}
