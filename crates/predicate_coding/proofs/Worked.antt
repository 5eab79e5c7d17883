-- The examples, computed.
use Rattle.std.proofs.Common.{◌≡◌, ℕ, ◌+◌, Bool, true, false, List, [], ◌∷◌, ◌++◌, length, codes, Some, refl, ◌∙◌, ap, arith}
use Rattle.std.specs.List.{list_any}
use Rattle.litmus_syntax.specs.declared.pred.Pred as whole
use Rattle.litmus_syntax.specs.declared.pred.Pred.{Pred, fold-roll-Pred}
use Rattle.litmus_syntax.specs.declared.pred.Pred.TheOpen as atom
use Rattle.litmus_syntax.specs.declared.pred.Pred.TheVariants as pred
use Rattle.clause_store.specs.Clauses.{Formula}
use Rattle.fer_events.specs.Tables.{Trace}
use Rattle.fer_events.specs.States.{padded}
use Rattle.order_coding.specs.Variables.{order_vars}
use Rattle.order_coding.specs.Families.{order_clauses}
use Rattle.value_coding.specs.declared.cell.Cell.{Cell}
use Rattle.value_coding.specs.declared.cell.Cell.TheVariants.{SlotOf, SizeOf, Segment}
use Rattle.value_coding.specs.declared.reading.Part.{Part}
use Rattle.value_coding.specs.declared.reading.Part.TheVariants.{Name}
use Rattle.value_coding.specs.Segments.{cut_places, has_place, is_read, edges, segments, file_places}
use Rattle.value_coding.specs.Readings.{parts, readings_of, readings}
use Rattle.value_coding.specs.QuestionCells.{cells}
use Rattle.value_coding.specs.LastClauses.{value_formula}
use Rattle.value_coding.specs.Examples.{one_write, replaced, content_is}
use Rattle.value_coding.proofs.GeneralReadings.{readings-Exists, readings-Seen, readings-Not, readings-And}
use Rattle.value_coding.proofs.GeneralRuns.{runs-end}
use Rattle.value_coding.proofs.GeneralExamples.{one-cells, replaced-cells}
use Rattle.predicate_coding.specs.declared.asked.Asked.TheVariants.{Presence, Content}
use Rattle.value_coding.specs.declared.cell.CodedCell.{CodedCell}
use Rattle.value_coding.specs.CodedCells.{coded_cells}
use Rattle.predicate_coding.specs.AtomNodes.{Node, path_node, marks, seen_node, always, never}
use Rattle.predicate_coding.specs.Nodes.{node, own_lit, not_node, two_node, and_clauses}
use Rattle.predicate_coding.specs.CellChoices.{yes_lit}
use Rattle.predicate_coding.specs.Coding.{node_in, wanted, coding}
use Rattle.predicate_coding.specs.Examples.{created, nothing, seen_but_gone, no_lit}
use Rattle.predicate_coding.proofs.Folds.{node-True, node-False, node-Exists, node-ContentIs, node-Seen, node-Not, node-And}

-- the formula with these cells and this node
abbrev formula_of : Trace → List (ℕ × ℕ) → Bool → List Cell → Node → Formula
formula_of t kept want cells x = record {
  vars = (value_formula t.events [] cells).vars + (x.below + 1);
  clauses =
      (value_formula t.events kept cells).clauses
      ++ x.clauses ((value_formula t.events [] cells).vars + 1)
      ++ (wanted (own_lit x ((value_formula t.events [] cells).vars + 1)) want ∷ []) ∷ [];
}

abbrev own_cells : Trace → List Cell → List CodedCell
own_cells t cells = coded_cells t.events (order_vars (length t.events) + 1) cells

coding-is : (t : Trace) (kept : List (ℕ × ℕ)) (q : Pred) (want : Bool) (cs : List Cell) (x : Node) → cells t q ≡ cs → node t (own_cells t cs) q ≡ x → coding t kept q want ≡ formula_of t kept want cs x
coding-is t kept q want cs x e f =
    ap (λ (cs : List Cell). formula_of t kept want cs (node t (own_cells t cs) q)) e ∙ ap (formula_of t kept want cs) f

-- no place is read where no part is one of places
abbrev has_part : List Part → ℕ → Bool
has_part ps place = list_any (has_place place) ps

no-segments : (t : Trace) (q : Pred) (file : ℕ) (ps : List Part) → parts t q file ≡ ps → ((place : ℕ) → has_part ps place ≡ false) → segments t q file ≡ []
unfolding segments cut_places
no-segments t q file ps e none =
    runs-end (is_read t q file) (edges t q file) 0 file_places (omega arith) (λ place h m. ap (λ (ps : List Part). has_part ps place) e ∙ none place)

-- `seen(done) and not exists(/f)` over `create /f`, `mark done`
gone-reads : readings created seen_but_gone ≡ (0, Name) ∷ []
gone-reads =
    readings-And created (pred.Seen (codes "done")) (pred.Not (pred.Exists (codes "f" ∷ [])))
    ∙ ap (λ (xs : List (ℕ × Part)). xs ++ readings created (pred.Not (pred.Exists (codes "f" ∷ [])))) (readings-Seen created (codes "done"))
    ∙ readings-Not created (pred.Exists (codes "f" ∷ []))
    ∙ readings-Exists created (codes "f" ∷ [])

gone-parts : parts created seen_but_gone 0 ≡ Name ∷ []
gone-parts = rw gone-reads refl

gone-segments : segments created seen_but_gone 0 ≡ []
gone-segments = no-segments created seen_but_gone 0 (Name ∷ []) gone-parts (λ place. refl)

gone-cells : cells created seen_but_gone ≡ SlotOf 0 ∷ []
gone-cells = rw (gone-reads, gone-segments) refl

abbrev gone_node : Node
gone_node = two_node and_clauses (seen_node (marks created (Some 0))) (not_node (path_node created (own_cells created (SlotOf 0 ∷ [])) Presence (Some 0)))

gone-node : node created (own_cells created (SlotOf 0 ∷ [])) seen_but_gone ≡ gone_node
gone-node =
    let cs : List CodedCell = own_cells created (SlotOf 0 ∷ []) in
    node-And created (own_cells created (SlotOf 0 ∷ [])) (pred.Seen (codes "done")) (pred.Not (pred.Exists (codes "f" ∷ [])))
    ∙ ap (λ (x : Node). two_node and_clauses x (node created (own_cells created (SlotOf 0 ∷ [])) (pred.Not (pred.Exists (codes "f" ∷ []))))) (node-Seen created (own_cells created (SlotOf 0 ∷ [])) (codes "done"))
    ∙ ap (two_node and_clauses (seen_node (marks created (Some 0))))
    (node-Not created (own_cells created (SlotOf 0 ∷ [])) (pred.Exists (codes "f" ∷ [])) ∙ ap not_node (node-Exists created (own_cells created (SlotOf 0 ∷ [])) (codes "f" ∷ [])))

pub gone-coding : coding created ((1, 2) ∷ []) seen_but_gone true ≡ formula_of created ((1, 2) ∷ []) true (SlotOf 0 ∷ []) gone_node
gone-coding = coding-is created ((1, 2) ∷ []) seen_but_gone true (SlotOf 0 ∷ []) gone_node gone-cells gone-node

pub gone-vars : (coding created ((1, 2) ∷ []) seen_but_gone true).vars ≡ 10
gone-vars = ap (λ (f : Formula). f.vars) gone-coding

pub gone-count : length (coding created ((1, 2) ∷ []) seen_but_gone true).clauses ≡ 18
unfolding order_clauses
gone-count = ap (λ (f : Formula). length f.clauses) gone-coding

-- what its nodes say, clause for clause: 6 is `seen`, 7 and 8 `exists`, 9 `not`, 10 `and`
pub gone-clauses :
    (node_in created seen_but_gone seen_but_gone).clauses 6
    ≡ (no_lit 6 ∷ yes_lit 2 ∷ []) ∷ (no_lit 2 ∷ yes_lit 6 ∷ [])
    ∷ (yes_lit 7 ∷ []) ∷ (no_lit 4 ∷ no_lit 8 ∷ []) ∷ (no_lit 5 ∷ no_lit 7 ∷ yes_lit 8 ∷ []) ∷ (no_lit 5 ∷ yes_lit 7 ∷ no_lit 8 ∷ [])
    ∷ (yes_lit 9 ∷ yes_lit 8 ∷ []) ∷ (no_lit 9 ∷ no_lit 8 ∷ [])
    ∷ (no_lit 10 ∷ yes_lit 6 ∷ []) ∷ (no_lit 10 ∷ yes_lit 9 ∷ []) ∷ (yes_lit 10 ∷ no_lit 6 ∷ no_lit 9 ∷ []) ∷ []
gone-clauses =
    ap (λ (cs : List Cell). (node created (own_cells created cs) seen_but_gone).clauses 6) gone-cells
    ∙ ap (λ (x : Node). x.clauses 6) gone-node

-- the same trace, and nothing that can be true
false-reads : readings created pred.False ≡ []
unfolding whole.roll-Pred denote.Hole.Carrier.roll
false-reads = fold-roll-Pred (List (ℕ × Part)) (readings_of created) atom.False

false-parts : parts created pred.False 0 ≡ []
false-parts = rw false-reads refl

false-segments : segments created pred.False 0 ≡ []
false-segments = no-segments created pred.False 0 [] false-parts (λ place. refl)

false-cells : cells created pred.False ≡ []
false-cells = rw (false-reads, false-segments) refl

false-coding : coding created ((1, 2) ∷ []) pred.False true ≡ formula_of created ((1, 2) ∷ []) true [] never
false-coding = coding-is created ((1, 2) ∷ []) pred.False true [] never false-cells (node-False created [])

pub false-vars : (coding created ((1, 2) ∷ []) pred.False true).vars ≡ 4
false-vars = ap (λ (f : Formula). f.vars) false-coding

pub false-count : length (coding created ((1, 2) ∷ []) pred.False true).clauses ≡ 5
unfolding order_clauses
false-count = ap (λ (f : Formula). length f.clauses) false-coding

-- no calls, and what is always true
true-reads : readings nothing pred.True ≡ []
unfolding whole.roll-Pred denote.Hole.Carrier.roll
true-reads = fold-roll-Pred (List (ℕ × Part)) (readings_of nothing) atom.True

true-cells : cells nothing pred.True ≡ []
true-cells = refl

true-coding : coding nothing [] pred.True true ≡ formula_of nothing [] true [] always
true-coding = coding-is nothing [] pred.True true [] always true-cells (node-True nothing [])

pub true-vars : (coding nothing [] pred.True true).vars ≡ 1
true-vars = ap (λ (f : Formula). f.vars) true-coding

pub true-count : length (coding nothing [] pred.True true).clauses ≡ 2
unfolding order_clauses
true-count = ap (λ (f : Formula). length f.clauses) true-coding

-- a file that is replaced, found empty
abbrev empty_node : Node
empty_node = path_node replaced (own_cells replaced (SlotOf 0 ∷ SizeOf 0 ∷ SizeOf 1 ∷ [])) (Content (codes "")) (Some 0)

empty-coding : coding replaced ((1, 3) ∷ (1, 4) ∷ (3, 4) ∷ []) (content_is (codes "")) true ≡ formula_of replaced ((1, 3) ∷ (1, 4) ∷ (3, 4) ∷ []) true (SlotOf 0 ∷ SizeOf 0 ∷ SizeOf 1 ∷ []) empty_node
empty-coding =
    coding-is replaced ((1, 3) ∷ (1, 4) ∷ (3, 4) ∷ []) (content_is (codes "")) true (SlotOf 0 ∷ SizeOf 0 ∷ SizeOf 1 ∷ []) empty_node replaced-cells
    (node-ContentIs replaced (own_cells replaced (SlotOf 0 ∷ SizeOf 0 ∷ SizeOf 1 ∷ [])) (codes "f" ∷ []) (codes ""))

pub empty-vars : (coding replaced ((1, 3) ∷ (1, 4) ∷ (3, 4) ∷ []) (content_is (codes "")) true).vars ≡ 18
empty-vars = ap (λ (f : Formula). f.vars) empty-coding

pub empty-count : length (coding replaced ((1, 3) ∷ (1, 4) ∷ (3, 4) ∷ []) (content_is (codes "")) true).clauses ≡ 41
unfolding order_clauses
empty-count = ap (λ (f : Formula). length f.clauses) empty-coding

-- four bytes, written at once
abbrev four_node : Node
four_node = path_node one_write (own_cells one_write (SlotOf 0 ∷ SizeOf 0 ∷ Segment 0 0 4 ∷ [])) (Content (codes "aaaa")) (Some 0)

four-coding : coding one_write [] (content_is (codes "aaaa")) true ≡ formula_of one_write [] true (SlotOf 0 ∷ SizeOf 0 ∷ Segment 0 0 4 ∷ []) four_node
four-coding =
    coding-is one_write [] (content_is (codes "aaaa")) true (SlotOf 0 ∷ SizeOf 0 ∷ Segment 0 0 4 ∷ []) four_node one-cells
    (node-ContentIs one_write (own_cells one_write (SlotOf 0 ∷ SizeOf 0 ∷ Segment 0 0 4 ∷ [])) (codes "f" ∷ []) (codes "aaaa"))

pub four-vars : (coding one_write [] (content_is (codes "aaaa")) true).vars ≡ 7
four-vars = ap (λ (f : Formula). f.vars) four-coding

pub four-count : length (coding one_write [] (content_is (codes "aaaa")) true).clauses ≡ 10
unfolding order_clauses padded
four-count = ap (λ (f : Formula). length f.clauses) four-coding
