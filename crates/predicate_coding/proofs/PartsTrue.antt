-- Each node's variable has the truth of its part.
use Rattle.std.proofs.Common.{◌≡◌, ◌↔◌, ℕ, ◌+◌, Bool, true, Some, slice_get, List, ◌++◌, length, Contains, sym, subst}
use Rattle.std.proofs.lemmas.List.Elements.{Contains-append_left, Contains-append_right}
use Rattle.litmus_syntax.specs.declared.pred.Pred.{Pred}
use Rattle.litmus_syntax.specs.declared.pred.Pred.TheVariants.{Not, And, Or}
use Rattle.clause_store.specs.declared.Lit.{Lit}
use Rattle.clause_store.specs.Truth.{is_true, MakesTrue, MakesAllTrue}
use Rattle.fer_events.specs.declared.event.Crash.{Crash}
use Rattle.fer_events.specs.States.{after_crash}
use Rattle.fer_events.specs.Tables.{Trace, IsTrace}
use Rattle.fer_events.specs.Truth.{truth}
use Rattle.order_coding.specs.Variables.{IsNumber}
use Rattle.order_coding.specs.Decoded.{is_in}
use Rattle.value_coding.specs.declared.cell.Cell.{Cell}
use Rattle.value_coding.specs.Writers.{writers}
use Rattle.value_coding.specs.LastWriter.{last_writer}
use Rattle.fer_events.specs.Orders.{before_cut}
use Rattle.order_coding.proofs.GeneralLists.{All-left, All-right}
use Rattle.value_coding.specs.declared.reading.Part.{Part}
use Rattle.value_coding.specs.Readings.{readings}
use Rattle.value_coding.specs.QuestionCells.{cells}
use Rattle.value_coding.specs.LastClauses.{value_formula, first_var, SaysLast}
use Rattle.value_coding.proofs.GeneralReadings.{readings-Not, readings-And, readings-Or}
use Rattle.predicate_coding.specs.AtomNodes.{Node}
use Rattle.predicate_coding.specs.Nodes.{own_lit, not_node, two_node, and_clauses, or_clauses}
use Rattle.predicate_coding.specs.Coding.{cells_of, cell_vars, node_in, coding}
use Rattle.predicate_coding.specs.Parts.{StandsAt}
use Rattle.predicate_coding.specs.Parts.StandsAt.{whole, negated_one, left_of_and, right_of_and, left_of_or, right_of_or}
use Rattle.predicate_coding.proofs.Folds.{node-Not, node-And, node-Or}
use Rattle.predicate_coding.proofs.Central.{part-true}

module _ (t : Trace) (kept : List (ℕ × ℕ)) (q : Pred) (want : Bool) (v : List Bool) (all : MakesAllTrue v (coding t kept q want).clauses) where
  abbrev Reads : Pred → Type 0
  Reads p = (r : ℕ × Part) → Contains (readings t p) r → Contains (readings t q) r

  -- the node's clauses are true, and what it reads the question reads
  abbrev Stands : Pred → ℕ → Type 0
  Stands p first = MakesAllTrue v ((node_in t q p).clauses first) × Reads p

  reads-from : (p : Pred) (rs : List (ℕ × Part)) → readings t p ≡ rs → Reads p → (r : ℕ × Part) → Contains rs r → Contains (readings t q) r
  reads-from p rs e part r h = part r (subst (λ (xs : List (ℕ × Part)). Contains xs r) (sym e) h)

  clauses-as : (p : Pred) (first : ℕ) (x : Node) → node_in t q p ≡ x → MakesAllTrue v ((node_in t q p).clauses first) → MakesAllTrue v (x.clauses first)
  clauses-as p first x e h = subst (λ (x : Node). MakesAllTrue v (x.clauses first)) e h

  left-stands : (joins : Lit → Lit → Lit → List (List Lit)) (p r : Pred) (first : ℕ) → MakesAllTrue v ((two_node joins (node_in t q p) (node_in t q r)).clauses first) → MakesAllTrue v ((node_in t q p).clauses first)
  left-stands joins p r first h =
      All-left (MakesTrue v) ((node_in t q p).clauses first) ((node_in t q r).clauses (first + ((node_in t q p).below + 1))) (All-left (MakesTrue v) _ _ h)

  right-stands :
      (joins : Lit → Lit → Lit → List (List Lit)) (p r : Pred) (first : ℕ) → MakesAllTrue v ((two_node joins (node_in t q p) (node_in t q r)).clauses first)
      → MakesAllTrue v ((node_in t q r).clauses (first + ((node_in t q p).below + 1)))
  right-stands joins p r first h =
      All-right (MakesTrue v) ((node_in t q p).clauses first) ((node_in t q r).clauses (first + ((node_in t q p).below + 1))) (All-left (MakesTrue v) _ _ h)

  stands : (p : Pred) (first : ℕ) → StandsAt t q p first → Stands p first
  stands p first whole =
      (All-right (MakesTrue v) (value_formula t.events kept (cells t q)).clauses ((node_in t q q).clauses (cell_vars t q + 1)) (All-left (MakesTrue v) _ _ all), λ r h. h)
  stands p first (negated_one _ _ at) =
      let (clauses, reads) = stands (Not p) first at in
      (All-left (MakesTrue v) ((node_in t q p).clauses first) _ (clauses-as (Not p) first (not_node (node_in t q p)) (node-Not t (cells_of t q) p) clauses), reads-from (Not p) (readings t p) (readings-Not t p) reads)
  stands p first (left_of_and _ r _ at) =
      let (clauses, reads) = stands (And p r) first at in
      let both = reads-from (And p r) (readings t p ++ readings t r) (readings-And t p r) reads in (
        left-stands and_clauses p r first (clauses-as (And p r) first (two_node and_clauses (node_in t q p) (node_in t q r)) (node-And t (cells_of t q) p r) clauses),
        λ x h. both x (Contains-append_left (readings t p) (readings t r) x h),
      )
  stands r _ (right_of_and p _ first at) =
      let (clauses, reads) = stands (And p r) first at in
      let both = reads-from (And p r) (readings t p ++ readings t r) (readings-And t p r) reads in (
        right-stands and_clauses p r first (clauses-as (And p r) first (two_node and_clauses (node_in t q p) (node_in t q r)) (node-And t (cells_of t q) p r) clauses),
        λ x h. both x (Contains-append_right (readings t p) (readings t r) x h),
      )
  stands p first (left_of_or _ r _ at) =
      let (clauses, reads) = stands (Or p r) first at in
      let both = reads-from (Or p r) (readings t p ++ readings t r) (readings-Or t p r) reads in (
        left-stands or_clauses p r first (clauses-as (Or p r) first (two_node or_clauses (node_in t q p) (node_in t q r)) (node-Or t (cells_of t q) p r) clauses),
        λ x h. both x (Contains-append_left (readings t p) (readings t r) x h),
      )
  stands r _ (right_of_or p _ first at) =
      let (clauses, reads) = stands (Or p r) first at in
      let both = reads-from (Or p r) (readings t p ++ readings t r) (readings-Or t p r) reads in (
        right-stands or_clauses p r first (clauses-as (Or p r) first (two_node or_clauses (node_in t q p) (node_in t q r)) (node-Or t (cells_of t q) p r) clauses),
        λ x h. both x (Contains-append_right (readings t p) (readings t r) x h),
      )

  pub node-true :
      (crash : Crash) (p : Pred) (first : ℕ) → IsTrace t
      → ((e : ℕ) → IsNumber (length t.events) e → (is_in v e ≡ true) ↔ Contains (before_cut crash) e)
      → (MakesAllTrue v (value_formula t.events kept (cells t q)).clauses → (i : ℕ) (cell : Cell) → slice_get (cells t q) i ≡ Some cell → SaysLast v (first_var t.events (cells t q) i) (writers t.events cell) (last_writer t.events cell (before_cut crash)))
      → ((e : ℕ) → Contains (before_cut crash) e → IsNumber (length t.events) e) → StandsAt t q p first
      → is_true v (own_lit (node_in t q p) first) ≡ truth t (after_crash t crash) p
  node-true crash p first rules inside says within at =
      let (clauses, reads) = stands p first at in
      part-true t kept q want rules v crash all inside says within p first reads clauses
