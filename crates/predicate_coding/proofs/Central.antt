-- Values that make the coding true decode to a witness, and each witness has such values.
use Rattle.std.proofs.Common.{◌≡◌, ◌↔◌, ℕ, ◌+◌, ◌-◌, ◌≤◌, Some, slice_get, Bool, true, false, get_or, List, [], ◌∷◌, ◌++◌, length, Contains, sym, ◌∙◌, ap, arith}
use Rattle.std.proofs.Math.Seq.{get_or-append_right}
use Rattle.std.proofs.lemmas.List.{length-append}
use Rattle.std.proofs.lemmas.List.Elements.{All-append, All-nil, All-cons, All-head}
use Rattle.litmus_syntax.specs.declared.pred.Pred.{Pred}
use Rattle.clause_store.specs.declared.Lit.{Lit}
use Rattle.clause_store.specs.Truth.{is_true, MakesTrue, MakesAllTrue}
use Rattle.fer_events.specs.declared.event.Crash.{Crash}
use Rattle.fer_events.specs.Orders.{before_cut}
use Rattle.fer_events.specs.States.{after_crash}
use Rattle.fer_events.specs.Tables.{Trace, IsTrace}
use Rattle.fer_events.specs.Truth.{truth}
use Rattle.fer_events.specs.Witness.{IsWitness}
use Rattle.order_coding.specs.Variables.{IsNumber, order_vars}
use Rattle.order_coding.specs.Decoded.{is_in, Describes}
use Rattle.order_coding.proofs.GeneralLists.{All-left, All-right, Any-here}
use Rattle.value_coding.specs.declared.reading.Part.{Part}
use Rattle.value_coding.specs.Readings.{readings}
use Rattle.value_coding.specs.QuestionCells.{cells}
use Rattle.value_coding.specs.LastClauses.{value_formula, first_var, SaysLast}
use Rattle.value_coding.specs.declared.cell.Cell.{Cell}
use Rattle.value_coding.specs.Writers.{writers}
use Rattle.value_coding.specs.LastWriter.{last_writer}
use Rattle.order_coding.specs.Decoded.{HasValues}
use Rattle.order_coding.proofs.GeneralClauses.{of-one}
use Rattle.predicate_coding.specs.AtomNodes.{Node}
use Rattle.predicate_coding.specs.Nodes.{own_lit}
use Rattle.predicate_coding.specs.Coding.{cells_of, cell_vars, node_in, wanted, coding}
use Rattle.predicate_coding.proofs.Fits.{one-no, no-one}
use Rattle.predicate_coding.proofs.Made.{HasRow, own-read, made-read}
use Rattle.predicate_coding.proofs.Told.{Knows}
use Rattle.predicate_coding.proofs.Questions.{part-says, part-made}
use Rattle.predicate_coding.proofs.Known.{known, crash-numbers}

wanted-says : (v : List Bool) (own : Lit) (want : Bool) → MakesTrue v (wanted own want ∷ []) → is_true v own ≡ want
wanted-says v own true h = of-one v own h
wanted-says v own false h = one-no v own h

wanted-made : (v : List Bool) (own : Lit) (want : Bool) → is_true v own ≡ want → MakesTrue v (wanted own want ∷ [])
wanted-made v own true e = Any-here (λ l. is_true v l ≡ true) own [] e
wanted-made v own false e = no-one v own e

module _ (t : Trace) (kept : List (ℕ × ℕ)) (q : Pred) (want : Bool) where
  abbrev x : Node
  x = node_in t q q

  abbrev front : List (List Lit)
  front = (value_formula t.events kept (cells t q)).clauses

  abbrev middle : List (List Lit)
  middle = (node_in t q q).clauses (cell_vars t q + 1)

  abbrev last : List (List Lit)
  last = (wanted (own_lit (node_in t q q) (cell_vars t q + 1)) want ∷ []) ∷ []

  -- what is known of values that make the coding true and of the crash that they say
  module _
      (rules : IsTrace t) (v : List Bool) (crash : Crash) (all : MakesAllTrue v (coding t kept q want).clauses)
      (inside : (e : ℕ) → IsNumber (length t.events) e → (is_in v e ≡ true) ↔ Contains (before_cut crash) e)
      (says : MakesAllTrue v (value_formula t.events kept (cells t q)).clauses → (i : ℕ) (cell : Cell) → slice_get (cells t q) i ≡ Some cell → SaysLast v (first_var t.events (cells t q) i) (writers t.events cell) (last_writer t.events cell (before_cut crash)))
      (within : (e : ℕ) → Contains (before_cut crash) e → IsNumber (length t.events) e) where
    pub fronts : MakesAllTrue v (value_formula t.events kept (cells t q)).clauses
    fronts = All-left (MakesTrue v) front middle (All-left (MakesTrue v) (front ++ middle) last all)

    knows : Knows t q (before_cut crash) (cells_of t q) v
    knows = known t q v crash rules (says fronts) inside

    -- each part whose clauses are true has its truth
    pub part-true :
        (p : Pred) (first : ℕ) → ((r : ℕ × Part) → Contains (readings t p) r → Contains (readings t q) r) → MakesAllTrue v ((node_in t q p).clauses first)
        → is_true v (own_lit (node_in t q p) first) ≡ truth t (after_crash t crash) p
    part-true p first part clauses =
        part-says t q rules (before_cut crash) within (cells_of t q) v knows p part first clauses

    pub answers : truth t (after_crash t crash) q ≡ want
    answers =
        sym (part-true q (cell_vars t q + 1) (λ r h. h) (All-right (MakesTrue v) front middle (All-left (MakesTrue v) (front ++ middle) last all)))
        ∙ wanted-says v (own_lit (node_in t q q) (cell_vars t q + 1)) want (All-head (MakesTrue v) (wanted (own_lit (node_in t q q) (cell_vars t q + 1)) want ∷ []) [] (All-right (MakesTrue v) (front ++ middle) last all))

  pub witness-values :
      (crash : Crash) → IsTrace t → IsWitness t kept q want crash
      → HasValues (length t.events) crash (value_formula t.events kept (cells t q))
      → ((v more : List Bool) → order_vars (length t.events) ≤ length v → Describes (length t.events) v crash → Describes (length t.events) (v ++ more) crash)
      → ((v more : List Bool) → length v ≡ cell_vars t q → MakesAllTrue v (value_formula t.events kept (cells t q)).clauses → MakesAllTrue (v ++ more) (value_formula t.events kept (cells t q)).clauses)
      → ((v : List Bool) → Describes (length t.events) v crash → MakesAllTrue v (value_formula t.events kept (cells t q)).clauses → (i : ℕ) (cell : Cell) → slice_get (cells t q) i ≡ Some cell → SaysLast v (first_var t.events (cells t q) i) (writers t.events cell) (last_writer t.events cell (before_cut crash)))
      → HasValues (length t.events) crash (coding t kept q want)
  witness-values crash rules w (v, long, d, all) describes longer says =
      let made = part-made t q rules (before_cut crash) (crash-numbers t kept crash w.crashes) (cells_of t q) q (λ r h. h) in
      let more : List Bool = made.row ++ truth t (after_crash t crash) q ∷ [] in
      let room : length v ≡ cell_vars t q = long in
      let kept_all = longer v more long all in
      let tells = describes v more (omega arith) d in
      let good = known t q (v ++ more) crash rules (says (v ++ more) tells kept_all) tells.inside in
      let reads : HasRow (v ++ more) (cell_vars t q + 1) more =
      λ i l. (
      let at : cell_vars t q + 1 + i - 1 - length v ≡ i = omega arith in
      get_or-append_right v more (cell_vars t q + 1 + i - 1) false (omega arith) ∙ ap (λ (k : ℕ). get_or more k false) at) in (
        v ++ more,
        omega (arith, length-append v more, length-append made.row (truth t (after_crash t crash) q ∷ []), made.long),
        tells,
        All-append (MakesTrue (v ++ more)) (front ++ middle) last
            (All-append (MakesTrue (v ++ more)) front middle kept_all (made-read (Knows t q (before_cut crash) (cells_of t q)) (node_in t q q) (truth t (after_crash t crash) q) made (v ++ more) good (cell_vars t q + 1) reads))
            (All-cons (MakesTrue (v ++ more)) (wanted (own_lit (node_in t q q) (cell_vars t q + 1)) want ∷ []) []
            (wanted-made (v ++ more) (own_lit (node_in t q q) (cell_vars t q + 1)) want (own-read (Knows t q (before_cut crash) (cells_of t q)) (node_in t q q) (truth t (after_crash t crash) q) made (v ++ more) good (cell_vars t q + 1) reads ∙ w.answers))
            (All-nil (MakesTrue (v ++ more)))),
      )
