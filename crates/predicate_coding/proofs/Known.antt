-- Values of a crash know what each cell holds after it.
use Rattle.std.proofs.Common.{◌≡◌, ◌↔◌, inl, inr, ℕ, suc, ◌+◌, Bool, true, List, [], ◌∷◌, length, map, take, drop, Some, slice_get, Contains, IsPermutation, sym, ◌∙◌, ap, subst, arith}
use Rattle.std.proofs.lemmas.List.{take-append-drop}
use Rattle.std.proofs.lemmas.List.Elements.{Contains-append_left}
use Rattle.std.proofs.lemmas.List.Sorted.{Contains-permutation, IsPermutation-sym}
use Rattle.std.proofs.lemmas.Option.{slice_get_within, get_or_from_slice_get}
use Rattle.litmus_syntax.specs.declared.pred.Pred.{Pred}
use Rattle.clause_store.specs.Truth.{is_true}
use Rattle.clause_store.proofs.GeneralLists.{Contains-head_is, Contains-tail, Contains-cons_cases, Contains-nil}
use Rattle.fer_events.specs.declared.event.Event.{Event}
use Rattle.fer_events.specs.declared.event.Crash.{Crash}
use Rattle.fer_events.specs.Orders.{numbers, before_cut, IsCrash}
use Rattle.fer_events.specs.States.{after_numbers, start_state}
use Rattle.fer_events.specs.Tables.{Trace, IsTrace}
use Rattle.order_coding.specs.Variables.{IsNumber, order_vars}
use Rattle.order_coding.specs.Decoded.{is_in}
use Rattle.order_coding.proofs.GeneralOrders.{numbers-within}
use Rattle.value_coding.specs.declared.cell.Cell.{Cell}
use Rattle.value_coding.specs.declared.cell.CodedCell.{CodedCell}
use Rattle.value_coding.specs.QuestionCells.{cells}
use Rattle.value_coding.specs.CodedCells.{coded_cells}
use Rattle.value_coding.specs.Writers.{writers, value_by}
use Rattle.value_coding.specs.LastWriter.{last_writer}
use Rattle.value_coding.specs.LastClauses.{last_lit, last_vars, first_var, SaysLast}
use Rattle.value_coding.proofs.GeneralSegments.{question-decides}
use Rattle.predicate_coding.specs.Coding.{cells_of}
use Rattle.predicate_coding.proofs.Told.{Told, Tells, Knows}

-- the cells with their variables
module _ (events : List Event) where
  abbrev At : ℕ → List Cell → CodedCell → Type 0
  At first cells c = (i : ℕ) × (slice_get cells i ≡ Some c.cell) × (c.first ≡ first + last_vars (take i (map (writers events) cells)))

  at-head : (first : ℕ) (cell : Cell) (more : List Cell) (c : CodedCell) → record { cell = cell; first = first; writers = writers events cell } ≡ c → At first (cell ∷ more) c
  at-head first cell more c e = let zero_is : first ≡ first + 0 = omega arith in (0, ap (λ (c : CodedCell). Some c.cell) e, sym (ap (λ (c : CodedCell). c.first) e) ∙ zero_is)

  at-later : (first : ℕ) (cell : Cell) (more : List Cell) (c : CodedCell) → At (first + (length (writers events cell) + 1)) more c → At first (cell ∷ more) c
  at-later first cell more c (i, is, e) =
      let groups : first + (length (writers events cell) + 1) + last_vars (take i (map (writers events) more)) ≡ first + (length (writers events cell) + 1 + last_vars (take i (map (writers events) more))) = omega arith in
      (suc i, is, e ∙ groups)

  pub numbered-at : (cells : List Cell) (first : ℕ) (c : CodedCell) → Contains (coded_cells events first cells) c → (i : ℕ) × (slice_get cells i ≡ Some c.cell) × (c.first ≡ first + last_vars (take i (map (writers events) cells)))
  numbered-at [] first c h = absurd (Contains-nil c h)
  numbered-at (cell ∷ more) first c h =
      elim (Contains-cons_cases (record { cell = cell; first = first; writers = writers events cell }) (coded_cells events (first + (length (writers events cell) + 1)) more) c h) [
        | inl e ↦ at-head first cell more c e
        | inr later ↦ at-later first cell more c (numbered-at more (first + (length (writers events cell) + 1)) c later)
      ]

  pub numbered-has : (cells : List Cell) (first : ℕ) (cell : Cell) → Contains cells cell → (k : ℕ) × Contains (coded_cells events first cells) (record { cell = cell; first = k; writers = writers events cell })
  numbered-has [] first cell h = absurd (Contains-nil cell h)
  numbered-has (x ∷ more) first cell h = elim (Contains-cons_cases x more cell h) [
    | inl e ↦ (first, Contains-head_is (record { cell = x; first = first; writers = writers events x }) _ (record { cell = cell; first = first; writers = writers events cell }) (ap (λ (c : Cell). record { cell = c; first = first; writers = writers events c }) e))
    | inr later ↦
        let (k, there) = numbered-has more (first + (length (writers events x) + 1)) cell later in
        (k, Contains-tail (record { cell = x; first = first; writers = writers events x }) (coded_cells events (first + (length (writers events x) + 1)) more) (record { cell = cell; first = k; writers = writers events cell }) there)
  ]

-- what is said of the last writers tells what the cells hold
module _ (t : Trace) (q : Pred) (rules : IsTrace t) (order : List ℕ) (v : List Bool)
    (says : (i : ℕ) (cell : Cell) → slice_get (cells t q) i ≡ Some cell → SaysLast v (first_var t.events (cells t q) i) (writers t.events cell) (last_writer t.events cell order)) where
  told : (c : CodedCell) (i : ℕ) → slice_get (cells t q) i ≡ Some c.cell → c.first ≡ first_var t.events (cells t q) i → Told t v (after_numbers t.events (start_state t) order) c
  told c i is first_is =
      let s = says i c.cell is in
      let there : Contains (cells t q) c.cell = (i, slice_get_within (cells t q) i c.cell is, get_or_from_slice_get (cells t q) i c.cell c.cell is) in
      record {
        number = s.number;
        within = s.within;
        holds = ap (value_by t c.cell) s.names ∙ sym (question-decides t q c.cell order rules there);
        one = λ j l. (
          λ e. (s.one j l).0 (ap (λ (k : ℕ). is_true v (last_lit k j)) (sym first_is) ∙ e),
          λ e. ap (λ (k : ℕ). is_true v (last_lit k j)) first_is ∙ (s.one j l).1 e,
        );
      }

  pub tells : Tells t q v (after_numbers t.events (start_state t) order) (cells_of t q)
  tells = record {
    told = λ c h. let (i, is, e) = numbered-at t.events (cells t q) (order_vars (length t.events) + 1) c h in told c i is e;
    has = λ cell h. numbered-has t.events (cells t q) (order_vars (length t.events) + 1) cell h;
    from = λ c h.
        let (i, is, e) = numbered-at t.events (cells t q) (order_vars (length t.events) + 1) c h in
        (i, slice_get_within (cells t q) i c.cell is, get_or_from_slice_get (cells t q) i c.cell c.cell is);
  }

-- of a crash of which the values say what each cell's last writer is, and which events are in
pub known :
    (t : Trace) (q : Pred) (v : List Bool) (crash : Crash) → IsTrace t
    → ((i : ℕ) (cell : Cell) → slice_get (cells t q) i ≡ Some cell → SaysLast v (first_var t.events (cells t q) i) (writers t.events cell) (last_writer t.events cell (before_cut crash)))
    → ((e : ℕ) → IsNumber (length t.events) e → (is_in v e ≡ true) ↔ Contains (before_cut crash) e)
    → Knows t q (before_cut crash) (cells_of t q) v
known t q v crash rules says inside = record {
  tells = tells t q rules (before_cut crash) v says;
  inside = inside;
}

pub order-numbers : (n : ℕ) (crash : Crash) → IsPermutation (numbers n) crash.order → (e : ℕ) → Contains (before_cut crash) e → IsNumber n e
order-numbers n crash permutes e h =
    numbers-within n e
    (Contains-permutation crash.order (numbers n) e (IsPermutation-sym (numbers n) crash.order permutes)
    (subst (λ (l : List ℕ). Contains l e) (take-append-drop crash.cut crash.order) (Contains-append_left (before_cut crash) (drop crash.cut crash.order) e h)))

pub crash-numbers : (t : Trace) (kept : List (ℕ × ℕ)) (crash : Crash) → IsCrash t.events kept crash → (e : ℕ) → Contains (before_cut crash) e → IsNumber (length t.events) e
crash-numbers t kept crash c e h = order-numbers (length t.events) crash c.valid.permutes e h
