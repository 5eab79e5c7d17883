-- The cells as they are coded, and the clauses and variables of them.
use Rattle.std.proofs.Common.{◌≡◌, ℕ, ◌+◌, ◌<◌, ◌≤◌, List, [], ◌∷◌, ◌++◌, length, map, take, get_or, refl, sym, ◌∙◌, ap, arith}
use Rattle.std.specs.List.{All}
use Rattle.std.proofs.lemmas.List.{take_more, map-append}
use Rattle.std.proofs.lemmas.List.Concat.{flat_map-cons}
use Rattle.std.proofs.lemmas.List.Elements.{All-nil, All-cons}
use Rattle.std.proofs.lemmas.List.Kept.{AllPairs-from_increasing, IsStrictlyIncreasing-filter}
use Rattle.clause_store.specs.declared.Lit.{Lit}
use Rattle.clause_store.specs.Clauses.{Formula}
use Rattle.clause_store.proofs.GeneralLists.{Contains-from_filter}
use Rattle.fer_events.specs.declared.event.Event.{Event}
use Rattle.fer_events.specs.Orders.{numbers}
use Rattle.order_coding.specs.Variables.{IsNumber}
use Rattle.order_coding.specs.Growth.{joined}
use Rattle.order_coding.proofs.GeneralLists.{All-from_contains, numbers-increase}
use Rattle.order_coding.proofs.GeneralOrders.{numbers-within}
use Rattle.value_coding.specs.declared.cell.Cell.{Cell}
use Rattle.value_coding.specs.declared.cell.CodedCell.{CodedCell}
use Rattle.value_coding.specs.Writers.{is_writer, writers}
use Rattle.value_coding.specs.LastClauses.{last_clauses, each_last, last_vars, with_last_writers}
use Rattle.value_coding.specs.CodedCells.{coded_cells}
use Rattle.value_coding.specs.LastWriting.{AreWriters, each_coded}
use Rattle.value_coding.proofs.FewWriters.{writers-few}

sum-append : (xs : List (List ℕ)) (ws : List ℕ) → last_vars (xs ++ ws ∷ []) ≡ last_vars xs + (length ws + 1)
sum-append [] ws = omega arith
sum-append (x ∷ xs) ws = omega (arith, sum-append xs ws)

pub sum_more :
    (cells : List CodedCell) (i : ℕ) (d : CodedCell) → i < length cells
    → last_vars (map (λ (c : CodedCell). c.writers) (take (i + 1) cells))
    ≡ last_vars (map (λ (c : CodedCell). c.writers) (take i cells)) + (length (get_or cells i d).writers + 1)
sum_more cells i d l =
    ap (λ (cs : List CodedCell). last_vars (map (λ (c : CodedCell). c.writers) cs)) (take_more cells i d l)
    ∙ ap last_vars (map-append (λ (c : CodedCell). c.writers) (take i cells) (get_or cells i d ∷ []))
    ∙ sum-append (map (λ (c : CodedCell). c.writers) (take i cells)) (get_or cells i d).writers

pub coded-cells : (events : List Event) (cells : List Cell) (first : ℕ) → map (λ (c : CodedCell). c.cell) (coded_cells events first cells) ≡ cells
coded-cells events [] first = refl
coded-cells events (cell ∷ more) first = ap (λ (cs : List Cell). cell ∷ cs) (coded-cells events more (first + (length (writers events cell) + 1)))

pub coded-writers : (events : List Event) (cells : List Cell) (first : ℕ) → map (λ (c : CodedCell). c.writers) (coded_cells events first cells) ≡ map (writers events) cells
coded-writers events [] first = refl
coded-writers events (cell ∷ more) first = ap (λ (ws : List (List ℕ)). writers events cell ∷ ws) (coded-writers events more (first + (length (writers events cell) + 1)))

pub coded-clauses :
    (events : List Event) (n : ℕ) (cells : List Cell) (first : ℕ)
    → each_coded n (coded_cells events first cells) ≡ each_last n first (map (writers events) cells)
coded-clauses events n [] first = refl
coded-clauses events n (cell ∷ more) first =
    flat_map-cons (λ (c : CodedCell). last_clauses n c.first c.writers) (record { cell = cell; first = first; writers = writers events cell }) (coded_cells events (first + (length (writers events cell) + 1)) more)
    ∙ ap (λ (cs : List (List Lit)). last_clauses n first (writers events cell) ++ cs) (coded-clauses events n more (first + (length (writers events cell) + 1)))

pub are-writers : (events : List Event) (cell : Cell) → length events ≤ 128 → AreWriters (length events) (writers events cell)
are-writers events cell few = record {
  few = omega (arith, few, writers-few events cell);
  numbers = All-from_contains (IsNumber (length events)) (writers events cell) (λ a h. numbers-within (length events) a (Contains-from_filter (is_writer events cell) (numbers (length events)) a h).0);
  apart =
      λ i j d l h e.
      let up = AllPairs-from_increasing (writers events cell) (IsStrictlyIncreasing-filter (is_writer events cell) (numbers (length events)) (numbers-increase 1 (length events))) i j d l h in
      omega arith;
}

pub coded-codable : (events : List Event) (cells : List Cell) (first : ℕ) → length events ≤ 128 → All (λ (c : CodedCell). AreWriters (length events) c.writers) (coded_cells events first cells)
coded-codable events [] first few = All-nil (λ (c : CodedCell). AreWriters (length events) c.writers)
coded-codable events (cell ∷ more) first few =
    All-cons (λ (c : CodedCell). AreWriters (length events) c.writers) (record { cell = cell; first = first; writers = writers events cell }) (coded_cells events (first + (length (writers events cell) + 1)) more)
    (are-writers events cell few) (coded-codable events more (first + (length (writers events cell) + 1)) few)

pub coded-room :
    (events : List Event) (cells : List Cell) (first vars : ℕ) → 1 ≤ first → first + last_vars (map (writers events) cells) ≤ vars + 1
    → All (λ (c : CodedCell). (1 ≤ c.first) × (c.first + length c.writers ≤ vars)) (coded_cells events first cells)
coded-room events [] first vars some room = All-nil (λ (c : CodedCell). (1 ≤ c.first) × (c.first + length c.writers ≤ vars))
coded-room events (cell ∷ more) first vars some room =
    All-cons (λ (c : CodedCell). (1 ≤ c.first) × (c.first + length c.writers ≤ vars)) (record { cell = cell; first = first; writers = writers events cell }) (coded_cells events (first + (length (writers events cell) + 1)) more)
    (some, omega arith) (coded-room events more (first + (length (writers events cell) + 1)) vars (omega arith) (omega arith))

-- the store with the variables of the cells and all their clauses
module _ (events : List Event) (n : ℕ) (e : n ≡ length events) (old raised : Formula) (coded : List CodedCell) (is : coded ≡ coded_cells events (old.vars + 1) (map (λ (c : CodedCell). c.cell) coded))
    (vars : ℕ) (v : vars ≡ old.vars + last_vars (map (λ (c : CodedCell). c.writers) coded)) (r : raised ≡ record old { vars = vars }) where
  abbrev cells : List Cell
  cells = map (λ (c : CodedCell). c.cell) coded

  pub vars-are : vars ≡ old.vars + last_vars (map (writers events) cells)
  vars-are = v ∙ ap (λ (ws : List (List ℕ)). old.vars + last_vars ws) (ap (map (λ (c : CodedCell). c.writers)) is ∙ coded-writers events cells (old.vars + 1))

  pub all-written : joined raised (each_coded n coded) ≡ with_last_writers events cells old
  all-written =
      ap (λ (f : Formula). joined f (each_coded n coded)) r
      ∙ ap (λ (cs : List (List Lit)). record { vars = vars; clauses = old.clauses ++ cs })
      (ap (each_coded n) is ∙ coded-clauses events n cells (old.vars + 1) ∙ ap (λ (k : ℕ). each_last k (old.vars + 1) (map (writers events) cells)) e)
      ∙ ap (λ (k : ℕ). record { vars = k; clauses = old.clauses ++ each_last (length events) (old.vars + 1) (map (writers events) cells) }) vars-are

-- cells that were coded are coded again from what they are
module _
    (events es : List Event) (cells : List Cell) (first k : ℕ) (coded slice : List CodedCell) (same : slice ≡ coded)
    (is : coded ≡ coded_cells events first cells) (at : first ≡ k) (those : es ≡ events) where
  slice-is : slice ≡ coded_cells es k cells
  slice-is = same ∙ is ∙ ap (λ (n : ℕ). coded_cells events n cells) at ∙ ap (λ (all : List Event). coded_cells all k cells) (sym those)

  pub cells-back : map (λ (c : CodedCell). c.cell) slice ≡ cells
  cells-back = ap (map (λ (c : CodedCell). c.cell)) slice-is ∙ coded-cells es cells k

  pub coded-again : slice ≡ coded_cells es k (map (λ (c : CodedCell). c.cell) slice)
  coded-again = slice-is ∙ ap (coded_cells es k) (sym cells-back)

  pub whole-same : (old : Formula) → with_last_writers es (map (λ (c : CodedCell). c.cell) slice) old ≡ with_last_writers events cells old
  whole-same old =
      ap (λ (cs : List Cell). with_last_writers es cs old) cells-back ∙ ap (λ (all : List Event). with_last_writers all cells old) those
