-- In values that make the clauses of a cell true, exactly the last writer among the events that are in is named.
use Rattle.std.proofs.Common.{◌≡◌, ◌≢◌, ◌↔◌, inl, inr, ℕ, zero, suc, ◌+◌, ◌-◌, ◌<◌, ◌≤◌, Bool, true, List, [], ◌∷◌, length, take, map, get_or, Option, Some, None, slice_get, option_map, Contains, IsPermutation, drop, refl, sym, ◌∙◌, ap, subst, arith}
use Rattle.std.proofs.lemmas.Bool.{cases_eq}
use Rattle.std.proofs.lemmas.List.{get_or_default, take-append-drop}
use Rattle.std.proofs.lemmas.List.Sorted.{Contains-permutation, IsPermutation-sym}
use Rattle.std.proofs.lemmas.List.Elements.{Contains-get_or, Contains-append_left}
use Rattle.std.proofs.lemmas.List.Kept.{AllPairs-from_increasing, IsStrictlyIncreasing-filter}
use Rattle.std.proofs.lemmas.Option.{slice_get-get_or, slice_get-map, same_Some}
use Rattle.clause_store.specs.Truth.{is_true, MakesTrue, MakesAllTrue}
use Rattle.clause_store.proofs.GeneralLists.{Contains-filter, Contains-from_filter, Contains-cons_cases, Contains-nil}
use Rattle.fer_events.specs.declared.event.Event.{Event}
use Rattle.fer_events.specs.declared.event.Crash.{Crash}
use Rattle.fer_events.specs.Orders.{numbers, StandsBefore, before_cut, IsCrash}
use Rattle.order_coding.specs.Variables.{IsNumber, order_vars, in_lit, before_lit}
use Rattle.order_coding.specs.Families.{order_clauses}
use Rattle.order_coding.specs.Decoded.{is_in, is_before, Describes}
use Rattle.order_coding.proofs.GeneralLists.{All-left, All-right, order-of, numbers-increase}
use Rattle.order_coding.proofs.GeneralOrders.{times, ordered-once, place, place-head, place-tail, stands-from_places, places-from_stands, numbers-contain, numbers-within}
use Rattle.order_coding.proofs.GeneralLiterals.{is_before-is}
use Rattle.value_coding.specs.declared.cell.Cell.{Cell}
use Rattle.value_coding.specs.Writers.{is_writer, writers}
use Rattle.value_coding.specs.LastWriter.{last_where, last_writer}
use Rattle.value_coding.specs.LastClauses.{last_lit, writer_at, last_clauses, each_last, last_vars, value_formula, first_var, named_writer, SaysLast}
use Rattle.order_coding.proofs.GeneralClauses.{truth}
use Rattle.value_coding.proofs.Last.{none-last, last-is, once-taken}
use Rattle.value_coding.proofs.LastMeaning.{LastMeant, last-meant}

-- the writers of a cell, by their numbers among the writers
module _ (events : List Event) (cell : Cell) where
  abbrev ws : List ℕ
  ws = writers events cell

  pub writer-is : (k : ℕ) → IsNumber (length ws) k → IsNumber (length events) (writer_at ws k) × (is_writer events cell (writer_at ws k) ≡ true)
  writer-is k is =
      let there = Contains-get_or ws (k - 1) 0 (omega (arith, is.0, is.1)) in
      let kept = Contains-from_filter (is_writer events cell) (numbers (length events)) (writer_at ws k) there in
      (numbers-within (length events) (writer_at ws k) kept.0, kept.1)

  pub number-of :
      (a : ℕ) → IsNumber (length events) a → is_writer events cell a ≡ true
      → (k : ℕ) × IsNumber (length ws) k × (writer_at ws k ≡ a)
  number-of a is t =
      let (i, l, e) = Contains-filter (is_writer events cell) (numbers (length events)) a (numbers-contain (length events) a is) t in
      let next : i + 1 - 1 ≡ i = omega arith in
      (i + 1, (omega arith, omega arith), ap (λ (k : ℕ). get_or ws k 0) next ∙ get_or_default ws i 0 a l ∙ e)

  pub apart : (j k : ℕ) → IsNumber (length ws) j → IsNumber (length ws) k → writer_at ws j ≡ writer_at ws k → j ≡ k
  apart j k ij ik e =
      let rise = AllPairs-from_increasing ws (IsStrictlyIncreasing-filter (is_writer events cell) (numbers (length events)) (numbers-increase 1 (length events))) in
      elim (order-of j k) [
        | inl l ↦ let up = rise (j - 1) (k - 1) 0 (omega (arith, ij.0)) (omega (arith, ik.0, ik.1)) in absurd (omega arith)
        | inr (inl same) ↦ same
        | inr (inr l) ↦ let up = rise (k - 1) (j - 1) 0 (omega (arith, ik.0)) (omega (arith, ij.0, ij.1)) in absurd (omega arith)
      ]

  pub named-is : (i : ℕ) → i < length ws → named_writer ws (suc i) ≡ Some (writer_at ws (suc i))
  named-is i h =
      let e : suc i - 1 ≡ i = omega arith in
      slice_get-get_or ws i 0 h ∙ ap (λ (k : ℕ). Some (get_or ws k 0)) (sym e)

  pub named-apart : (j k : ℕ) → j ≤ length ws → k ≤ length ws → named_writer ws j ≡ named_writer ws k → j ≡ k
  named-apart zero zero lj lk e = refl
  named-apart zero (suc k) lj lk e = let bad : None ≡ Some (writer_at ws (suc k)) = e ∙ named-is k (omega arith) in cc
  named-apart (suc j) zero lj lk e = let bad : Some (writer_at ws (suc j)) ≡ None = sym (named-is j (omega arith)) ∙ e in cc
  named-apart (suc j) (suc k) lj lk e =
      apart (suc j) (suc k) (omega arith, lj) (omega arith, lk)
      (same_Some (writer_at ws (suc j)) (writer_at ws (suc k)) (sym (named-is j (omega arith)) ∙ e ∙ named-is k (omega arith)))

-- an order and values that say of it which events are in, and what stands before what
module _
    (v : List Bool) (events : List Event) (cell : Cell) (first : ℕ) (order : List ℕ)
    (once : (a : ℕ) → times a order ≤ 1)
    (has : (e : ℕ) → IsNumber (length events) e → is_in v e ≡ true → Contains order e)
    (within : (e : ℕ) → Contains order e → IsNumber (length events) e × (is_in v e ≡ true))
    (stands : (a b : ℕ) → Contains order a → Contains order b → is_before (length events) v a b ≡ true → StandsBefore order a b)
    (h : LastMeant v (length events) first (writers events cell)) where
  abbrev p : ℕ → Bool
  p = is_writer events cell

  abbrev here : List ℕ
  here = writers events cell

  true-last : (j : ℕ) → j ≤ length here → truth v (last_lit first j) → named_writer here j ≡ last_where p order
  true-last zero l t =
      sym (none-last p order (λ a c w.
      let (k, is, e) = number-of events cell a (within a c).0 w in
      h.none k is t (ap (λ (x : ℕ). is_true v (in_lit x)) e ∙ (within a c).1)))
  true-last (suc i) l t =
      let num : IsNumber (length here) (suc i) = (omega arith, l) in
      let is = writer-is events cell (suc i) num in
      let w : ℕ = writer_at here (suc i) in
      named-is events cell i (omega arith)
      ∙ sym (last-is p order (writer_at here (suc i)) once (has (writer_at here (suc i)) is.0 (h.inside (suc i) num t)) is.1 (λ a c wa ne.
      let (k, ik, e) = number-of events cell a (within a c).0 wa in
      let other : k ≢ suc i = λ same. ne (sym e ∙ ap (writer_at here) same) in
      let lit = h.before (suc i) k num ik other t (ap (λ (x : ℕ). is_true v (in_lit x)) e ∙ (within a c).1) in
      stands a (writer_at here (suc i)) c (has (writer_at here (suc i)) is.0 (h.inside (suc i) num t))
      (is_before-is (length events) v a (writer_at here (suc i)) ne
      ∙ ap (λ (x : ℕ). is_true v (before_lit (length events) x (writer_at here (suc i)))) (sym e) ∙ lit)))

  pub says-last : SaysLast v first (writers events cell) (last_writer events cell order)
  says-last = record {
    number = h.some.0;
    within = h.some.1;
    names = true-last h.some.0 h.some.1 h.some.2;
    one = λ j l. (
      λ t. named-apart events cell j h.some.0 l h.some.1 (true-last j l t ∙ sym (true-last h.some.0 h.some.1 h.some.2)),
      λ e. ap (λ (k : ℕ). is_true v (last_lit first k)) e ∙ h.some.2,
    );
  }

-- the clauses of one of the cells
pub each-at :
    (v : List Bool) (n first : ℕ) (all : List (List ℕ)) (i : ℕ) (ws : List ℕ) → MakesAllTrue v (each_last n first all)
    → slice_get all i ≡ Some ws → MakesAllTrue v (last_clauses n (first + last_vars (take i all)) ws)
each-at v n first [] i ws h e = cc
each-at v n first (xs ∷ more) zero ws h e =
    let place : first + 0 ≡ first = omega arith in
    let same : xs ≡ ws = same_Some xs ws e in
    let one = All-left (MakesTrue v) (last_clauses n first xs) (each_last n (first + (length xs + 1)) more) h in
    subst (λ (k : ℕ). MakesAllTrue v (last_clauses n k ws)) (sym place) (subst (λ (l : List ℕ). MakesAllTrue v (last_clauses n first l)) same one)
each-at v n first (xs ∷ more) (suc i) ws h e =
    let place : first + (length xs + 1) + last_vars (take i more) ≡ first + (length xs + 1 + last_vars (take i more)) = omega arith in
    let rest = All-right (MakesTrue v) (last_clauses n first xs) (each_last n (first + (length xs + 1)) more) h in
    subst (λ (k : ℕ). MakesAllTrue v (last_clauses n k ws)) place (each-at v n (first + (length xs + 1)) more i ws rest e)

-- the crash that values say is described by them, as far as the cut
pub record IsToldOf (v : List Bool) (events : List Event) (crash : Crash) : Type 0 where
  pub order : IsPermutation (numbers (length events)) crash.order
  pub inside : (e : ℕ) → IsNumber (length events) e → (is_in v e ≡ true) ↔ Contains (before_cut crash) e
  pub before :
      (a b : ℕ) → Contains (before_cut crash) a → Contains (before_cut crash) b
      → is_before (length events) v a b ≡ true → StandsBefore (before_cut crash) a b

-- an event before the cut is one of the events
pub before-number : (n a : ℕ) (crash : Crash) → IsPermutation (numbers n) crash.order → Contains (before_cut crash) a → IsNumber n a
before-number n a crash h there =
    let in_order : Contains crash.order a =
    subst (λ (xs : List ℕ). Contains xs a) (take-append-drop crash.cut crash.order) (Contains-append_left (before_cut crash) (drop crash.cut crash.order) a there) in
    numbers-within n a (Contains-permutation crash.order (numbers n) a (IsPermutation-sym (numbers n) crash.order h) in_order)

pub decoded-last :
    (events : List Event) (kept : List (ℕ × ℕ)) (cells : List Cell) (v : List Bool) (crash : Crash) (i : ℕ) (cell : Cell)
    → MakesAllTrue v (value_formula events kept cells).clauses
    → (MakesAllTrue v (order_clauses events kept) → IsToldOf v events crash) → slice_get cells i ≡ Some cell
    → SaysLast v (first_var events cells i) (writers events cell) (last_writer events cell (before_cut crash))
decoded-last events kept cells v crash i cell all tells is =
    let n : ℕ = length events in
    let front = All-left (MakesTrue v) (order_clauses events kept) (each_last (length events) (order_vars (length events) + 1) (map (writers events) cells)) all in
    let back = All-right (MakesTrue v) (order_clauses events kept) (each_last (length events) (order_vars (length events) + 1) (map (writers events) cells)) all in
    let at : slice_get (map (writers events) cells) i ≡ Some (writers events cell) = slice_get-map (writers events) cells i ∙ ap (λ (o : Option Cell). option_map (writers events) o) is in
    let clauses = each-at v (length events) (order_vars (length events) + 1) (map (writers events) cells) i (writers events cell) back at in
    let told : IsToldOf v events crash = tells front in
    let number : (e : ℕ) → Contains (before_cut crash) e → IsNumber (length events) e = λ e c. before-number (length events) e crash told.order c in
    says-last v events cell (first_var events cells i) (before_cut crash)
    (λ a. once-taken crash.order crash.cut a (ordered-once (length events) crash.order a told.order))
    (λ e num t. (told.inside e num).0 t)
    (λ e c. (number e c, (told.inside e (number e c)).1 c))
    (λ a b ca cb t. told.before a b ca cb t)
    (last-meant v (length events) (first_var events cells i) (writers events cell) clauses)

place-taken : (k a : ℕ) (xs : List ℕ) → Contains (take k xs) a → place a (take k xs) ≡ place a xs
place-taken zero a xs h = absurd (Contains-nil a h)
place-taken (suc k) a [] h = absurd (Contains-nil a h)
place-taken (suc k) a (x ∷ xs) h = elim (cases_eq x a) [
  | inl e ↦ place-head a x (take k xs) e ∙ sym (place-head a x xs e)
  | inr ne ↦ elim (Contains-cons_cases x (take k xs) a h) [
    | inl e ↦ absurd (ne e)
    | inr later ↦ place-tail a x (take k xs) ne ∙ ap (λ (n : ℕ). 1 + n) (place-taken k a xs later) ∙ sym (place-tail a x xs ne)
  ]
]

-- values that describe a crash say it
pub described-told :
    (v : List Bool) (events : List Event) (kept : List (ℕ × ℕ)) (crash : Crash) → IsCrash events kept crash → Describes (length events) v crash
    → IsToldOf v events crash
described-told v events kept crash c d = record {
  order = c.valid.permutes;
  inside = λ e is. d.inside e is;
  before = λ a b ca cb t.
      let number : (e : ℕ) → Contains (before_cut crash) e → IsNumber (length events) e = λ e h. before-number (length events) e crash c.valid.permutes h in
      let once : (x : ℕ) → times x crash.order ≤ 1 = λ x. ordered-once (length events) crash.order x c.valid.permutes in
      let less = places-from_stands a b crash.order (once b) ((d.before a b (number a ca) (number b cb)).0 t) in
      stands-from_places a b (before_cut crash) ca cb (omega (arith, place-taken crash.cut a crash.order ca, place-taken crash.cut b crash.order cb));
}
