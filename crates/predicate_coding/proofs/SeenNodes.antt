-- The clauses of a mark's word.
use Rattle.std.proofs.Common.{◌≡◌, inl, inr, ℕ, ◌+◌, ◌<◌, Bool, true, false, List, [], ◌∷◌, length, map, Option, Some, None, unwrap_or, Contains, refl, sym, ◌∙◌, ap, arith}
use Rattle.std.proofs.lemmas.List.Elements.{All-cons, All-head, All-tail, All-map, All-contains}
use Rattle.clause_store.specs.declared.Lit.{Lit}
use Rattle.clause_store.specs.Clauses.{negated}
use Rattle.clause_store.specs.Truth.{is_true, MakesTrue, MakesAllTrue}
use Rattle.clause_store.proofs.GeneralLists.{Contains-map, Contains-from_map, Contains-filter, Contains-from_filter, Contains-nil}
use Rattle.litmus_syntax.specs.declared.pred.Pred.{Pred}
use Rattle.fer_events.specs.Orders.{numbers}
use Rattle.fer_events.specs.States.{State, after_numbers, start_state}
use Rattle.fer_events.specs.Tables.{Trace}
use Rattle.fer_events.specs.Truth.{item_at}
use Rattle.order_coding.specs.Variables.{IsNumber, in_lit}
use Rattle.order_coding.proofs.GeneralLists.{All-from_contains, Any-here, Any-later, Any-cases}
use Rattle.order_coding.proofs.GeneralOrders.{numbers-contain, numbers-within}
use Rattle.order_coding.proofs.GeneralLists.{bit_cases, true_false}
use Rattle.value_coding.specs.WordMarks.{is_mark}
use Rattle.order_coding.proofs.GeneralClauses.{truth, of-two, two}
use Rattle.value_coding.proofs.Runs.{any-here}
use Rattle.value_coding.proofs.GeneralSeen.{seen-by_marks}
use Rattle.value_coding.specs.declared.cell.CodedCell.{CodedCell}
use Rattle.predicate_coding.specs.CellChoices.{yes_lit}
use Rattle.predicate_coding.specs.AtomNodes.{marks, seen_node}
use Rattle.predicate_coding.proofs.Logic.{same-test}
use Rattle.predicate_coding.proofs.Told.{Knows}
use Rattle.predicate_coding.proofs.Fits.{negated-yes, negated-no}
use Rattle.predicate_coding.proofs.HeldFiles.{any-of}
use Rattle.predicate_coding.proofs.Made.{Says, IsMade}

-- one of these events is in
abbrev SomeIn : List Bool → List ℕ → Type 0
SomeIn v es = (e : ℕ) × Contains es e × truth v (in_lit e)

module _ (v : List Bool) (es : List ℕ) (own : Lit) where
  abbrev shown : List (List Lit)
  shown = map (λ e. negated (in_lit e) ∷ own ∷ []) es

  own-some : MakesTrue v (negated own ∷ map in_lit es) → truth v own → SomeIn v es
  own-some h o = elim (Any-cases (truth v) (negated own) (map in_lit es) h) [
    | inl n ↦ true_false (is_true v own) o (negated-no v own n)
    | inr (k, x, l, is, t) ↦
        let (e, there, same) = Contains-from_map in_lit es x (k, l, is) in
        (e, there, ap (λ (y : Lit). is_true v y) same ∙ t)
  ]

  some-own : MakesAllTrue v shown → SomeIn v es → truth v own
  some-own all some = of-two v (in_lit some.0) own (All-contains (MakesTrue v) shown (negated (in_lit some.0) ∷ own ∷ []) all (Contains-map (λ e. negated (in_lit e) ∷ own ∷ []) es some.0 some.1)) some.2

  seen-clauses : (truth v own → SomeIn v es) → (SomeIn v es → truth v own) → MakesAllTrue v ((negated own ∷ map in_lit es) ∷ shown)
  seen-clauses to from =
      All-cons (MakesTrue v) (negated own ∷ map in_lit es) shown (elim (bit_cases (is_true v own)) [
        | inl o ↦
            let (e, there, t) = to o in
            let (k, l, is) = Contains-map in_lit es e there in
            Any-later (truth v) (negated own) (map in_lit es) (k, in_lit e, l, is, t)
        | inr f ↦ Any-here (truth v) (negated own) (map in_lit es) (negated-yes v own f)
      ])
      (All-map (MakesTrue v) (λ e. negated (in_lit e) ∷ own ∷ []) es (All-from_contains (λ e. MakesTrue v (negated (in_lit e) ∷ own ∷ [])) es (λ e h. two v (in_lit e) own (λ t. from (e, h, t)))))

-- the word, if it has a number, is one of the trace
abbrev pub WordThere : Trace → Option ℕ → Type 0
WordThere t None = Unit {0}
WordThere t (Some word) = word < length t.words

module _ (t : Trace) (q : Pred) (order : List ℕ) (within : (e : ℕ) → Contains order e → IsNumber (length t.events) e) (cs : List CodedCell) where
  abbrev s : State
  s = after_numbers t.events (start_state t) order

  abbrev seen_at : Option ℕ → Bool
  seen_at o = unwrap_or (item_at s.seen o) false

  some-seen : (v : List Bool) → Knows t q order cs v → (o : Option ℕ) → WordThere t o → SomeIn v (marks t o) → seen_at o ≡ true
  some-seen v knows None there (e, h, x) = absurd (Contains-nil e h)
  some-seen v knows (Some word) there (e, h, x) =
      let (num, mark) = Contains-from_filter (is_mark t.events word) (numbers (length t.events)) e h in
      let is = numbers-within (length t.events) e num in
      seen-by_marks t word order there ∙ any-here (is_mark t.events word) order e ((knows.inside e is).0 x) mark

  seen-some : (v : List Bool) → Knows t q order cs v → (o : Option ℕ) → WordThere t o → seen_at o ≡ true → SomeIn v (marks t o)
  seen-some v knows None there h = cc
  seen-some v knows (Some word) there h =
      let (e, in_order, mark) = any-of (is_mark t.events word) order (sym (seen-by_marks t word order there) ∙ h) in
      let is = within e in_order in
      (e, Contains-filter (is_mark t.events word) (numbers (length t.events)) e (numbers-contain (length t.events) e is) mark, (knows.inside e is).1 in_order)

  zero-is : (first : ℕ) → first + 0 ≡ first
  zero-is first = omega arith

  pub seen_node-says : (v : List Bool) → Knows t q order cs v → (o : Option ℕ) → WordThere t o → Says v (seen_node (marks t o)) (unwrap_or (item_at s.seen o) false)
  seen_node-says v knows o there first all =
      ap (λ (k : ℕ). is_true v (yes_lit k)) (zero-is first)
      ∙ same-test (is_true v (yes_lit first)) (seen_at o)
      (λ y. some-seen v knows o there (own-some v (marks t o) (yes_lit first) (All-head (MakesTrue v) (negated (yes_lit first) ∷ map in_lit (marks t o)) (shown v (marks t o) (yes_lit first)) all) y))
      (λ y. some-own v (marks t o) (yes_lit first) (All-tail (MakesTrue v) (negated (yes_lit first) ∷ map in_lit (marks t o)) (shown v (marks t o) (yes_lit first)) all) (seen-some v knows o there y))

  pub seen_node-made : (o : Option ℕ) → WordThere t o → IsMade (Knows t q order cs) (seen_node (marks t o)) (unwrap_or (item_at s.seen o) false)
  seen_node-made o there = record {
    row = [];
    long = refl;
    makes = λ v knows first reads own.
        let is : is_true v (yes_lit first) ≡ seen_at o = ap (λ (k : ℕ). is_true v (yes_lit k)) (sym (zero-is first)) ∙ own in
        seen-clauses v (marks t o) (yes_lit first) (λ y. seen-some v knows o there (sym is ∙ y)) (λ some. is ∙ some-seen v knows o there some);
  }
