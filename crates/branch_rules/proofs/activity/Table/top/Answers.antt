use Rattle.std.proofs.Common.{◌≡◌, ◌≢◌, ◌<◌, ◌≤◌, ◌∙◌, inl, inr, List, ℕ, Some, None, length, get_or, take, ◌-◌, sym, subst, ap, arith}
use Rattle.std.proofs.lemmas.Option.{same_Some}
use Rattle.std.proofs.lemmas.List.{get_or_default}
use Rattle.branch_rules.specs.Choosing.{Scoring, IsOpen, IsHighest, score_of}
use Rattle.branch_rules.specs.Heap.{rank, rank_of, Under}
use Rattle.branch_rules.proofs.Tables.{front-read, zero-none, zero-some, is-highest}
use Rattle.branch_rules.proofs.activity.Table.top.Goals as goal
use Rattle.branch_rules.proofs.activity.Table.top.Goals.{After-highest, Then-index-eq0, Else-index-eq0}

same-default : (xs : List ℕ) (i x : ℕ) → i < length xs → x ≡ get_or xs i x → get_or xs i 0 ≡ x
same-default xs i x lt e = sym (e ∙ get_or_default xs i x 0 lt)

reads : (c : After-highest) → (i : ℕ) → i < c.self.inside.count → get_or c.split_at.result.0.now i 0 ≡ get_or c.self.inside.heap.items i 0
reads c i lt = front-read c.self.inside.heap.items c.split_at.result.0.now c.self.inside.count i (c.split_at.ensures.front ∙ ap (λ (xs : List ℕ). take c.self.inside.count xs) c.as_slice.ensures.value) lt

best : (c : After-highest) → (i : ℕ) → Under 0 i → i < length c.split_at.result.0.now → IsOpen c.args.values.now (get_or c.split_at.result.0.now i 0) → rank c.self.inside.scores.items (get_or c.split_at.result.0.now i 0) ≤ rank_of c.self.inside.scores.items c.highest.result
best c =
    let P : List ℕ → Type 0 = λ xs. (i : ℕ) → Under 0 i → i < length c.split_at.result.0.now → IsOpen c.args.values.now (get_or c.split_at.result.0.now i 0) → rank xs (get_or c.split_at.result.0.now i 0) ≤ rank_of xs c.highest.result in
    subst P c.as_slice-2.ensures.value c.highest.ensures.best

-- the variable that was found is there and has no value
found : (c : After-highest) → (b : ℕ) → c.highest.result ≡ Some b → (1 ≤ b) × (b ≤ length c.self.inside.scores.items) × IsOpen c.args.values.now b
found c b e = elim c.highest.ensures.chosen [
  | inl none ↦ (let bad : Some b ≡ None = sym e ∙ none in cc)
  | inr h ↦
      let P : ℕ → Type 0 = λ v. (1 ≤ v) × (v ≤ length c.self.inside.scores.items) × IsOpen c.args.values.now v in
      let len : length c.as_slice-2.result.now ≡ length c.self.inside.scores.items = ap (λ (xs : List ℕ). length xs) c.as_slice-2.ensures.value in
      subst P (same_Some h.0 b (sym h.1 ∙ e)) (h.2, omega (arith, h.3, len), h.4)
]

pub returns-in-None-clause-none : goal.returns-in-None-clause-none
returns-in-None-clause-none c =
    let P : List ℕ → Type 0 = λ xs. (w : ℕ) → IsOpen c.args.values.now w → score_of xs w ≡ 0 in
    subst P (ap (λ (s : Scoring). s.scores) c.self.view_is) (zero-none c.self.inside.scores.items c.self.inside.heap.items c.self.inside.places.items c.self.inside.count c.self.inside.step c.self.invariant c.args.values.now c.split_at.result.0.now c.split_at.ensures.front_len (reads (goal.at.returns-in-None-clause-none c).After-highest) c.highest.result (best (goal.at.returns-in-None-clause-none c).After-highest) c.in-None.is)

pub returns-then-index-eq0-clause-none : goal.returns-then-index-eq0-clause-none
returns-then-index-eq0-clause-none c =
    let P : List ℕ → Type 0 = λ xs. (w : ℕ) → IsOpen c.args.values.now w → score_of xs w ≡ 0 in
    let f = found (goal.at.returns-then-index-eq0-clause-none c).After-highest c.in-Some.var c.in-Some.is in
    let zero' : score_of c.self.inside.scores.items c.in-Some.var ≡ 0 = same-default c.self.inside.scores.items (c.in-Some.var - 1) c.index.result.now (omega (arith, f.0, f.1)) c.index.ensures ∙ c.if-index-eq0.true in
    subst P (ap (λ (s : Scoring). s.scores) c.self.view_is) (zero-some c.self.inside.scores.items c.self.inside.heap.items c.self.inside.places.items c.self.inside.count c.self.inside.step c.self.invariant c.args.values.now c.split_at.result.0.now c.split_at.ensures.front_len (reads (goal.at.returns-then-index-eq0-clause-none c).After-highest) c.highest.result (best (goal.at.returns-then-index-eq0-clause-none c).After-highest) c.in-Some.var c.in-Some.is f.0 f.1 zero')

pub returns-else-index-eq0-clause-some : goal.returns-else-index-eq0-clause-some
returns-else-index-eq0-clause-some c =
    let P : List ℕ → Type 0 = λ xs. IsHighest xs c.args.values.now c.in-Some.var in
    let f = found (goal.at.returns-else-index-eq0-clause-some c).After-highest c.in-Some.var c.in-Some.is in
    let some : score_of c.self.inside.scores.items c.in-Some.var ≢ 0 = λ z. c.if-index-eq0.false (sym (same-default c.self.inside.scores.items (c.in-Some.var - 1) c.index.result.now (omega (arith, f.0, f.1)) c.index.ensures) ∙ z) in
    subst P (ap (λ (s : Scoring). s.scores) c.self.view_is) (is-highest c.self.inside.scores.items c.self.inside.heap.items c.self.inside.places.items c.self.inside.count c.self.inside.step c.self.invariant c.args.values.now c.split_at.result.0.now c.split_at.ensures.front_len (reads (goal.at.returns-else-index-eq0-clause-some c).After-highest) c.highest.result (best (goal.at.returns-else-index-eq0-clause-some c).After-highest) c.in-Some.var c.in-Some.is f.0 f.1 some f.2)
