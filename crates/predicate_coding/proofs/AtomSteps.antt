-- What a turn of a loop over choices or marks adds.
use Rattle.std.proofs.Common.{◌≡◌, ◌≢◌, ℕ, ◌+◌, ◌≤◌, cond, List, [], ◌∷◌, ◌++◌, length, map, take, Option, Some, None, refl, sym, ◌∙◌, ap, subst, arith}
use Rattle.std.specs.List.{All, flat_map, range_with_len}
use Rattle.std.proofs.Math.Seq.{take-length}
use Rattle.std.proofs.lemmas.List.Concat.{flat_map-cons}
use Rattle.std.proofs.lemmas.List.FromFn.{map-range_with_len_more}
use Rattle.std.proofs.lemmas.List.Elements.{All-nil, All-cons, All-map, All-weaker}
use Rattle.std.proofs.lemmas.Grind.{flat_map-append}
use Rattle.clause_store.specs.declared.Lit.{Lit}
use Rattle.clause_store.specs.Clauses.{Formula, InVars, negated}
use Rattle.clause_store.proofs.GeneralLists.{Contains-from_filter}
use Rattle.fer_events.specs.declared.event.Event.{Event}
use Rattle.fer_events.specs.Orders.{numbers}
use Rattle.fer_events.specs.Tables.{Trace}
use Rattle.order_coding.specs.Variables.{order_vars, in_lit}
use Rattle.order_coding.specs.Growth.{joined}
use Rattle.order_coding.proofs.GeneralLists.{All-from_contains, eq-no, range_more}
use Rattle.order_coding.proofs.GeneralOrders.{numbers-within}
use Rattle.order_coding.proofs.GeneralGrowth.{append-nil, joined-joined}
use Rattle.value_coding.specs.WordMarks.{is_mark}
use Rattle.value_coding.specs.declared.cell.CodedCell.{CodedCell}
use Rattle.predicate_coding.specs.CellChoices.{yes_lit, is_slot, slot_cells}
use Rattle.predicate_coding.specs.AtomNodes.{same_choices, same_slots, marks_in}
use Rattle.predicate_coding.specs.Growing.{if_both, with_node}
use Rattle.predicate_coding.proofs.Steps.{flat-filter}

pub pairs-next :
    (f : ℕ → List Lit) (k : ℕ) (old mid new : Formula) → mid ≡ joined old (map f (range_with_len 0 k))
    → new ≡ joined mid (f k ∷ []) → new ≡ joined old (map f (range_with_len 0 (k + 1)))
pairs-next f k old mid new e h =
    let zero_is : 0 + k ≡ k = omega arith in
    h ∙ ap (λ (g : Formula). joined g (f k ∷ [])) e ∙ joined-joined old (map f (range_with_len 0 k)) (f k ∷ [])
    ∙ ap (joined old) (sym (map-range_with_len_more f 0 k k zero_is))

pub choices-next :
    (f : ℕ → List (List Lit)) (k : ℕ) (old mid new : Formula) → mid ≡ joined old (flat_map f (range_with_len 0 k))
    → new ≡ joined mid (f k) → new ≡ joined old (flat_map f (range_with_len 0 (k + 1)))
choices-next f k old mid new e h =
    let zero_is : 0 + k ≡ k = omega arith in
    let more : flat_map f (range_with_len 0 (k + 1)) ≡ flat_map f (range_with_len 0 k) ++ f k =
    ap (flat_map f) (range_more 0 k ∙ ap (λ (n : ℕ). range_with_len 0 k ++ n ∷ []) zero_is) ∙ flat_map-append f (range_with_len 0 k) (k ∷ [])
    ∙ ap (λ (ys : List (List Lit)). flat_map f (range_with_len 0 k) ++ ys) (append-nil (f k)) in
    h ∙ ap (λ (g : Formula). joined g (f k)) e ∙ joined-joined old (flat_map f (range_with_len 0 k)) (f k) ∙ ap (joined old) (sym more)

-- the clause of marks is over the variables
pub marks-named :
    (marks : List ℕ) (own : Lit) (clause : List Lit) (n top k : ℕ) → top ≡ n + 1 → own ≡ yes_lit k → k ≡ n + 1
    → All (λ e. (1 ≤ e) × (e ≤ n)) marks → clause ≡ negated own ∷ map in_lit marks → All (InVars top) clause
marks-named marks own clause n top k e f g all is =
    let var : own.var ≡ k = ap (λ (l : Lit). l.var) f in
    subst (All (InVars top)) (sym is)
    (All-cons (InVars top) (negated own) (map in_lit marks) (omega arith, omega arith)
    (All-map (InVars top) in_lit marks (All-weaker (λ e. (1 ≤ e) × (e ≤ n)) (λ e. InVars top (in_lit e)) (λ x h. (h.0, omega (arith, h.1))) marks all)))

pub marks-within : (events : List Event) (word : Option ℕ) (n : ℕ) → order_vars (length events) ≤ n → All (λ e. (1 ≤ e) × (e ≤ n)) (marks_in events word)
marks-within events None n h = All-nil (λ e. (1 ≤ e) × (e ≤ n))
marks-within events (Some word) n h =
    All-from_contains (λ e. (1 ≤ e) × (e ≤ n)) (marks_in events (Some word)) (λ e there.
    let is = numbers-within (length events) e (Contains-from_filter (is_mark events word) (numbers (length events)) e there).0 in
    (is.0, omega (arith, is.1)))

pub flat-same : {A B : Type 0} (f g : A → List B) (xs : List A) → ((x : A) → f x ≡ g x) → flat_map f xs ≡ flat_map g xs
flat-same f g [] h = refl
flat-same {A} {B} f g (x ∷ xs) h =
    flat_map-cons f x xs ∙ ap (λ (ys : List B). ys ++ flat_map f xs) (h x) ∙ ap (λ (ys : List B). g x ++ ys) (flat-same f g xs h)
    ∙ sym (flat_map-cons g x xs)

both-flat :
    (t : Trace) (own : Lit) (left right : ℕ) (cells : List CodedCell)
    → flat_map (λ p. flat_map (same_choices t own p) (slot_cells cells right)) (slot_cells cells left) ≡ flat_map (if_both t own left right cells) cells
both-flat t own left right cells =
    flat-filter (λ p. flat_map (same_choices t own p) (slot_cells cells right)) (λ c. is_slot left c.cell) cells
    ∙ flat-same (λ p. cond (is_slot left p.cell) (flat_map (same_choices t own p) (slot_cells cells right)) []) (if_both t own left right cells) cells
    (λ p. ap (λ (cs : List (List Lit)). cond (is_slot left p.cell) cs []) (flat-filter (same_choices t own p) (λ c. is_slot right c.cell) cells))

pub two-made :
    (t : Trace) (cells : List CodedCell) (left right i : ℕ) (f0 f1 f2 : Formula) (own : ℕ) → left ≢ right → own ≡ f0.vars + 1
    → f1 ≡ record f0 { vars = f0.vars + 1 } → i ≡ length cells → f2 ≡ joined f1 (flat_map (if_both t (yes_lit own) left right cells) (take i cells))
    → f2 ≡ with_node f0 (same_slots t cells left right)
two-made t cells left right i f0 f1 f2 own ne o e all h =
    let one : f0.vars + 1 ≡ f0.vars + (0 + 1) = omega arith in
    rw (eq-no left right ne)
    (h ∙ ap (λ (cs : List CodedCell). joined f1 (flat_map (if_both t (yes_lit own) left right cells) cs)) (ap (λ (k : ℕ). take k cells) all ∙ take-length cells)
    ∙ ap (joined f1) (sym (both-flat t (yes_lit own) left right cells))
    ∙ ap (λ (k : ℕ). joined f1 (flat_map (λ p. flat_map (same_choices t (yes_lit k) p) (slot_cells cells right)) (slot_cells cells left))) o
    ∙ ap (λ (f : Formula). joined f (flat_map (λ p. flat_map (same_choices t (yes_lit (f0.vars + 1)) p) (slot_cells cells right)) (slot_cells cells left))) e
    ∙ ap (λ (k : ℕ). record { vars = k; clauses = f0.clauses ++ flat_map (λ p. flat_map (same_choices t (yes_lit (f0.vars + 1)) p) (slot_cells cells right)) (slot_cells cells left) }) one)
