-- What a choice of a slot names.
use Rattle.std.proofs.Common.{◌≡◌, ℕ, ◌+◌, ◌<◌, ◌≤◌, ltb, true, List, [], ◌∷◌, ◌++◌, length, filter, get_or, Option, Some, Contains, sym, ◌∙◌, ap, subst, arith}
use Rattle.std.specs.List.{flat_map, range_with_len}
use Rattle.std.proofs.lemmas.List.Elements.{All-weaker, Contains-get_or}
use Rattle.std.proofs.lemmas.Grind.{flat_map-append}
use Rattle.clause_store.specs.declared.Lit.{Lit}
use Rattle.clause_store.proofs.GeneralLists.{Contains-from_filter}
use Rattle.order_coding.specs.Growth.{joined}
use Rattle.order_coding.proofs.GeneralLists.{range_more, range_within}
use Rattle.order_coding.proofs.GeneralGrowth.{append-nil, joined-joined}
use Rattle.fer_events.specs.Tables.{Trace, IsTrace, file_count}
use Rattle.clause_store.specs.Clauses.{Formula, InVars}
use Rattle.value_coding.specs.declared.cell.Cell.{Cell}
use Rattle.value_coding.specs.declared.cell.Cell.TheVariants.{SlotOf}
use Rattle.value_coding.specs.Cells.{Value, Held, Sized, Valued, Filled}
use Rattle.value_coding.specs.Readings.{may_hold}
use Rattle.value_coding.specs.Writers.{writers, value_by}
use Rattle.value_coding.specs.LastClauses.{last_lit, named_writer}
use Rattle.value_coding.proofs.GeneralCandidates.{candidate}
use Rattle.predicate_coding.specs.CellChoices.{choice_value, yes_lit, candidates, candidates_below, file_in, is_slot, slot_cells}
use Rattle.predicate_coding.specs.Fits.{fits_lit, fits_clauses}
use Rattle.predicate_coding.specs.AtomNodes.{as_held, as_held_to, as_held_in, file_node}
use Rattle.predicate_coding.specs.Growing.{if_slot, IsCoded, AreCoded, with_node}
use Rattle.predicate_coding.specs.declared.asked.Asked.{Asked}
use Rattle.value_coding.specs.declared.cell.CodedCell.{CodedCell}
use Rattle.predicate_coding.proofs.Steps.{flat-filter}
use Rattle.predicate_coding.proofs.CandidateRows.{below-read, count-below}
use Rattle.predicate_coding.proofs.HeldFiles.{may-there, is-slot}

is_held : (v : Value) (f : ℕ) → file_in v ≡ Some f → v ≡ Held (Some f)
is_held (Held o) f e = ap (λ (o : Option ℕ). Held o) e
is_held (Sized n) f e = cc
is_held (Valued o) f e = cc
is_held (Filled xs) f e = cc

-- the file that a choice of a slot gives is a candidate
pub choice_there :
    (t : Trace) (slot j f : ℕ) (cell : Cell) → IsTrace t → cell ≡ SlotOf slot → file_in (choice_value t cell j) ≡ Some f
    → (f < file_count t) × (length (candidates_below t slot f) < length (candidates t slot))
choice_there t slot j f cell rules is e =
    let value = is_held (choice_value t cell j) f e in
    let may = candidate t slot f (named_writer (writers t.events cell) j) (ap (λ (c : Cell). value_by t c (named_writer (writers t.events cell) j)) (sym is) ∙ value) in
    let there = may-there t slot f rules may in
    (there, (below-read (may_hold t slot) (file_count t) f may there).0)

-- so the variable that is counted is its own
pub fits_var_is :
    (t : Trace) (slot first f var : ℕ) (files : List ℕ) → files ≡ candidates t slot → f < file_count t
    → var ≡ first + length (filter (λ c. ltb c f) files) → yes_lit var ≡ fits_lit t slot first f
fits_var_is t slot first f var files is there e =
    ap yes_lit (e ∙ ap (λ (xs : List ℕ). first + length (filter (λ c. ltb c f) xs)) is ∙ ap (λ (n : ℕ). first + n) (count-below (may_hold t slot) f (file_count t) (omega arith)))

pub fits_within :
    (t : Trace) (slot first f n : ℕ) (files : List ℕ) → files ≡ candidates t slot → length (candidates_below t slot f) < length (candidates t slot)
    → 1 ≤ first → first + length files ≤ n → InVars n (fits_lit t slot first f)
fits_within t slot first f n files is short some room = (omega arith, omega (arith, ap length is))

-- what a turn of a loop adds
pub held_next :
    (t : Trace) (slot first : ℕ) (own : Lit) (c : CodedCell) (k : ℕ) (old mid new : Formula) → mid ≡ joined old (as_held_to t slot first own c k)
    → new ≡ joined mid (as_held t slot first own (last_lit c.first k) (file_in (choice_value t c.cell k))) → new ≡ joined old (as_held_to t slot first own c (k + 1))
held_next t slot first own c k old mid new e f =
    let now : List (List Lit) = as_held t slot first own (last_lit c.first k) (file_in (choice_value t c.cell k)) in
    let zero_is : 0 + k ≡ k = omega arith in
    let more : as_held_to t slot first own c (k + 1) ≡ as_held_to t slot first own c k ++ as_held t slot first own (last_lit c.first k) (file_in (choice_value t c.cell k)) =
    ap (flat_map (λ j. as_held t slot first own (last_lit c.first j) (file_in (choice_value t c.cell j)))) (range_more 0 k ∙ ap (λ (n : ℕ). range_with_len 0 k ++ n ∷ []) zero_is)
    ∙ flat_map-append (λ j. as_held t slot first own (last_lit c.first j) (file_in (choice_value t c.cell j))) (range_with_len 0 k) (k ∷ [])
    ∙ ap (λ (xs : List (List Lit)). as_held_to t slot first own c k ++ xs) (append-nil (as_held t slot first own (last_lit c.first k) (file_in (choice_value t c.cell k)))) in
    f ∙ ap (λ (g : Formula). joined g (as_held t slot first own (last_lit c.first k) (file_in (choice_value t c.cell k)))) e
    ∙ joined-joined old (as_held_to t slot first own c k) (as_held t slot first own (last_lit c.first k) (file_in (choice_value t c.cell k)))
    ∙ ap (joined old) (sym more)

pub slot_is : (slot : ℕ) (cell : Cell) → is_slot slot cell ≡ true → cell ≡ SlotOf slot
slot_is slot cell e = is-slot slot cell e

-- more variables are still enough
pub coded_more : (t : Trace) (n m : ℕ) (cells : List CodedCell) → n ≤ m → AreCoded t n cells → AreCoded t m cells
coded_more t n m cells l all =
    All-weaker (IsCoded t n) (IsCoded t m) (λ c h. record { some = h.some; room = omega (arith, h.room); writers = h.writers; there = h.there }) cells all

-- each of the candidates is one
pub candidates_there :
    (t : Trace) (slot : ℕ) (files : List ℕ) (i d : ℕ) → files ≡ candidates t slot → i < length files
    → (get_or files i d < file_count t) × (length (candidates_below t slot (get_or files i d)) < length (candidates t slot))
candidates_there t slot files i d is l =
    let there : Contains (candidates t slot) (get_or files i d) = subst (λ (xs : List ℕ). Contains xs (get_or files i d)) is (Contains-get_or files i d l) in
    let kept = Contains-from_filter (may_hold t slot) (range_with_len 0 (file_count t)) (get_or files i d) there in
    let low = (range_within 0 (file_count t) (get_or files i d) kept.0).1 in
    (omega (arith, low), (below-read (may_hold t slot) (file_count t) (get_or files i d) kept.1 (omega (arith, low))).0)

-- the clauses of candidates and of the slot are those of the node
pub node_made :
    (t : Trace) (cells : List CodedCell) (asked : Asked) (slot : ℕ) (files : List ℕ) (f0 f1 f2 f3 : Formula) (first own : ℕ) → files ≡ candidates t slot
    → first ≡ f0.vars + 1 → own ≡ f0.vars + (length files + 1) → f1 ≡ record f0 { vars = own } → f2 ≡ joined f1 (flat_map (fits_clauses t cells first asked slot) files)
    → f3 ≡ joined f2 (flat_map (if_slot t slot first (yes_lit own)) cells) → f3 ≡ with_node f0 (file_node t cells asked slot)
node_made t cells asked slot files f0 f1 f2 f3 first own is e o a b d =
    let count : length files ≡ length (candidates t slot) = ap length is in
    let last : first + length (candidates t slot) ≡ f0.vars + (length (candidates t slot) + 1) = omega arith in
    let at : own ≡ first + length (candidates t slot) = omega arith in
    let fits_all : ℕ → List (List Lit) = λ k. flat_map (fits_clauses t cells k asked slot) (candidates t slot) in
    d ∙ ap (λ (f : Formula). joined f (flat_map (if_slot t slot first (yes_lit own)) cells)) (b ∙ ap (λ (f : Formula). joined f (flat_map (fits_clauses t cells first asked slot) files)) a)
    ∙ joined-joined (record f0 { vars = own }) (flat_map (fits_clauses t cells first asked slot) files) (flat_map (if_slot t slot first (yes_lit own)) cells)
    ∙ ap (λ (xs : List ℕ). joined (record f0 { vars = own }) (flat_map (fits_clauses t cells first asked slot) xs ++ flat_map (if_slot t slot first (yes_lit own)) cells)) is
    ∙ ap (λ (xs : List (List Lit)). joined (record f0 { vars = own }) (fits_all first ++ xs)) (sym (flat-filter (as_held_in t slot first (yes_lit own)) (λ c. is_slot slot c.cell) cells))
    ∙ ap (λ (k : ℕ). joined (record f0 { vars = k }) (fits_all first ++ flat_map (as_held_in t slot first (yes_lit k)) (slot_cells cells slot))) at
    ∙ ap (λ (k : ℕ). joined (record f0 { vars = k }) (fits_all first ++ flat_map (as_held_in t slot first (yes_lit (first + length (candidates t slot)))) (slot_cells cells slot))) last
    ∙ ap (λ (k : ℕ). joined (record f0 { vars = f0.vars + (length (candidates t slot) + 1) }) (fits_all k ++ flat_map (as_held_in t slot k (yes_lit (k + length (candidates t slot)))) (slot_cells cells slot))) e
