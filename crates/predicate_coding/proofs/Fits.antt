-- The variable of a candidate is true exactly where it has what is asked.
use Rattle.std.proofs.Common.{◌≡◌, inl, inr, ℕ, ◌+◌, ◌<◌, ◌≤◌, Bool, false, not, List, [], ◌∷◌, length, map, filter, Some, None, Contains, refl, sym, ◌∙◌, ap, arith}
use Rattle.std.specs.Bool.{Decides}
use Rattle.std.specs.List.{All}
use Rattle.std.proofs.lemmas.Bool.Decides.{same_from_decides}
use Rattle.std.proofs.lemmas.List.Elements.{All-append, All-nil, All-cons, All-head, All-map, All-contains}
use Rattle.litmus_syntax.specs.declared.pred.Pred.{Pred}
use Rattle.clause_store.specs.declared.Lit.{Lit}
use Rattle.clause_store.specs.Clauses.{negated}
use Rattle.clause_store.specs.Truth.{is_true, MakesTrue, MakesAllTrue}
use Rattle.clause_store.proofs.GeneralLiterals.{is_true-negated}
use Rattle.clause_store.proofs.GeneralLists.{Contains-map, Contains-filter, Contains-from_filter}
use Rattle.fer_events.specs.States.{State, after_numbers, start_state}
use Rattle.fer_events.specs.Tables.{Trace, IsTrace, file_count}
use Rattle.order_coding.proofs.GeneralLists.{All-from_contains, All-left, All-right, All-flat_map, All-from_flat_map, Any-here, Any-later, Any-cases, range_contains, range_within}
use Rattle.order_coding.proofs.GeneralLists.{bit_cases, true_false}
use Rattle.value_coding.specs.Cells.{cell_value}
use Rattle.value_coding.specs.declared.reading.Part.{Part}
use Rattle.value_coding.specs.Readings.{parts}
use Rattle.value_coding.specs.Writers.{writers}
use Rattle.value_coding.specs.LastClauses.{last_lit}
use Rattle.order_coding.proofs.GeneralClauses.{truth, of-one, of-two, two}
use Rattle.predicate_coding.specs.declared.asked.Asked.{Asked}
use Rattle.predicate_coding.specs.declared.asked.Asked.TheVariants.{Presence, ItsSize, Content, TextAt, Attribute}
use Rattle.predicate_coding.specs.Asking.{meets, reads, suits}
use Rattle.value_coding.specs.declared.cell.CodedCell.{CodedCell}
use Rattle.predicate_coding.specs.CellChoices.{choices, choice_value}
use Rattle.predicate_coding.specs.Fits.{fits_lit, unsuited, misfits, fits_unless, fits_clauses}
use Rattle.predicate_coding.proofs.Logic.{true_or_false}
use Rattle.predicate_coding.proofs.Logic.{not-true}
use Rattle.predicate_coding.proofs.Meets.{parts_of, IsKnown, Suits, meets-decided}
use Rattle.predicate_coding.proofs.Told.{Tells}

pub negated-yes : (v : List Bool) (l : Lit) → is_true v l ≡ false → truth v (negated l)
negated-yes v l e = is_true-negated v l ∙ ap not e

pub negated-no : (v : List Bool) (l : Lit) → truth v (negated l) → is_true v l ≡ false
negated-no v l n = not-true (is_true v l) (λ t. true_false (is_true v (negated l)) n (is_true-negated v l ∙ ap not t))

pub one-no : (v : List Bool) (l : Lit) → MakesTrue v (negated l ∷ []) → is_true v l ≡ false
one-no v l h = negated-no v l (of-one v (negated l) h)

pub no-one : (v : List Bool) (l : Lit) → is_true v l ≡ false → MakesTrue v (negated l ∷ [])
no-one v l e = Any-here (truth v) (negated l) [] (negated-yes v l e)

pub of-three-not : (v : List Bool) (x y z : Lit) → MakesTrue v (negated x ∷ y ∷ negated z ∷ []) → truth v x → truth v z → truth v y
of-three-not v x y z h s t = elim (Any-cases (truth v) (negated x) (y ∷ negated z ∷ []) h) [
  | inl n ↦ true_false (is_true v x) s (negated-no v x n)
  | inr rest ↦ elim (Any-cases (truth v) y (negated z ∷ []) rest) [
    | inl e ↦ e
    | inr last ↦ true_false (is_true v z) t (one-no v z last)
  ]
]

pub three-not : (v : List Bool) (x y z : Lit) → (truth v x → truth v z → truth v y) → MakesTrue v (negated x ∷ y ∷ negated z ∷ [])
three-not v x y z h = elim (bit_cases (is_true v x)) [
  | inl t ↦ Any-later (truth v) (negated x) (y ∷ negated z ∷ []) (elim (bit_cases (is_true v z)) [
    | inl u ↦ Any-here (truth v) y (negated z ∷ []) (h t u)
    | inr f ↦ Any-later (truth v) y (negated z ∷ []) (no-one v z f)
  ])
  | inr f ↦ Any-here (truth v) (negated x) (y ∷ negated z ∷ []) (negated-yes v x f)
]

abbrev pub None_true : List Bool → List Lit → Type 0
None_true v xs = All (λ x. is_true v x ≡ false) xs

-- the clauses of a variable that is true exactly where none of the literals is
module _ (v : List Bool) (fits : Lit) (xs : List Lit) where
  abbrev pairs : List (List Lit)
  pairs = map (λ x. negated fits ∷ negated x ∷ []) xs

  pub unless-decided : MakesAllTrue v (fits_unless fits xs) → Decides (is_true v fits) (None_true v xs)
  unless-decided all = (
    λ t. All-from_contains (λ x. is_true v x ≡ false) xs (λ x h.
        negated-no v x (of-two v fits (negated x) (All-contains (MakesTrue v) pairs (negated fits ∷ negated x ∷ []) (All-left (MakesTrue v) pairs ((fits ∷ xs) ∷ []) all) (Contains-map (λ x. negated fits ∷ negated x ∷ []) xs x h)) t)),
    λ none. elim (Any-cases (truth v) fits xs (All-head (MakesTrue v) (fits ∷ xs) [] (All-right (MakesTrue v) pairs ((fits ∷ xs) ∷ []) all))) [
      | inl t ↦ t
      | inr (k, x, l, e, t) ↦ true_false (is_true v x) t (All-contains (λ x. is_true v x ≡ false) xs x none (k, l, e))
    ],
  )

  pub unless-made : Decides (is_true v fits) (None_true v xs) → MakesAllTrue v (fits_unless fits xs)
  unless-made d =
      All-append (MakesTrue v) pairs ((fits ∷ xs) ∷ [])
      (All-map (MakesTrue v) (λ x. negated fits ∷ negated x ∷ []) xs (All-from_contains (λ x. MakesTrue v (negated fits ∷ negated x ∷ [])) xs (λ x h.
      two v fits (negated x) (λ t. negated-yes v x (All-contains (λ x. is_true v x ≡ false) xs x (d.0 t) h)))))
      (All-cons (MakesTrue v) (fits ∷ xs) [] (elim (true_or_false v xs) [
        | inl some ↦ Any-later (truth v) fits xs some
        | inr none ↦ Any-here (truth v) fits xs (d.1 (All-from_contains (λ x. is_true v x ≡ false) xs none))
      ]) (All-nil (MakesTrue v)))

module _ (t : Trace) (q : Pred) (rules : IsTrace t) (order : List ℕ) (v : List Bool) (own : List CodedCell) (tells : Tells t q v (after_numbers t.events (start_state t) order) own) where
  abbrev s : State
  s = after_numbers t.events (start_state t) order

  choice-low : (c : CodedCell) (j : ℕ) → Contains (choices t c.cell) j → j ≤ length (writers t.events c.cell)
  choice-low c j h = let low = range_within 0 (length (writers t.events c.cell) + 1) j h in omega (arith, low.1)

  choice-in : (c : CodedCell) (j : ℕ) → j ≤ length (writers t.events c.cell) → Contains (choices t c.cell) j
  choice-in c j l = range_contains 0 (length (writers t.events c.cell) + 1) j (omega arith) (omega arith)

  -- a choice whose variable is true gives what the cell holds
  pub chosen : (c : CodedCell) → Contains own c → (j : ℕ) → Contains (choices t c.cell) j → truth v (last_lit c.first j) → choice_value t c.cell j ≡ cell_value s c.cell
  chosen c h j l e = let told = tells.told c h in ap (choice_value t c.cell) ((told.one j (choice-low c j l)).0 e) ∙ told.holds

  module _ (asked : Asked) (file : ℕ) where
    abbrev unfit : CodedCell → ℕ → Bool
    unfit c j = not (suits asked c.cell (choice_value t c.cell j))

    abbrev read : CodedCell → Bool
    read c = reads asked file c.cell

    none-of : Suits t q s asked file → None_true v (misfits t own asked file)
    none-of all =
        All-flat_map (λ x. is_true v x ≡ false) (unsuited t asked) (filter read own) (λ c hc.
        let is = Contains-from_filter read own c hc in
        All-map (λ x. is_true v x ≡ false) (last_lit c.first) (filter (unfit c) (choices t c.cell))
        (All-from_contains (λ j. is_true v (last_lit c.first j) ≡ false) (filter (unfit c) (choices t c.cell)) (λ j hj.
        let kept = Contains-from_filter (unfit c) (choices t c.cell) j hj in
        not-true (is_true v (last_lit c.first j)) (λ e.
        let fine = ap (suits asked c.cell) (chosen c is.0 j kept.0 e) ∙ all c.cell (tells.from c is.0) is.1 in
        true_false (unfit c j) kept.1 (ap not fine)))))

    of-none : None_true v (misfits t own asked file) → Suits t q s asked file
    of-none none cell there e =
        let (first, h) = tells.has cell there in
        let c : CodedCell = record { cell = cell; first = first; writers = writers t.events cell } in
        let told = tells.told (record { cell = cell; first = first; writers = writers t.events cell }) h in
        elim (bit_cases (suits asked cell (choice_value t cell told.number))) [
          | inl good ↦ sym (ap (suits asked cell) told.holds) ∙ good
          | inr bad ↦
              let row = All-from_flat_map (λ x. is_true v x ≡ false) (unsuited t asked) (filter read own) (record { cell = cell; first = first; writers = writers t.events cell }) none (Contains-filter read own (record { cell = cell; first = first; writers = writers t.events cell }) h e) in
              let off = All-contains (λ x. is_true v x ≡ false) (unsuited t asked (record { cell = cell; first = first; writers = writers t.events cell })) (last_lit first told.number) row
              (Contains-map (last_lit first) (filter (unfit (record { cell = cell; first = first; writers = writers t.events cell })) (choices t cell)) told.number
              (Contains-filter (unfit (record { cell = cell; first = first; writers = writers t.events cell })) (choices t cell) told.number (choice-in (record { cell = cell; first = first; writers = writers t.events cell }) told.number told.within) (ap not bad))) in
              true_false (is_true v (last_lit first told.number)) ((told.one told.number told.within).1 refl) off
        ]

    pub none-decided : Decides (meets s asked file) (Suits t q s asked file) → Decides (meets s asked file) (None_true v (misfits t own asked file))
    none-decided d = (λ m. none-of (d.0 m), λ none. d.1 (of-none none))

  -- the key of what is asked, where it has a number, is one of the trace
  abbrev pub Keyed : Asked → Type 0
  Keyed (Attribute (Some key) value) = key < length t.keys
  Keyed (Attribute None value) = Unit {0}
  Keyed Presence = Unit {0}
  Keyed (ItsSize size) = Unit {0}
  Keyed (Content text) = Unit {0}
  Keyed (TextAt at text) = Unit {0}

  module _ (slot first file : ℕ) (there : file < file_count t) where
    abbrev fits : Lit
    fits = fits_lit t slot first file

    abbrev Has : Asked → Type 0
    Has asked = (part : Part) → Contains (parts_of asked) part → Contains (parts t q file) part

    decided : (asked : Asked) → Has asked → IsKnown t asked → Decides (meets s asked file) (None_true v (misfits t own asked file))
    decided asked has known = none-decided asked file (meets-decided t q rules order file there asked has known)

    known-fits : (asked : Asked) → Has asked → IsKnown t asked → MakesAllTrue v (fits_unless fits (misfits t own asked file)) → is_true v fits ≡ meets s asked file
    known-fits asked has known all =
        same_from_decides (is_true v fits) (meets s asked file) (unless-decided v fits (misfits t own asked file) all) (decided asked has known)

    known-made : (asked : Asked) → Has asked → IsKnown t asked → is_true v fits ≡ meets s asked file → MakesAllTrue v (fits_unless fits (misfits t own asked file))
    known-made asked has known e =
        let d = decided asked has known in
        unless-made v fits (misfits t own asked file) (λ y. d.0 (sym e ∙ y), λ none. e ∙ d.1 none)

    pub file-fits : (asked : Asked) → Keyed asked → Has asked → MakesAllTrue v (fits_clauses t own first asked slot file) → is_true v fits ≡ meets s asked file
    file-fits Presence keyed has all = known-fits Presence has tt all
    file-fits (ItsSize size) keyed has all = known-fits (ItsSize size) has tt all
    file-fits (Content text) keyed has all = known-fits (Content text) has tt all
    file-fits (TextAt at text) keyed has all = known-fits (TextAt at text) has tt all
    file-fits (Attribute (Some key) value) keyed has all = known-fits (Attribute (Some key) value) has keyed all
    file-fits (Attribute None value) keyed has all = one-no v fits (All-head (MakesTrue v) (negated fits ∷ []) [] all)

    pub fits-made : (asked : Asked) → Keyed asked → Has asked → is_true v fits ≡ meets s asked file → MakesAllTrue v (fits_clauses t own first asked slot file)
    fits-made Presence keyed has e = known-made Presence has tt e
    fits-made (ItsSize size) keyed has e = known-made (ItsSize size) has tt e
    fits-made (Content text) keyed has e = known-made (Content text) has tt e
    fits-made (TextAt at text) keyed has e = known-made (TextAt at text) has tt e
    fits-made (Attribute (Some key) value) keyed has e = known-made (Attribute (Some key) value) has keyed e
    fits-made (Attribute None value) keyed has e = All-cons (MakesTrue v) (negated fits ∷ []) [] (no-one v fits e) (All-nil (MakesTrue v))
