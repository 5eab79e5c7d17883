-- Every crash has values that name the last writer of each cell and make all clauses true.
use Rattle.std.proofs.Common.{◌≡◌, ◌≢◌, ◌↔◌, inl, inr, ℕ, suc, ◌+◌, ◌-◌, ◌<◌, ◌≤◌, Bool, true, false, eqb, List, [], ◌∷◌, ◌++◌, length, map, get_or, Option, Some, None, Contains, refl, sym, ◌∙◌, ap, arith}
use Rattle.std.specs.List.{All, flat_map, range_with_len}
use Rattle.std.proofs.Math.ListN.{get_or-append}
use Rattle.std.proofs.Math.Seq.{get_or-append_right}
use Rattle.std.proofs.lemmas.Bool.{cases_eq, eq-eqb, eqb-true}
use Rattle.std.proofs.lemmas.List.{length-append, get_or_default}
use Rattle.std.proofs.lemmas.List.Concat.{flat_map-cons}
use Rattle.std.proofs.lemmas.List.Elements.{All-append, All-nil}
use Rattle.std.proofs.lemmas.List.FromFn.{length-map-range_with_len, get_or-map-range_with_len}
use Rattle.clause_store.specs.Clauses.{InVars}
use Rattle.clause_store.specs.Truth.{is_true, MakesTrue, MakesAllTrue}
use Rattle.clause_store.proofs.GeneralLists.{Contains-cons_cases, Contains-nil}
use Rattle.fer_events.specs.declared.event.Event.{Event}
use Rattle.fer_events.specs.declared.event.Crash.{Crash}
use Rattle.fer_events.specs.Orders.{before_cut, IsCrash}
use Rattle.order_coding.specs.Variables.{IsNumber, order_vars, in_lit, before_lit}
use Rattle.order_coding.specs.Families.{order_clauses, order_formula}
use Rattle.order_coding.specs.Decoded.{Describes, HasValues}
use Rattle.order_coding.proofs.GeneralOrders.{place, place-head, place-tail, place-read}
use Rattle.order_coding.proofs.GeneralLiterals.{is_before-is}
use Rattle.value_coding.specs.declared.cell.Cell.{Cell}
use Rattle.value_coding.specs.Writers.{is_writer, writers}
use Rattle.value_coding.specs.LastWriter.{last_where, last_writer}
use Rattle.value_coding.specs.LastClauses.{last_lit, writer_at, last_clauses, each_last, last_vars, value_formula}
use Rattle.order_coding.proofs.GeneralClauses.{truth}
use Rattle.value_coding.proofs.Last.{last-none, last-contained, last-behind, stands-taken}
use Rattle.value_coding.proofs.LastMeaning.{LastMeant, last-made}
use Rattle.value_coding.proofs.LastIs.{writer-is, number-of, apart, before-number}

-- the number of a writer among the writers, counted from 1
abbrev pub number_in : List ℕ → Option ℕ → ℕ
number_in ws None = 0
number_in ws (Some w) = suc (place w ws)

place-within : (w : ℕ) (xs : List ℕ) → Contains xs w → place w xs < length xs
place-within w [] h = absurd (Contains-nil w h)
place-within w (x ∷ xs) h = elim (cases_eq x w) [
  | inl e ↦ omega (arith, place-head w x xs e)
  | inr ne ↦ elim (Contains-cons_cases x xs w h) [
    | inl e ↦ absurd (ne e)
    | inr later ↦ omega (arith, place-tail w x xs ne, place-within w xs later)
  ]
]

-- the clauses of one cell
module _
    (events : List Event) (crash : Crash) (v : List Bool) (d : Describes (length events) v crash) (cell : Cell) (first : ℕ)
    (within : (e : ℕ) → Contains (before_cut crash) e → IsNumber (length events) e) where
  abbrev p : ℕ → Bool
  p = is_writer events cell

  abbrev ws : List ℕ
  ws = writers events cell

  abbrev Reads : Option ℕ → Type 0
  Reads o = (j : ℕ) → j ≤ length ws → is_true v (last_lit first j) ≡ eqb j (number_in ws o)

  is-number : (o : Option ℕ) → Reads o → (j : ℕ) → j ≤ length ws → truth v (last_lit first j) → j ≡ number_in ws o
  is-number o reads j l t = eqb-true j (number_in ws o) (sym (reads j l) ∙ t)

  is-there : (k : ℕ) → IsNumber (length ws) k → truth v (in_lit (writer_at ws k)) → Contains (before_cut crash) (writer_at ws k) × (p (writer_at ws k) ≡ true)
  is-there k is t = let w = writer-is events cell k is in ((d.inside (writer_at ws k) w.0).0 t, w.1)

  none-made : last_where p (before_cut crash) ≡ None → Reads None → LastMeant v (length events) first ws
  none-made e reads = record {
    some = (0, omega arith, reads 0 (omega arith));
    inside = λ j is t. let zero_is = is-number None reads j is.1 t in absurd (omega (arith, is.0));
    before = λ j k ij ik ne t s. let zero_is = is-number None reads j ij.1 t in absurd (omega (arith, ij.0));
    none = λ k is t s. let there = is-there k is s in last-none p (before_cut crash) e (writer_at ws k) there.0 there.1;
  }

  some-made : (w : ℕ) → last_where p (before_cut crash) ≡ Some w → Reads (Some w) → LastMeant v (length events) first ws
  some-made w e reads =
      let found = last-contained p (before_cut crash) w e in
      let num = within w found.0 in
      let (k0, is0, at0) = number-of events cell w num found.1 in
      let there : Contains ws w = (k0 - 1, omega (arith, is0.0, is0.1), (get_or_default ws (k0 - 1) w 0 (omega (arith, is0.0, is0.1))) ∙ at0) in
      let short = place-within w ws there in
      let named : (j : ℕ) → j ≡ suc (place w ws) → writer_at ws j ≡ w =
      λ j is. (let back : j - 1 ≡ place w ws = omega arith in ap (λ (i : ℕ). get_or ws i 0) back ∙ place-read w ws 0 there) in
      record {
        some = (suc (place w ws), omega arith, reads (suc (place w ws)) (omega arith) ∙ eq-eqb (suc (place w ws)) (suc (place w ws)) refl);
        inside = λ j is t.
            let same = named j (is-number (Some w) reads j is.1 t) in
            ap (λ (x : ℕ). is_true v (in_lit x)) same ∙ (d.inside w num).1 found.0;
        before = λ j k ij ik ne t s.
            let same = named j (is-number (Some w) reads j ij.1 t) in
            let is = is-there k ik s in
            let ne_w : writer_at ws k ≢ w = λ both. ne (apart events cell k j ik ij (both ∙ sym same)) in
            let stands = stands-taken crash.order crash.cut (writer_at ws k) w (last-behind p (before_cut crash) w e (writer_at ws k) is.0 is.1 ne_w) in
            ap (λ (x : ℕ). is_true v (before_lit (length events) (writer_at ws k) x)) same
            ∙ sym (is_before-is (length events) v (writer_at ws k) w ne_w)
            ∙ (d.before (writer_at ws k) w (writer-is events cell k ik).0 num).1 stands;
        none = λ k is t s. let zero_is = is-number (Some w) reads 0 (omega arith) t in absurd (omega arith);
      }

  cell-meant : (o : Option ℕ) → last_where p (before_cut crash) ≡ o → Reads o → LastMeant v (length events) first ws
  cell-meant None e reads = none-made e reads
  cell-meant (Some w) e reads = some-made w e reads

  pub cell-made : Reads (last_writer events cell (before_cut crash)) → MakesAllTrue v (last_clauses (length events) first ws)
  cell-made reads = last-made v (length events) first ws (cell-meant (last_where p (before_cut crash)) refl reads)

-- the values of the cells, one row after another
abbrev row : List Event → Crash → Cell → List Bool
row events crash cell =
    map (λ j. eqb j (number_in (writers events cell) (last_writer events cell (before_cut crash)))) (range_with_len 0 (length (writers events cell) + 1))

module _ (events : List Event) (crash : Crash) where
  length-row : (cell : Cell) → length (row events crash cell) ≡ length (writers events cell) + 1
  length-row cell = length-map-range_with_len (λ j. eqb j (number_in (writers events cell) (last_writer events cell (before_cut crash)))) 0 (length (writers events cell) + 1)

  length-rows : (cells : List Cell) → length (flat_map (row events crash) cells) ≡ last_vars (map (writers events) cells)
  length-rows [] = refl
  length-rows (cell ∷ cells) =
      omega (
        arith,
        ap length (flat_map-cons (row events crash) cell cells),
        length-append (row events crash cell) (flat_map (row events crash) cells),
        length-row cell,
        length-rows cells,
      )

  row-read : (cell : Cell) (j : ℕ) → j ≤ length (writers events cell) → get_or (row events crash cell) j false ≡ eqb j (number_in (writers events cell) (last_writer events cell (before_cut crash)))
  row-read cell j l =
      get_or-map-range_with_len (λ j. eqb j (number_in (writers events cell) (last_writer events cell (before_cut crash)))) 0 (length (writers events cell) + 1) j j false (omega arith) (omega arith)

  module _ (v : List Bool) (d : Describes (length events) v crash) (within : (e : ℕ) → Contains (before_cut crash) e → IsNumber (length events) e) where
    each-made :
        (cells : List Cell) (first : ℕ) → 1 ≤ first
        → ((i : ℕ) → i < length (flat_map (row events crash) cells) → get_or v (first + i - 1) false ≡ get_or (flat_map (row events crash) cells) i false)
        → MakesAllTrue v (each_last (length events) first (map (writers events) cells))
    each-made [] first some reads = All-nil (MakesTrue v)
    each-made (cell ∷ cells) first some reads =
        let split = flat_map-cons (row events crash) cell cells in
        let long = length-append (row events crash cell) (flat_map (row events crash) cells) in
        let count = length-row cell in
        let total = ap length split in
        All-append (MakesTrue v) (last_clauses (length events) first (writers events cell)) (each_last (length events) (first + (length (writers events cell) + 1)) (map (writers events) cells))
        (cell-made events crash v d cell first within (λ j l.
        reads j (omega arith)
        ∙ ap (λ (xs : List Bool). get_or xs j false) split
        ∙ get_or-append (row events crash cell) (flat_map (row events crash) cells) false j (omega arith)
        ∙ row-read cell j l))
        (each-made cells (first + (length (writers events cell) + 1)) (omega arith) (λ i l.
        let e : first + (length (writers events cell) + 1) + i - 1 ≡ first + (length (writers events cell) + 1 + i) - 1 = omega arith in
        let f : length (writers events cell) + 1 + i - length (row events crash cell) ≡ i = omega arith in
        ap (λ (k : ℕ). get_or v k false) e
        ∙ reads (length (writers events cell) + 1 + i) (omega arith)
        ∙ ap (λ (xs : List Bool). get_or xs (length (writers events cell) + 1 + i) false) split
        ∙ get_or-append_right (row events crash cell) (flat_map (row events crash) cells) (length (writers events cell) + 1 + i) false (omega arith)
        ∙ ap (λ (k : ℕ). get_or (flat_map (row events crash) cells) k false) f))

pub value-values :
    (events : List Event) (kept : List (ℕ × ℕ)) (cells : List Cell) (crash : Crash) → IsCrash events kept crash
    → HasValues (length events) crash (order_formula events kept)
    → ((v more : List Bool) → order_vars (length events) ≤ length v → Describes (length events) v crash → Describes (length events) (v ++ more) crash)
    → ((v more : List Bool) → All (All (InVars (length v))) (order_clauses events kept) → MakesAllTrue (v ++ more) (order_clauses events kept) ↔ MakesAllTrue v (order_clauses events kept))
    → All (All (InVars (order_vars (length events)))) (order_clauses events kept)
    → HasValues (length events) crash (value_formula events kept cells)
value-values events kept cells crash c (v, long, d, all) describes longer named =
    let rows = length-rows events crash cells in
    let size : length (v ++ flat_map (row events crash) cells) ≡ order_vars (length events) + last_vars (map (writers events) cells) =
    omega (arith, length-append v (flat_map (row events crash) cells)) in
    let tells = describes v (flat_map (row events crash) cells) (omega arith) d in
    let within : (e : ℕ) → Contains (before_cut crash) e → IsNumber (length events) e =
    λ e h. before-number (length events) e crash c.valid.permutes h in
    let over : All (All (InVars (length v))) (order_clauses events kept) = rw long named in (
      v ++ flat_map (row events crash) cells,
      size,
      tells,
      All-append (MakesTrue (v ++ flat_map (row events crash) cells)) (order_clauses events kept) (each_last (length events) (order_vars (length events) + 1) (map (writers events) cells))
          ((longer v (flat_map (row events crash) cells) over).1 all)
          (each-made events crash (v ++ flat_map (row events crash) cells) tells within cells (order_vars (length events) + 1) (omega arith) (λ i l.
          let at : order_vars (length events) + 1 + i - 1 - length v ≡ i = omega arith in
          get_or-append_right v (flat_map (row events crash) cells) (order_vars (length events) + 1 + i - 1) false (omega arith)
          ∙ ap (λ (k : ℕ). get_or (flat_map (row events crash) cells) k false) at)),
    )
