-- A file has what is asked of it exactly where each cell that is read of it suits.
use Rattle.std.proofs.Common.{◌≡◌, ℕ, ◌+◌, ◌-◌, ◌<◌, ◌≤◌, true, false, eqb, leb, List, [], ◌∷◌, length, take, drop, Some, None, slice_get, unwrap_or, Contains, refl, sym, ◌∙◌, ap, subst, arith}
use Rattle.std.specs.Bool.{Decides}
use Rattle.std.specs.Option.{option_map_or}
use Rattle.std.proofs.lemmas.Bool.{eqb-true, eq-eqb, leb-true, le-leb}
use Rattle.std.proofs.lemmas.Slice.Eq.{bytes_eq-Decides}
use Rattle.litmus_syntax.specs.declared.pred.Pred.{Pred}
use Rattle.clause_store.proofs.GeneralLists.{Contains-head_is, Contains-tail}
use Rattle.fer_events.specs.States.{State, after_numbers, start_state}
use Rattle.fer_events.specs.Tables.{Trace, IsTrace, file_count}
use Rattle.fer_events.specs.Truth.{size_of, has_value}
use Rattle.value_coding.specs.declared.cell.Cell.{Cell}
use Rattle.value_coding.specs.declared.cell.Cell.TheVariants.{SlotOf, SizeOf, AttrOf, Segment}
use Rattle.value_coding.specs.Cells.{cell_value, attr_of, bytes_of}
use Rattle.value_coding.specs.declared.reading.Part.{Part}
use Rattle.value_coding.specs.declared.reading.Part.TheVariants.{Name, Size, Key, Places}
use Rattle.value_coding.specs.Readings.{key_part, parts}
use Rattle.value_coding.specs.Segments.{segments}
use Rattle.value_coding.specs.QuestionCells.{cells}
use Rattle.value_coding.proofs.GeneralCells.{size-cell, attr-cell, segment-cell}
use Rattle.value_coding.proofs.GeneralRanges.{parts-of-range, range-of-parts}
use Rattle.value_coding.proofs.GeneralRooms.{bytes-whole, size-fits}
use Rattle.predicate_coding.specs.declared.asked.Asked.{Asked}
use Rattle.predicate_coding.specs.declared.asked.Asked.TheVariants.{Presence, ItsSize, Content, TextAt, Attribute}
use Rattle.predicate_coding.specs.Asking.{meets, is_within, reads_file, reads, size_suits, is_part, bytes_suit, suits}
use Rattle.predicate_coding.proofs.Logic.{and-first, and-second, and-both, and-never}
use Rattle.predicate_coding.proofs.Texts.{text-decided, content-decided}
use Rattle.predicate_coding.proofs.CellsIn.{segment-in}

-- what an atom reads that asks this
abbrev pub parts_of : Asked → List Part
parts_of Presence = Name ∷ []
parts_of (ItsSize size) = Name ∷ Size ∷ []
parts_of (Content text) = Name ∷ Size ∷ Places 0 (length text) ∷ []
parts_of (TextAt at text) = Name ∷ Size ∷ Places at (length text) ∷ []
parts_of (Attribute key value) = Name ∷ key_part key

-- the key has a number
abbrev pub IsKnown : Trace → Asked → Type 0
IsKnown t (Attribute None value) = ⊥
IsKnown t (Attribute (Some key) value) = key < length t.keys
IsKnown t Presence = Unit {0}
IsKnown t (ItsSize size) = Unit {0}
IsKnown t (Content text) = Unit {0}
IsKnown t (TextAt at text) = Unit {0}

-- each cell that is read of the file suits
abbrev pub Suits : Trace → Pred → State → Asked → ℕ → Type 0
Suits t q s asked file = (cell : Cell) → Contains (cells t q) cell → reads asked file cell ≡ true → suits asked cell (cell_value s cell) ≡ true

module _ (t : Trace) (q : Pred) (rules : IsTrace t) (order : List ℕ) (file : ℕ) (there : file < file_count t) where
  abbrev s : State
  s = after_numbers t.events (start_state t) order

  abbrev row : List ℕ
  row = unwrap_or (slice_get s.bytes file) []

  row-long : length row ≡ 65536
  row-long = bytes-whole t file order rules there

  size-low : size_of s file ≤ 65536
  size-low = size-fits t file order rules there

  -- a text at a place, by the size and the segments of its places
  module _ (asked : Asked) (start : ℕ) (text : List ℕ)
      (reads-is : (file at len : ℕ) → reads_file asked (Segment file at len) ≡ is_within start text at len)
      (suits-is : (at len : ℕ) (bytes : List ℕ) → bytes_suit asked at len bytes ≡ is_part start text at len bytes)
      (reads-size : reads_file asked (SizeOf file) ≡ true)
      (no-key : (file key : ℕ) → reads_file asked (AttrOf file key) ≡ false)
      (has-size : Contains (parts t q file) Size)
      (has-places : Contains (parts t q file) (Places start (length text)))
      (room : size_suits asked (size_of s file) ≡ true → start + length text ≤ size_of s file) where
    suits-of : size_suits asked (size_of s file) ≡ true → take (length text) (drop start row) ≡ text → Suits t q s asked file
    suits-of fits has (SlotOf slot) in_cells e = and-never false e
    suits-of fits has (SizeOf own) in_cells e =
        let same = eqb-true own file (and-first (eqb own file) (reads_file asked (SizeOf own)) e) in
        ap (λ (f : ℕ). size_suits asked (size_of s f)) same ∙ fits
    suits-of fits has (AttrOf own key) in_cells e = let both = and-second (eqb own file) (reads_file asked (AttrOf own key)) e in absurd (let bad : false ≡ true = sym (no-key own key) ∙ both in cc)
    suits-of fits has (Segment own at len) in_cells e =
        let same = eqb-true own file (and-first (eqb own file) (reads_file asked (Segment own at len)) e) in
        let within = sym (reads-is own at len) ∙ and-second (eqb own file) (reads_file asked (Segment own at len)) e in
        let low = leb-true start at (and-first (leb start at) _ within) in
        let high = leb-true (at + len) (start + length text) (and-second (leb start at) _ within) in
        let mine = subst (λ (f : ℕ). Contains (segments t q f) (at, len)) same (segment-in t q own at len in_cells) in
        let part = parts-of-range t q file start text row has-places has (at, len) mine low high in
        suits-is at len (bytes_of s own at len)
        ∙ (bytes_eq-Decides (bytes_of s own at len) (take len (drop (at - start) text))).1 (ap (λ (f : ℕ). bytes_of s f at len) same ∙ part)

    of-suits : Suits t q s asked file → (size_suits asked (size_of s file) ≡ true) × (take (length text) (drop start row) ≡ text)
    of-suits all =
        let size = all (SizeOf file) (size-cell t q file there has-size) (and-both (eqb file file) (reads_file asked (SizeOf file)) (eq-eqb file file refl) reads-size) in
        let long = room size in (
          size,
          range-of-parts t q file start text row has-places (omega (arith, size-low)) (omega (arith, size-low, row-long)) (λ run mine low high.
              let yes = all (Segment file run.0 run.1) (segment-cell t q file run there mine)
              (and-both (eqb file file) (reads_file asked (Segment file run.0 run.1)) (eq-eqb file file refl)
              (reads-is file run.0 run.1 ∙ and-both (leb start run.0) (leb (run.0 + run.1) (start + length text)) (le-leb start run.0 low) (le-leb (run.0 + run.1) (start + length text) high))) in
              (bytes_eq-Decides (bytes_of s file run.0 run.1) (take run.1 (drop (run.0 - start) text))).0 (sym (suits-is run.0 run.1 (bytes_of s file run.0 run.1)) ∙ yes)),
        )

  abbrev Has : Asked → Type 0
  Has asked = (part : Part) → Contains (parts_of asked) part → Contains (parts t q file) part

  second : (a b : Part) (more : List Part) → Contains (a ∷ b ∷ more) b
  second a b more = Contains-tail a (b ∷ more) b (Contains-head_is b more b refl)

  third : (a b c : Part) → Contains (a ∷ b ∷ c ∷ []) c
  third a b c = Contains-tail a (b ∷ c ∷ []) c (second b c [])

  none-read : {A : Type 0} (cell : Cell) → reads Presence file cell ≡ true → A
  none-read (SlotOf slot) e = and-never false e
  none-read (SizeOf own) e = and-never (eqb own file) e
  none-read (AttrOf own key) e = and-never (eqb own file) e
  none-read (Segment own at len) e = and-never (eqb own file) e

  size-suits : (size : ℕ) → eqb (size_of s file) size ≡ true → Suits t q s (ItsSize size) file
  size-suits size m (SlotOf slot) in_cells e = and-never false e
  size-suits size m (SizeOf own) in_cells e = ap (λ (f : ℕ). eqb (size_of s f) size) (eqb-true own file (and-first (eqb own file) true e)) ∙ m
  size-suits size m (AttrOf own key) in_cells e = and-never (eqb own file) e
  size-suits size m (Segment own at len) in_cells e = and-never (eqb own file) e

  attr-suits : (key value : ℕ) → has_value s (Some key) value file ≡ true → Suits t q s (Attribute (Some key) value) file
  attr-suits key value m (SlotOf slot) in_cells e = and-never false e
  attr-suits key value m (SizeOf own) in_cells e = and-never (eqb own file) e
  attr-suits key value m (AttrOf own number) in_cells e =
      let same = eqb-true own file (and-first (eqb own file) (eqb number key) e) in
      let key_same = eqb-true number key (and-second (eqb own file) (eqb number key) e) in
      ap (λ (f : ℕ). option_map_or (λ v. eqb v value) (attr_of s f number) false) same
      ∙ ap (λ (k : ℕ). option_map_or (λ v. eqb v value) (attr_of s file k) false) key_same ∙ m
  attr-suits key value m (Segment own at len) in_cells e = and-never (eqb own file) e

  pub meets-decided : (asked : Asked) → Has asked → IsKnown t asked → Decides (meets s asked file) (Suits t q s asked file)
  meets-decided (Content text) has known =
      let has-size = has Size (second Name Size (Places 0 (length text) ∷ [])) in
      let has-places = has (Places 0 (length text)) (third Name Size (Places 0 (length text))) in
      let room : size_suits (Content text) (size_of s file) ≡ true → 0 + length text ≤ size_of s file = λ e. omega (arith, eqb-true (size_of s file) (length text) e) in
      let decided = content-decided row (size_of s file) (omega (arith, size-low, row-long)) text in (
        λ m. let h = decided.0 m in
            suits-of (Content text) 0 text (λ f a l. refl) (λ a l b. refl) refl (λ f k. refl) has-size has-places room (eq-eqb (size_of s file) (length text) h.0) h.1,
        λ all. let h = of-suits (Content text) 0 text (λ f a l. refl) (λ a l b. refl) refl (λ f k. refl) has-size has-places room all in
            decided.1 (eqb-true (size_of s file) (length text) h.0, h.1),
      )
  meets-decided (TextAt start text) has known =
      let has-size = has Size (second Name Size (Places start (length text) ∷ [])) in
      let has-places = has (Places start (length text)) (third Name Size (Places start (length text))) in
      let room : size_suits (TextAt start text) (size_of s file) ≡ true → start + length text ≤ size_of s file = λ e. leb-true (start + length text) (size_of s file) e in
      let decided = text-decided row (size_of s file) (omega (arith, size-low, row-long)) start text in (
        λ m. let h = decided.0 m in
            suits-of (TextAt start text) start text (λ f a l. refl) (λ a l b. refl) refl (λ f k. refl) has-size has-places room (le-leb (start + length text) (size_of s file) h.0) h.1,
        λ all. let h = of-suits (TextAt start text) start text (λ f a l. refl) (λ a l b. refl) refl (λ f k. refl) has-size has-places room all in
            decided.1 (leb-true (start + length text) (size_of s file) h.0, h.1),
      )
  meets-decided Presence has known = (λ m cell in_cells e. none-read cell e, λ all. refl)
  meets-decided (ItsSize size) has known = (
    λ m cell in_cells e. size-suits size m cell in_cells e,
    λ all. all (SizeOf file) (size-cell t q file there (has Size (second Name Size []))) (and-both (eqb file file) true (eq-eqb file file refl) refl),
  )
  meets-decided (Attribute (Some key) value) has known = (
    λ m cell in_cells e. attr-suits key value m cell in_cells e,
    λ all. all (AttrOf file key) (attr-cell t q file key there known (has (Key key) (second Name (Key key) [])))
        (and-both (eqb file file) (eqb key key) (eq-eqb file file refl) (eq-eqb key key refl)),
  )
  meets-decided (Attribute None value) has known = absurd known
