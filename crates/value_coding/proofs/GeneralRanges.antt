-- General: a range that a question reads has a text exactly where each segment in it has its part of the text.
use Rattle.std.proofs.Common.{◌≡◌, inl, inr, ℕ, ◌+◌, ◌-◌, ◌<◌, ◌≤◌, List, length, take, drop, get_or, Contains, refl, sym, ◌∙◌, ap, arith, get_or-drop, get_or-take}
use Rattle.std.proofs.lemmas.List.{take-take, drop-take, drop-drop, take_at}
use Rattle.std.proofs.lemmas.List.Prefix.{at_from_reads}
use Rattle.litmus_syntax.specs.declared.pred.Pred.{Pred}
use Rattle.fer_events.specs.Tables.{Trace}
use Rattle.value_coding.specs.Runs.{AllOrNone}
use Rattle.value_coding.specs.declared.reading.Part.TheVariants.{Places}
use Rattle.value_coding.specs.Readings.{parts}
use Rattle.value_coding.specs.Segments.{segments}
use Rattle.value_coding.proofs.GeneralSegments.{segment-of, segment-read, place-read, places-are}

-- a part of a part
part-of-part :
    (row : List ℕ) (at len from count : ℕ) → at ≤ from → from + count ≤ at + len
    → take count (drop (from - at) (take len (drop at row))) ≡ take count (drop from row)
part-of-part row at len from count low high =
    let e : len ≡ from - at + (len - (from - at)) = omega arith in
    let f : at + (from - at) ≡ from = omega arith in
    ap (λ (k : ℕ). take count (drop (from - at) (take k (drop at row)))) e
    ∙ ap (take count) (drop-take (from - at) (len - (from - at)) (drop at row))
    ∙ take-take count (len - (from - at)) (drop (from - at) (drop at row)) (omega arith)
    ∙ ap (take count) (drop-drop (from - at) at row ∙ ap (λ (k : ℕ). drop k row) f)

read-part : (row : List ℕ) (from count place : ℕ) → from ≤ place → place < from + count → get_or (take count (drop from row)) (place - from) 0 ≡ get_or row place 0
read-part row from count place low high =
    let e : from + (place - from) ≡ place = omega arith in
    get_or-take count (drop from row) (place - from) 0 (omega arith)
    ∙ get_or-drop from row (place - from) 0
    ∙ ap (λ (k : ℕ). get_or row k 0) e

inside-range : (at len start end place : ℕ) → AllOrNone at len start end → at ≤ place → place < at + len → start ≤ place → place < end → (start ≤ at) × (at + len ≤ end)
inside-range at len start end place (inl all) a b c d = all
inside-range at len start end place (inr (inl low)) a b c d = absurd (omega arith)
inside-range at len start end place (inr (inr high)) a b c d = absurd (omega arith)

module _ (t : Trace) (pred : Pred) (file at : ℕ) (text row : List ℕ) (reads : Contains (parts t pred file) (Places at (length text))) where
  -- each segment in the range has its part of the text
  abbrev HasParts : Type 0
  HasParts =
      (run : ℕ × ℕ) → Contains (segments t pred file) run → at ≤ run.0 → run.0 + run.1 ≤ at + length text
      → take run.1 (drop run.0 row) ≡ take run.1 (drop (run.0 - at) text)

  pub parts-of-range : take (length text) (drop at row) ≡ text → HasParts
  parts-of-range e = λ run h low high.
      sym (part-of-part row at (length text) run.0 run.1 low high) ∙ ap (λ (xs : List ℕ). take run.1 (drop (run.0 - at) xs)) e

  pub range-of-parts : at + length text ≤ 65536 → at + length text ≤ length row → HasParts → take (length text) (drop at row) ≡ text
  range-of-parts room fits has =
      ap (take (length text)) (at_from_reads 0 row text at fits (λ i l.
      let place : ℕ = at + i in
      let (run, there, low, high) = segment-of t pred file (at + i) (omega (arith, places-are)) (place-read t pred file at (length text) (at + i) reads (omega arith) (omega arith)) in
      let within = inside-range run.0 run.1 at (at + length text) (at + i) (segment-read t pred file run at (length text) there reads (omega arith)) low high (omega arith) (omega arith) in
      let e : run.0 - at + (at + i - run.0) ≡ i = omega (arith, within.0) in
      sym (read-part row run.0 run.1 (at + i) low high)
      ∙ ap (λ (xs : List ℕ). get_or xs (at + i - run.0) 0) (has run there within.0 within.1)
      ∙ get_or-take run.1 (drop (run.0 - at) text) (at + i - run.0) 0 (omega (arith, low, high))
      ∙ get_or-drop (run.0 - at) text (at + i - run.0) 0
      ∙ ap (λ (k : ℕ). get_or text k 0) e))
      ∙ take_at text (drop (at + length text) row) (length text) refl
