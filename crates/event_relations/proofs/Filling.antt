-- Rows that are filled event by event.
use Rattle.std.proofs.Common.{◌≡◌, ℕ, suc, ◌+◌, ◌*◌, ◌%◌, ◌^◌, ◌<◌, ◌≤◌, ◌↔◌, inl, inr, true, List, [], ◌∷◌, ◌++◌, length, get_or, Some, slice_get, refl, sym, ◌∙◌, ap, arith, bit_or, subst}
use Rattle.std.specs.Int.{bit_at, w128}
use mir.Val.{bits}
use Rattle.std.proofs.lemmas.Bool.{cases_eq, eq-eqb, eqb-true}
use Rattle.std.proofs.lemmas.Nat.Bits.{bit_at-zero, bit_at_set_same, bit_at_set_other}
use Rattle.std.proofs.lemmas.Option.{slice_get_within, slice_get_cases}
use Rattle.std.proofs.lemmas.List.{length_push, get_or_push, get_or_append_left}
use Rattle.event_relations.proofs.Joining.{has_within}
use Rattle.fer_events.specs.declared.event.Event.{Event}
use Rattle.model_reader.specs.declared.expr.Expr.{Expr}
use Rattle.event_relations.specs.Rows.{has}
use Rattle.event_relations.specs.Words.{Relates}
use Rattle.event_relations.specs.Showing.{RelatesPlaces}
use Rattle.event_relations.specs.Lexicons.{ShowsWord}

abbrev pub InRow : List Event → ℕ → Event → Expr → ℕ → Type 0
InRow events a e x b = (f : Event) × (slice_get events b ≡ Some f) × Relates (suc a) (suc b) e f x

-- the row has the events below k that the word relates e to
abbrev pub RowBelow : List Event → ℕ → Event → Expr → ℕ → ℕ → Type 0
RowBelow events a e x row k = (b : ℕ) → (bit_at row b ≡ 1) ↔ ((b < k) × InRow events a e x b)

pub row_start : (events : List Event) (a : ℕ) (e : Event) (x : Expr) → RowBelow events a e x 0 0
row_start events a e x b = (λ h. absurd (omega (arith, h, bit_at-zero b)), λ h. absurd (omega (arith, h.0)))

pub same_value : (f g : Event) → Some f ≡ Some g → f ≡ g
same_value f g e = cc

pub row_taken :
    (events : List Event) (a : ℕ) (e f : Event) (x : Expr) (row k : ℕ) → RowBelow events a e x row k → k < 128 → slice_get events k ≡ Some f
    → Relates (suc a) (suc k) e f x → RowBelow events a e x (bit_or row (1 * 2 ^ k % 2 ^ bits w128)) (k + 1)
row_taken events a e f x row k is few there r b = elim (cases_eq b k) [
  | inl same ↦ (
    λ h. (omega arith, (f, ap (slice_get events) same ∙ there, subst (λ (c : ℕ). Relates (suc a) (suc c) e f x) (sym same) r)),
    λ h. ap (bit_at (bit_or row (1 * 2 ^ k % 2 ^ bits w128))) same ∙ bit_at_set_same w128 row k few,
  )
  | inr apart ↦ (
    λ h. let old = (is b).0 (sym (bit_at_set_other w128 row k few b apart) ∙ h) in (omega (arith, old.0), old.1),
    λ h. bit_at_set_other w128 row k few b apart ∙ (is b).1 (omega (arith, h.0), h.1),
  )
]

pub row_skipped :
    (events : List Event) (a : ℕ) (e f : Event) (x : Expr) (row k : ℕ) → RowBelow events a e x row k → slice_get events k ≡ Some f
    → (Relates (suc a) (suc k) e f x → ⊥) → RowBelow events a e x row (k + 1)
row_skipped events a e f x row k is there none b = (
  λ h. let old = (is b).0 h in (omega (arith, old.0), old.1),
  λ h. elim (cases_eq b k) [
    | inl same ↦
        let g : Some h.1.0 ≡ Some f = sym h.1.1 ∙ ap (slice_get events) same ∙ there in
        absurd (none (subst (λ (c : ℕ). Relates (suc a) (suc c) e f x) same (subst (λ (u : Event). Relates (suc a) (suc b) e u x) (same_value h.1.0 f g) h.1.2)))
    | inr apart ↦ (is b).1 (omega (arith, h.0), h.1)
  ],
)

pub row_end :
    (events : List Event) (a : ℕ) (e : Event) (x : Expr) (row k : ℕ) → RowBelow events a e x row k → length events ≤ k
    → (b : ℕ) → (bit_at row b ≡ 1) ↔ InRow events a e x b
row_end events a e x row k is far b = (
  λ h. ((is b).0 h).1,
  λ h. (is b).1 (omega (arith, far, slice_get_within events b h.0 h.1), h),
)

-- there are rows for the events below k
pub record RowsBelow (events : List Event) (x : Expr) (rows : List ℕ) (k : ℕ) : Type 0 where
  pub length : length rows ≡ k
  pub shown : (a : ℕ) (e : Event) → a < k → slice_get events a ≡ Some e → (b : ℕ) → (bit_at (get_or rows a 0) b ≡ 1) ↔ InRow events a e x b

pub rows_start : (events : List Event) (x : Expr) → RowsBelow events x [] 0
rows_start events x = record { length = refl; shown = λ a e l is b. absurd (omega (arith, l)) }

pub rows_more :
    (events : List Event) (x : Expr) (rows : List ℕ) (k row : ℕ) (e : Event) → RowsBelow events x rows k → slice_get events k ≡ Some e
    → ((b : ℕ) → (bit_at row b ≡ 1) ↔ InRow events k e x b) → RowsBelow events x (rows ++ row ∷ []) (k + 1)
rows_more events x rows k row e is there new = record {
  length = length_push rows row ∙ ap (λ (n : ℕ). n + 1) is.length;
  shown = λ a f l at b. elim (cases_eq a k) [
    | inl same ↦
        let here : Some f ≡ Some e = sym at ∙ ap (slice_get events) same ∙ there in
        let value : get_or (rows ++ row ∷ []) a 0 ≡ row = get_or_push rows row 0 a (is.length ∙ sym same) in
        subst (λ (v : ℕ). (bit_at v b ≡ 1) ↔ InRow events a f x b) (sym value)
        (subst (λ (u : Event). (bit_at row b ≡ 1) ↔ InRow events a u x b) (sym (same_value f e here))
        (subst (λ (c : ℕ). (bit_at row b ≡ 1) ↔ InRow events c e x b) (sym same) (new b)))
    | inr apart ↦
        let below : a < k = omega (arith, l) in
        subst (λ (v : ℕ). (bit_at v b ≡ 1) ↔ InRow events a f x b) (sym (get_or_append_left rows (row ∷ []) 0 a (omega (arith, below, is.length)))) (is.shown a f below at b)
  ];
}

rows_end :
    (events : List Event) (x : Expr) (rows : List ℕ) (k : ℕ) → RowsBelow events x rows k → k ≡ length events
    → (a b : ℕ) → (has rows a b ≡ true) ↔ RelatesPlaces events x a b
rows_end events x rows k is all a b = (
  λ h.
      let below : a < k = omega (arith, is.length, has_within rows a b h) in
      elim (slice_get_cases events a).1 [
        | inl e ↦ let r = (is.shown a e.0 below e.2 b).0 (eqb-true _ _ h) in (e.0, r.0, e.2, r.1, r.2)
        | inr past ↦ absurd (omega (arith, past.0, below, all))
      ],
  λ h. eq-eqb _ _ ((is.shown a h.0 (omega (arith, all, slice_get_within events a h.0 h.2)) h.2 b).1 (h.1, h.3, h.4)),
)

pub rows_shown : (events : List Event) (x : Expr) (rows : List ℕ) (k : ℕ) → RowsBelow events x rows k → k ≡ length events → ShowsWord events x rows
rows_shown events x rows k is all = record { long = is.length ∙ all; bits = rows_end events x rows k is all }
