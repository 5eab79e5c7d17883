-- Loops that change rows one after another.
use Rattle.std.proofs.Common.{◌≡◌, ℕ, ◌+◌, ◌<◌, ◌≤◌, ◌↔◌, inl, inr, Bool, true, false, ◌&&◌, ◌||◌, eqb, ltb, List, length, set, get_or, refl, sym, ◌∙◌, ap, arith, bit_or, bit_and, subst}
use Rattle.std.specs.Int.{bit_at}
use Rattle.std.proofs.lemmas.Bool.{cases_Bool, cases_eq, eq-eqb, eqb-true}
use Rattle.std.proofs.lemmas.Bool.Decides.{nat_tests}
use Rattle.std.proofs.lemmas.List.{get_or-set_other, get_or-set_same}
use Rattle.std.proofs.lemmas.Nat.Bits.{bit_at-zero, bit_at_and, bit_at-lt}
use Rattle.event_relations.specs.Rows.{has}
use Rattle.event_relations.proofs.Joining.{past, or_row}

-- the rows before `a` are as they have to be, beside their number and what they were; the others are as they were
pub record AreChanged (Row : ℕ → ℕ → ℕ → Type 0) (init rows : List ℕ) (a : ℕ) : Type 0 where
  pub rest : (c : ℕ) → a ≤ c → get_or rows c 0 ≡ get_or init c 0
  pub done : (c : ℕ) → c < a → Row c (get_or init c 0) (get_or rows c 0)

pub changed_start : (Row : ℕ → ℕ → ℕ → Type 0) (init : List ℕ) → AreChanged Row init init 0
changed_start Row init = record { rest = λ c l. refl; done = λ c l. absurd (omega (arith, l)) }

pub changed_more :
    (Row : ℕ → ℕ → ℕ → Type 0) (init rows : List ℕ) (a v : ℕ) → AreChanged Row init rows a → a < length rows → Row a (get_or rows a 0) v
    → AreChanged Row init (set rows a v) (a + 1)
changed_more Row init rows a v is there new =
    let row : get_or rows a 0 ≡ get_or init a 0 = is.rest a (omega arith) in
    record {
      rest = λ c l. get_or-set_other rows a c v 0 (omega (arith, l)) ∙ is.rest c (omega (arith, l));
      done = λ c l. elim (cases_eq c a) [
        | inl same ↦
            let here : Row a (get_or init a 0) (get_or (set rows a v) a 0) =
            subst (λ (w : ℕ). Row a (get_or init a 0) w) (sym (get_or-set_same rows a v 0 there)) (subst (λ (u : ℕ). Row a u v) row new) in
            subst (λ (d : ℕ). Row d (get_or init d 0) (get_or (set rows a v) d 0)) (sym same) here
        | inr apart ↦ subst (λ (w : ℕ). Row c (get_or init c 0) w) (sym (get_or-set_other rows a c v 0 apart)) (is.done c (omega (arith, l)))
      ];
    }

pub changed_end :
    (Row : ℕ → ℕ → ℕ → Type 0) (init rows : List ℕ) (a : ℕ) → AreChanged Row init rows a → length rows ≡ length init → length init ≤ a
    → ((c : ℕ) → length init ≤ c → Row c 0 0) → (c : ℕ) → Row c (get_or init c 0) (get_or rows c 0)
changed_end Row init rows a is same all out c = elim (cases_Bool (ltb c a)) [
  | inl e ↦ is.done c (grind (arith, nat_tests))
  | inr e ↦
      let far : a ≤ c = grind (arith, nat_tests) in
      subst (λ (w : ℕ). Row c (get_or init c 0) w) (sym (past rows c (omega arith))) (subst (λ (u : ℕ). Row c u 0) (sym (past init c (omega arith))) (out c (omega arith)))
]

pub no_bit : (b : ℕ) → eqb (bit_at 0 b) 1 ≡ false
no_bit b = ap (λ (r : ℕ). eqb r 1) (bit_at-zero b)

-- union
abbrev pub UnitedRow : List ℕ → ℕ → ℕ → ℕ → Type 0
UnitedRow right c old new = new ≡ bit_or old (get_or right c 0)

pub united_out : (right : List ℕ) (c : ℕ) → length right ≤ c → UnitedRow right c 0 0
united_out right c far = sym (past right c far)

-- rows of united words have the pairs of both
pub united_bits :
    (left right new : List ℕ) → ((a : ℕ) → get_or new a 0 ≡ bit_or (get_or left a 0) (get_or right a 0))
    → (a b : ℕ) → has new a b ≡ (has left a b || has right a b)
united_bits left right new words a b = ap (λ (r : ℕ). eqb (bit_at r b) 1) (words a) ∙ or_row (get_or left a 0) (get_or right a 0) b

-- what is in both
abbrev pub MetRow : List ℕ → ℕ → ℕ → ℕ → Type 0
MetRow right c old new = (b : ℕ) → eqb (bit_at new b) 1 ≡ (eqb (bit_at old b) 1 && has right c b)

pub and_row : (r t b : ℕ) → (eqb (bit_at (bit_and r t) b) 1) ≡ (eqb (bit_at r b) 1 && eqb (bit_at t b) 1)
and_row r t b = grind (arith, nat_tests, bit_at_and r t b, bit_at-lt r b, bit_at-lt t b)

pub met_row : (right : List ℕ) (c old : ℕ) → MetRow right c old (bit_and old (get_or right c 0))
met_row right c old b = and_row old (get_or right c 0) b

pub met_out : (right : List ℕ) (c : ℕ) → MetRow right c 0 0
met_out right c b = no_bit b ∙ ap (λ (s : Bool). s && has right c b) (sym (no_bit b))

-- composition
abbrev pub Reaches : List ℕ → ℕ → ℕ → Type 0
Reaches rows row b = (c : ℕ) × (bit_at row c ≡ 1) × (has rows c b ≡ true)

abbrev pub ComposedRow : List ℕ → ℕ → ℕ → ℕ → Type 0
ComposedRow right c old new = (b : ℕ) → (bit_at new b ≡ 1) ↔ Reaches right old b

pub composed_out : (right : List ℕ) (c : ℕ) → ComposedRow right c 0 0
composed_out right c b = (
  λ h. absurd (omega (arith, h, bit_at-zero b)),
  λ h. absurd (omega (arith, h.1, bit_at-zero h.0)),
)

pub composed_end :
    (right old new : List ℕ) → ((c : ℕ) → ComposedRow right c (get_or old c 0) (get_or new c 0))
    → (a b : ℕ) → (has new a b ≡ true) ↔ ((c : ℕ) × (has old a c ≡ true) × (has right c b ≡ true))
composed_end right old new is a b = (
  λ h. let r = (is a b).0 (eqb-true _ _ h) in (r.0, eq-eqb _ _ r.1, r.2),
  λ h. eq-eqb _ _ ((is a b).1 (h.0, eqb-true _ _ h.1, h.2)),
)
