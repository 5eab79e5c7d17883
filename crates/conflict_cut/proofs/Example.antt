-- What is true of the example.
use Rattle.std.proofs.Common.{◌≡◌, ℕ, inl, inr, true, false, List, [], ◌∷◌, Some, None, refl, sym, subst, arith}
use Rattle.clause_store.specs.declared.Lit.{Lit}
use Rattle.clause_store.specs.Clauses.{Formula}
use Rattle.clause_store.proofs.GeneralLists.{Contains-nil, Contains-cons_cases}
use Rattle.trail_core.specs.Course.{Entry, Course, Fails}
use Rattle.conflict_cut.specs.Cut.{IsConflict, AreReasons}
use Rattle.conflict_cut.specs.Example.{example_clauses, example_trail}
use Rattle.conflict_cut.proofs.GeneralReasons.{reasons-none, reasons-decided, reasons-implied}
use Rattle.trail_core.specs.Standing.{AllFail, OthersFail}

all-none : (es : List Entry) → AllFail es []
all-none es m h = absurd (Contains-nil m h)

all-more : (es : List Entry) (l : Lit) (ls : List Lit) → Fails es l → AllFail es ls → AllFail es (l ∷ ls)
all-more es l ls f h m c = elim (Contains-cons_cases l ls m c) [
  | inl same ↦ subst (λ (x : Lit). Fails es x) same f
  | inr later ↦ h m later
]

others-none : (es : List Entry) (o : Lit) → OthersFail es [] o
others-none es o m h ne = absurd (Contains-nil m h)

others-more : (es : List Entry) (l : Lit) (ls : List Lit) (o : Lit) → Fails es l → OthersFail es ls o → OthersFail es (l ∷ ls) o
others-more es l ls o f h m c ne = elim (Contains-cons_cases l ls m c) [
  | inl same ↦ subst (λ (x : Lit). Fails es x) same f
  | inr later ↦ h m later ne
]

others-it : (es : List Entry) (l : Lit) (ls : List Lit) → OthersFail es ls l → OthersFail es (l ∷ ls) l
others-it es l ls h m c ne = elim (Contains-cons_cases l ls m c) [
  | inl same ↦ absurd (ne (sym same))
  | inr later ↦ h m later ne
]

abbrev neg : ℕ → Lit
neg v = record { var = v; positive = false }

abbrev one : Entry
one = record { lit = record { var = 1; positive = true }; level = 1; reason = None }

abbrev two : Entry
two = record { lit = record { var = 2; positive = true }; level = 2; reason = None }

abbrev three : Entry
three = record { lit = record { var = 3; positive = true }; level = 2; reason = Some 0 }

abbrev four : Entry
four = record { lit = record { var = 4; positive = true }; level = 2; reason = Some 1 }

abbrev before-three : List Entry
before-three = one ∷ two ∷ []

abbrev before-four : List Entry
before-four = one ∷ two ∷ three ∷ []

abbrev whole : List Entry
whole = one ∷ two ∷ three ∷ four ∷ []

pub reasons : AreReasons example_clauses example_trail.entries
reasons =
    reasons-implied example_clauses before-four four 1
    (reasons-implied example_clauses before-three three 0
    (reasons-decided example_clauses (one ∷ []) two (reasons-decided example_clauses [] one (reasons-none example_clauses) refl) refl)
    refl (
      neg 2 ∷ three.lit ∷ [],
      refl,
      (1, omega arith, refl),
      others-more before-three (neg 2) (three.lit ∷ []) three.lit (two, (1, omega arith, refl), refl) (others-it before-three three.lit [] (others-none before-three three.lit)),
    ))
    refl (
      neg 3 ∷ neg 1 ∷ four.lit ∷ [],
      refl,
      (2, omega arith, refl),
      others-more before-four (neg 3) (neg 1 ∷ four.lit ∷ []) four.lit (three, (2, omega arith, refl), refl)
          (others-more before-four (neg 1) (four.lit ∷ []) four.lit (one, (0, omega arith, refl), refl) (others-it before-four four.lit [] (others-none before-four four.lit))),
    )

pub conflict : IsConflict example_clauses example_trail.entries 2
conflict = (
  neg 3 ∷ neg 4 ∷ [],
  refl,
  all-more whole (neg 3) (neg 4 ∷ []) (three, (2, omega arith, refl), refl)
      (all-more whole (neg 4) [] (four, (3, omega arith, refl), refl) (all-none whole)),
)

pub met : (s : Formula) (t : Course) → s ≡ record { vars = 4; clauses = example_clauses } → t ≡ example_trail → IsConflict s.clauses t.entries 2 × AreReasons s.clauses t.entries
met s t es et =
    let P : Formula → Course → Type 0 = λ f c. IsConflict f.clauses c.entries 2 × AreReasons f.clauses c.entries in
    subst (λ (f : Formula). P f t) (sym es) (subst (λ (c : Course). P (record { vars = 4; clauses = example_clauses }) c) (sym et) (conflict, reasons))
