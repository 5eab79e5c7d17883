use Rattle.std.proofs.Common.{◌≡◌, ℕ, ◌<◌, ◌≤◌, ◌⊎◌, inl, inr, List, length, get_or, slice_get, Some, false, refl, arith}
use Rattle.std.specs.List.{Contains}
use Rattle.std.proofs.lemmas.Option.{slice_get_within, slice_get-get_or}
use Rattle.clause_store.specs.declared.Lit.{Lit}
use Rattle.trail_core.specs.Course.{Entry, Holds, Fails, HasNoValue}
use Rattle.trail_core.proofs.GeneralTrails.{one-of-three, level-cases}
use Rattle.trail_core.proofs.GeneralPlaces.{contains-get, get-contained}
use Rattle.cdcl_core.proofs.Deciding.{met-holds, footing-met, footing-assumed}
use Rattle.cdcl_core.proofs.descent.assume.Goals as goal

fails-else : (es : List Entry) (l : Lit) → (Holds es l → ⊥) → (HasNoValue es l.var → ⊥) → Fails es l
fails-else es l nh nf = elim (one-of-three es l) [
  | inl h ↦ absurd (nh h)
  | inr (inl f) ↦ f
  | inr (inr free) ↦ absurd (nf free)
]

even : (under level now : ℕ) → now ≡ level → now ≤ under → under ≤ level → under ≡ level
even under level now is le in' = omega (arith, is, le, in')

low : (under level now : ℕ) → now ≡ level → now ≤ under → level ≤ under
low under level now is le = omega (arith, is, le)

-- those that were true before, and those that were just gone through
all-passed : (es : List Entry) (asm : List Lit) (from to : ℕ) → ((k : ℕ) (a : Lit) → k < from → slice_get asm k ≡ Some a → Holds es a)
    → ((k : ℕ) (a : Lit) → from ≤ k → k < to → slice_get asm k ≡ Some a → Holds es a) → (k : ℕ) (a : Lit) → k < to → slice_get asm k ≡ Some a → Holds es a
all-passed es asm from to before passed k a lt at = elim (side k from) [
  | inl h ↦ before k a h at
  | inr h ↦ passed k a h lt at
]
  where
    side : (k n : ℕ) → (k < n) ⊎ (n ≤ k)
    side k n = elim (level-cases n k) [ inl h ↦ inr h.0 | inr h ↦ inl h.0 ]

all-hold : (es : List Entry) (asm : List Lit) (to : ℕ) → to ≡ length asm → ((k : ℕ) (a : Lit) → k < to → slice_get asm k ≡ Some a → Holds es a) → (a : Lit) → Contains asm a → Holds es a
all-hold es asm to is h a c = (let at = get-contained asm a c in h at.0 a (omega (arith, is, slice_get_within asm at.0 a at.1)) at.1)

pub returns-then-place-assumptions-clause-came : goal.returns-then-place-assumptions-clause-came
returns-then-place-assumptions-clause-came c = (
  refl,
  met-holds c.args.assumptions.now c.args.engine.now.trail c.args.footing.now.level c.requires.sound.search.course
      (even c.args.footing.now.level c.args.engine.now.trail.level c.level.result c.level.ensures.level c.if-footing-level.false c.requires.footing.in_range)
      (all-hold c.args.engine.now.trail.entries c.args.assumptions.now c.first_untrue-place.result c.if-place-assumptions.true
      (all-passed c.args.engine.now.trail.entries c.args.assumptions.now c.args.footing.now.met c.first_untrue-place.result c.requires.footing.met c.first_untrue-place.ensures.passed)),
)

pub returns-then-not-is_open-clause-came : goal.returns-then-not-is_open-clause-came
returns-then-not-is_open-clause-came c =
    let at = slice_get-get_or c.args.assumptions.now c.first_untrue-place.result (record { var = 0; positive = false }) (omega (arith, c.first_untrue-place.ensures.within, c.if-place-assumptions.false)) in
    let lit = get_or c.args.assumptions.now c.first_untrue-place.result (record { var = 0; positive = false }) in (
      low c.args.footing.now.level c.args.engine.now.trail.level c.level.result c.level.ensures.level c.if-footing-level.false,
      contains-get c.args.assumptions.now c.first_untrue-place.result lit at,
      fails-else c.args.engine.now.trail.entries lit (c.first_untrue-place.ensures.stopped lit at) c.if-not-is_open.ensures,
    )

pub returns-clause-footing : goal.returns-clause-footing
returns-clause-footing c =
    let at = slice_get-get_or c.args.assumptions.now c.first_untrue-place.result (record { var = 0; positive = false }) (omega (arith, c.first_untrue-place.ensures.within, c.if-place-assumptions.false)) in
    let lit = get_or c.args.assumptions.now c.first_untrue-place.result (record { var = 0; positive = false }) in
    let asm = c.args.assumptions.now in
    let passed = footing-met asm c.args.engine.now.trail c.args.footing.now (record { level = c.args.footing.now.level; met = c.first_untrue-place.result }) c.requires.footing refl c.first_untrue-place.ensures.within
    (all-passed c.args.engine.now.trail.entries asm c.args.footing.now.met c.first_untrue-place.result c.requires.footing.met c.first_untrue-place.ensures.passed) in
    footing-assumed asm c.args.engine.now.trail c.decide.new.engine.trail (record { level = c.args.footing.now.level; met = c.first_untrue-place.result }) _ lit c.requires.sound.search.course passed
    (even c.args.footing.now.level c.args.engine.now.trail.level c.level.result c.level.ensures.level c.if-footing-level.false c.requires.footing.in_range)
    (contains-get asm c.first_untrue-place.result lit at) c.decide.ensures.trail c.level-footing.ensures.level refl
