-- Rows that relate events to themselves.
use Rattle.std.proofs.Common.{◌≡◌, ℕ, suc, ◌*◌, ◌%◌, ◌^◌, ◌<◌, ◌↔◌, inl, inr, List, Some, slice_get, sym, ◌∙◌, ap, subst, arith}
use Rattle.std.specs.Int.{bit_at, w128}
use mir.Val.{bits}
use Rattle.std.proofs.lemmas.Bool.{cases_eq}
use Rattle.std.proofs.lemmas.Nat.{one_shl}
use Rattle.std.proofs.lemmas.Nat.Bits.{bit_at-pow_same, bit_at-pow_other}
use Rattle.fer_events.specs.declared.event.Event.{Event}
use Rattle.model_reader.specs.declared.expr.Expr as whole
use Rattle.model_reader.specs.declared.expr.Expr.TheVariants as expr
use Rattle.event_relations.specs.Words.{kind_place}
use Rattle.event_relations.specs.Words.Relates.{kinds}
use Rattle.event_relations.proofs.Inverting.{relates_opened, RelatesOpen}
use Rattle.event_relations.proofs.Filling.{InRow}

-- the row of one bit
pub only_bit : (a b : ℕ) → a < 128 → (bit_at (1 * 2 ^ a % 2 ^ bits w128) b ≡ 1) ↔ (b ≡ a)
only_bit a b few =
    let value : (1 * 2 ^ a) % 2 ^ 128 ≡ 2 ^ a = one_shl a 128 few in
    subst (λ (row : ℕ). (bit_at row b ≡ 1) ↔ (b ≡ a)) (sym value) (elim (cases_eq b a) [
      | inl same ↦ (λ h. same, λ s. ap (bit_at (2 ^ a)) same ∙ bit_at-pow_same a)
      | inr apart ↦ (λ h. absurd (omega (arith, h, bit_at-pow_other a b apart)), λ s. absurd (apart s))
    ])

kinds_parts : (a b : ℕ) (e f : Event) (set : ℕ) → RelatesOpen a b e f (whole.out-Expr (expr.Kinds set)) → (a ≡ b) × (bit_at set (kind_place e.kind) ≡ 1)
unfolding whole.out-Expr denote.Hole.Carrier.out Rattle.model_reader.specs.declared.expr.Expr.TheBlock.shown-the_row-Expr-0 denote.Hole.Carrier.shown denote.Hole.Carrier.hidden
kinds_parts a b e f set h = h

-- the row of an event that has itself alone, where its kind is in the set, is the set's row of the event
pub kinds_in_row :
    (events : List Event) (k row : ℕ) (e : Event) (set : ℕ) → slice_get events k ≡ Some e
    → ((b : ℕ) → (bit_at row b ≡ 1) ↔ ((b ≡ k) × (bit_at set (kind_place e.kind) ≡ 1)))
    → (b : ℕ) → (bit_at row b ≡ 1) ↔ InRow events k e (expr.Kinds set) b
kinds_in_row events k row e set there is b = (
  λ h. let parts = (is b).0 h in (e, ap (slice_get events) parts.0 ∙ there, kinds set (ap suc (sym parts.0)) parts.1),
  λ h. let parts = kinds_parts (suc k) (suc b) e h.0 set (relates_opened (suc k) (suc b) e h.0 (expr.Kinds set) h.2) in
      (is b).1 (omega (arith, parts.0), parts.1),
)
