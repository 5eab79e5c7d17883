-- Laws of the walk.
use Rattle.std.proofs.Common.{◌≡◌, ◌≢◌, ℕ, ◌<◌, inl, inr, List, Bool, true, false, Some, length, refl, sym, ◌∙◌, ap, arith, subst}
use Rattle.std.specs.Prelude.{slice_get}
use Rattle.std.proofs.lemmas.Bool.{cases_eq}
use Rattle.std.proofs.lemmas.List.{length-replicate, length-set}
use Rattle.sync_shrink.specs.Sets.{without, Has, IsPart}
use Rattle.sync_shrink.specs.Walk.{Walk}
use Rattle.sync_shrink.specs.Walk.Walk.{begin, dropped, needed}
use Rattle.sync_shrink.proofs.SetLaws.{has-without, has-within, part-without, part-trans, part-lacking, part-lacks}

-- two walks over as many things leave one set
same-walk : (bad : List Bool → Type 0) (n j k : ℕ) (s t : List Bool) → j ≡ k → Walk bad n j s → Walk bad n k t → s ≡ t
same-walk bad n _ _ _ _ e (begin f) (begin g) = refl
same-walk bad n _ _ _ _ e (begin f) (dropped k t w g) = absurd (omega (arith, e))
same-walk bad n _ _ _ _ e (begin f) (needed k t w g) = absurd (omega (arith, e))
same-walk bad n _ _ _ _ e (dropped j s v f) (begin g) = absurd (omega (arith, e))
same-walk bad n _ _ _ _ e (needed j s v f) (begin g) = absurd (omega (arith, e))
same-walk bad n _ _ _ _ e (dropped j s v f) (dropped k t w g) =
    let i : j ≡ k = omega (arith, e) in
    ap (λ (l : List Bool). without j l) (same-walk bad n j k s t i v w) ∙ ap (λ (m : ℕ). without m t) i
same-walk bad n _ _ _ _ e (needed j s v f) (needed k t w g) =
    let i : j ≡ k = omega (arith, e) in
    same-walk bad n j k s t i v w
same-walk bad n _ _ _ _ e (dropped j s v f) (needed k t w g) =
    let i : j ≡ k = omega (arith, e) in
    let same : without j s ≡ without k t = ap (λ (l : List Bool). without j l) (same-walk bad n j k s t i v w) ∙ ap (λ (m : ℕ). without m t) i in
    absurd (f (subst bad (sym same) g))
same-walk bad n _ _ _ _ e (needed j s v f) (dropped k t w g) =
    let i : j ≡ k = omega (arith, e) in
    let same : without j s ≡ without k t = ap (λ (l : List Bool). without j l) (same-walk bad n j k s t i v w) ∙ ap (λ (m : ℕ). without m t) i in
    absurd (g (subst bad same f))

pub one-walk : (bad : List Bool → Type 0) (n k : ℕ) (s t : List Bool) → Walk bad n k s → Walk bad n k t → s ≡ t
one-walk bad n k s t v w = same-walk bad n k k s t refl v w

-- what is left isn't bad
pub walk-fine : (bad : List Bool → Type 0) (n k : ℕ) (s : List Bool) → Walk bad n k s → bad s → ⊥
walk-fine bad n _ _ (begin f) b = f b
walk-fine bad n _ _ (dropped k s w f) b = f b
walk-fine bad n _ _ (needed k s w g) b = walk-fine bad n k s w b

pub walk-length : (bad : List Bool → Type 0) (n k : ℕ) (s : List Bool) → Walk bad n k s → length s ≡ n
walk-length bad n _ _ (begin f) = length-replicate n true
walk-length bad n _ _ (dropped k s w f) = length-set s k false ∙ walk-length bad n k s w
walk-length bad n _ _ (needed k s w g) = walk-length bad n k s w

-- a part that lacks a thing that was tried and kept is bad
lacking-bad : (bad : List Bool → Type 0) → ((part whole : List Bool) → IsPart part whole → bad whole → bad part)
    → (n k : ℕ) (s : List Bool) → Walk bad n k s → (t : List Bool) (j : ℕ) → j < k → IsPart t s → slice_get t j ≡ Some false → Has s j → bad t
lacking-bad bad parts n _ _ (begin f) t j l p h has = absurd (omega arith)
lacking-bad bad parts n _ _ (dropped k s w f) t j l p h has =
    let i = has-without s j k has in
    let ne : j ≢ k = i.1 in
    lacking-bad bad parts n k s w t j (omega arith) (part-trans t (without k s) s p (part-without s k)) h i.0
lacking-bad bad parts n _ _ (needed k s w g) t j l p h has =
    elim (cases_eq j k) [
      | inl e ↦ parts t (without k s) (part-lacking t s k p (subst (λ (m : ℕ). slice_get t m ≡ Some false) e h)) g
      | inr ne ↦ lacking-bad bad parts n k s w t j (omega arith) p h has
    ]

-- each part of what is kept that isn't all of it is bad
pub walk-least : (bad : List Bool → Type 0) → ((part whole : List Bool) → IsPart part whole → bad whole → bad part)
    → (n : ℕ) (s t : List Bool) → Walk bad n n s → IsPart t s → t ≢ s → bad t
walk-least bad parts n s t w p ne =
    let lack = part-lacks t s p ne in
    let full : length s ≡ n = walk-length bad n n s w in
    let within : lack.0 < length s = has-within s lack.0 lack.2 in
    lacking-bad bad parts n n s w t lack.0 (omega arith) p lack.1 lack.2
