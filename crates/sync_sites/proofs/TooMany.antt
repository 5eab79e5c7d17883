-- Where there are too many events, and where there are few.
use Rattle.std.proofs.Common.{◌≡◌, ◌↔◌, ◌⊎◌, ℕ, zero, suc, ◌+◌, ◌-◌, ◌<◌, ◌≤◌, List, [], ◌∷◌, length, Option, Some, refl, sym, ◌∙◌, ap, inl, inr, arith, length-append}
use Rattle.std.specs.Prelude.{slice_get}
use Rattle.std.proofs.lemmas.Bool.{cases_lt}
use Rattle.std.proofs.lemmas.Option.{slice_get_within}
use Rattle.litmus_syntax.specs.declared.call.Step.{Step}
use Rattle.litmus_syntax.specs.declared.site.Site.{Site}
use Rattle.litmus_syntax.specs.declared.site.SiteKind.{SiteKind}
use Rattle.fer_events.specs.Tables.{Trace, IsTrace}
use Rattle.sync_sites.specs.SiteLists.{sites_behind, sites_upto, events_with_sites, AreTooMany}
use Rattle.sync_sites.proofs.Steps.{sites_more}

-- sites of more calls are no fewer
more_sites : (kind : SiteKind) (body : List Step) (t : Trace) (k n : ℕ) → events_with_sites kind body t k ≤ events_with_sites kind body t (k + n)
more_sites kind body t k zero = let e : k + zero ≡ k = omega arith in omega (arith, ap (events_with_sites kind body t) e)
more_sites kind body t k (suc n) =
    let e : k + suc n ≡ k + n + 1 = omega arith in
    let longer : length (sites_upto kind body t (k + n + 1)) ≡ length (sites_upto kind body t (k + n)) + length (sites_behind kind body t (k + n + 1)) =
    ap (λ (s : List Site). length s) (sites_more kind body t (k + n)) ∙ length-append (sites_upto kind body t (k + n)) (sites_behind kind body t (k + n + 1)) in
    omega (arith, more_sites kind body t k n, longer, ap (events_with_sites kind body t) e)

pub item_there : {X : Type 0} (xs : List X) (i : ℕ) → i < length xs → (x : X) × (slice_get xs i ≡ Some x)
item_there [] i h = absurd (omega (arith, h))
item_there (x ∷ xs) zero h = (x, refl)
item_there (x ∷ xs) (suc i) h = item_there xs i (omega (arith, h))

-- up to call n there are few, or there is a first call at which there are too many
first_call : (kind : SiteKind) (body : List Step) (t : Trace) (n : ℕ) → length t.events ≤ 128 → n ≤ length body
    → ((k : ℕ) → k ≤ n → events_with_sites kind body t k ≤ 128) ⊎ ((line : ℕ) × AreTooMany kind body t line)
first_call kind body t zero few upto = inl (λ k low. let e : k ≡ zero = omega (arith, low) in omega (arith, few, ap (events_with_sites kind body t) e))
first_call kind body t (suc n) few upto = elim (first_call kind body t n few (omega (arith, upto))) [
  | inr many ↦ inr many
  | inl before ↦ elim (cases_lt 128 (events_with_sites kind body t (n + 1))) [
    | inl over ↦
        let step = item_there body n (omega (arith, upto)) in
        inr (step.0.line, record { before = n; step = step.0; there = step.1; at = refl; over = over; first = before })
    | inr under ↦ inl (λ k low. elim (cases_lt k (n + 1)) [
      | inl early ↦ before k (omega (arith, early))
      | inr late ↦ let e : k ≡ n + 1 = omega (arith, low, late) in omega (arith, under, ap (events_with_sites kind body t) e)
    ])
  ]
]

pub too_many : (kind : SiteKind) (body : List Step) (t : Trace) → IsTrace t → ((line : ℕ) × AreTooMany kind body t line) ↔ (128 < events_with_sites kind body t (length body))
too_many kind body t rules = (
  λ many.
      let found = many.1 in
      let there : found.before < length body = slice_get_within body found.before found.step found.there in
      let e : found.before + 1 + (length body - (found.before + 1)) ≡ length body = omega (arith, there) in
      omega (arith, found.over, more_sites kind body t (found.before + 1) (length body - (found.before + 1)), ap (events_with_sites kind body t) e),
  λ over. elim (first_call kind body t (length body) rules.few_events (omega arith)) [
    | inl few ↦ absurd (omega (arith, few (length body) (omega arith), over))
    | inr many ↦ many
  ],
)

pub some_same : {X : Type 0} (x y : X) → ◌≡◌ {A = Option X} (Some x) (Some y) → x ≡ y
some_same x y h = cc

pub one_line : (kind : SiteKind) (body : List Step) (t : Trace) (i j : ℕ) → AreTooMany kind body t i → AreTooMany kind body t j → i ≡ j
one_line kind body t i j a b = elim (cases_lt a.before b.before) [
  | inl less ↦ absurd (omega (arith, a.over, b.first (a.before + 1) (omega (arith, less))))
  | inr up ↦ elim (cases_lt b.before a.before) [
    | inl less ↦ absurd (omega (arith, b.over, a.first (b.before + 1) (omega (arith, less))))
    | inr down ↦
        let same : a.before ≡ b.before = omega (arith, up, down) in
        let step : a.step ≡ b.step = some_same a.step b.step (sym a.there ∙ ap (slice_get body) same ∙ b.there) in
        sym a.at ∙ ap (λ (s : Step). s.line) step ∙ b.at
  ]
]
