-- The rows of an operator show its meaning, where those of its operands show theirs.
use Rattle.std.proofs.Common.{◌≡◌, ℕ, zero, suc, ◌-◌, ◌≤◌, ◌↔◌, ◌⊎◌, inl, inr, true, ◌&&◌, ◌||◌, Some, List, slice_get, refl, sym, ◌∙◌, ap, subst, arith}
use Rattle.std.proofs.lemmas.Bool.{and_parts as both_true, and_from}
use Rattle.fer_events.specs.declared.event.Event.{Event}
use Rattle.fer_events.specs.Orders.{IsEvent}
use Rattle.model_reader.specs.declared.expr.Expr.{Expr}
use Rattle.model_reader.specs.declared.expr.Expr.TheVariants as expr
use Rattle.event_relations.specs.Rows.{has, Joins}
use Rattle.event_relations.specs.Rows.Joins.{one as joins_one, more as joins_more}
use Rattle.event_relations.specs.Meaning.{Names, Means}
use Rattle.event_relations.specs.Meaning.Means.{word, named, left, right, both, joined, one, more}
use Rattle.event_relations.specs.Showing.{Shows, names_shown, RelatesPlaces}
use Rattle.event_relations.proofs.Joining.{or_cases, or_left, or_right}
use Rattle.event_relations.proofs.Inverting.{IsWord, named_parts, or_parts, and_parts, seq_parts, plus_least}

-- the names stand for pairs of numbers from 1 on
abbrev pub NamesPositive : Names → Type 0
NamesPositive names = (i a b : ℕ) → names i a b → (1 ≤ a) × (1 ≤ b)

pub names_shown_positive : (names : List (List ℕ)) → NamesPositive (names_shown names)
names_shown_positive names i zero b h = absurd h
names_shown_positive names i (suc a) zero h = absurd h
names_shown_positive names i (suc a) (suc b) h = (omega arith, omega arith)

pub means_positive : (events : List Event) (names : Names) → NamesPositive names → (x : Expr) (a b : ℕ) → Means events names x a b → (1 ≤ a) × (1 ≤ b)
means_positive events names ok _ _ _ (word x a b e f ea fb r) = (omega (arith, ea.0), omega (arith, fb.0))
means_positive events names ok _ _ _ (named i a b h) = ok i a b h
means_positive events names ok _ _ _ (left x y a b h) = means_positive events names ok x a b h
means_positive events names ok _ _ _ (right x y a b h) = means_positive events names ok y a b h
means_positive events names ok _ _ _ (both x y a b h k) = means_positive events names ok x a b h
means_positive events names ok _ _ _ (joined x y a b c h k) = ((means_positive events names ok x a b h).0, (means_positive events names ok y b c k).1)
means_positive events names ok _ _ _ (one x a b h) = means_positive events names ok x a b h
means_positive events names ok _ _ _ (more x a b c h k) = ((means_positive events names ok x a b h).0, (means_positive events names ok _ b c k).1)

pub shows_or :
    (events : List Event) (names : Names) (x y : Expr) (l r new : List ℕ) → Shows l (Means events names x) → Shows r (Means events names y)
    → ((a b : ℕ) → has new a b ≡ (has l a b || has r a b)) → Shows new (Means events names (expr.Or x y))
shows_or events names x y l r new sl sr is a b = (
  λ h. elim (or_cases _ _ (sym (is a b) ∙ h)) [
    | inl e ↦ left x y (suc a) (suc b) ((sl a b).0 e)
    | inr e ↦ right x y (suc a) (suc b) ((sr a b).0 e)
  ],
  λ m. is a b ∙ elim (or_parts events names x y (suc a) (suc b) m) [
    | inl k ↦ or_left _ _ ((sl a b).1 k)
    | inr k ↦ or_right _ _ ((sr a b).1 k)
  ],
)

pub shows_and :
    (events : List Event) (names : Names) (x y : Expr) (l r new : List ℕ) → Shows l (Means events names x) → Shows r (Means events names y)
    → ((a b : ℕ) → has new a b ≡ (has l a b && has r a b)) → Shows new (Means events names (expr.And x y))
shows_and events names x y l r new sl sr is a b = (
  λ h. let parts = both_true _ _ (sym (is a b) ∙ h) in both x y (suc a) (suc b) ((sl a b).0 parts.0) ((sr a b).0 parts.1),
  λ m. let parts = and_parts events names x y (suc a) (suc b) m in is a b ∙ and_from _ _ ((sl a b).1 parts.0) ((sr a b).1 parts.1),
)

pub shows_seq :
    (events : List Event) (names : Names) → NamesPositive names → (x y : Expr) (l r new : List ℕ) → Shows l (Means events names x) → Shows r (Means events names y)
    → ((a b : ℕ) → (has new a b ≡ true) ↔ ((c : ℕ) × (has l a c ≡ true) × (has r c b ≡ true))) → Shows new (Means events names (expr.Seq x y))
shows_seq events names ok x y l r new sl sr is a b = (
  λ h. let parts = (is a b).0 h in joined x y (suc a) (suc parts.0) (suc b) ((sl a parts.0).0 parts.1) ((sr parts.0 b).0 parts.2),
  λ m. let parts = seq_parts events names x y (suc a) (suc b) m in
      let middle = means_positive events names ok x (suc a) parts.0 parts.1 in
      let c = parts.0 - 1 in
      let at : parts.0 ≡ suc c = omega (arith, middle.1) in
      (is a b).1 (
        c,
        (sl a c).1 (subst (λ (d : ℕ). Means events names x (suc a) d) at parts.1),
        (sr c b).1 (subst (λ (d : ℕ). Means events names y d (suc b)) at parts.2),
      ),
)

joins_path : (events : List Event) (names : Names) (x : Expr) (l : List ℕ) → Shows l (Means events names x) → (a b : ℕ) → Joins l a b → Means events names (expr.Plus x) (suc a) (suc b)
joins_path events names x l sl _ _ (joins_one a b h) = one x (suc a) (suc b) ((sl a b).0 h)
joins_path events names x l sl _ _ (joins_more a b c h k) = more x (suc a) (suc b) (suc c) ((sl a b).0 h) (joins_path events names x l sl b c k)

pub shows_plus :
    (events : List Event) (names : Names) → NamesPositive names → (x : Expr) (l new : List ℕ) → Shows l (Means events names x)
    → ((a b : ℕ) → (has new a b ≡ true) ↔ Joins l a b) → Shows new (Means events names (expr.Plus x))
shows_plus events names ok x l new sl is a b =
    let R : ℕ → ℕ → Type 0 = λ c d. (m n : ℕ) → c ≡ suc m → d ≡ suc n → Joins l m n in
    let start : (c d : ℕ) → Means events names x c d → R c d =
    λ c d h m n cm dn. joins_one m n ((sl m n).1 (subst (λ (u : ℕ). Means events names x u (suc n)) cm (subst (λ (v : ℕ). Means events names x c v) dn h))) in
    let further : (c d e : ℕ) → Means events names x c d → R d e → R c e =
    λ c d e h rest m n cm en.
    let middle = means_positive events names ok x c d h in
    let k = d - 1 in
    let at : d ≡ suc k = omega (arith, middle.1) in
    joins_more m k n ((sl m k).1 (subst (λ (u : ℕ). Means events names x u (suc k)) cm (subst (λ (v : ℕ). Means events names x c v) at h))) (rest k n at en) in (
      λ h. joins_path events names x l sl a b ((is a b).0 h),
      λ m. (is a b).1 (plus_least events names x R start further (suc a) (suc b) m a b refl refl),
    )

pub shows_named :
    (events : List Event) (names : List (List ℕ)) (i : ℕ) (new : List ℕ) → ((a b : ℕ) → (has new a b ≡ true) ↔ names_shown names i (suc a) (suc b))
    → Shows new (Means events (names_shown names) (expr.Named i))
shows_named events names i new is a b = (
  λ h. named i (suc a) (suc b) ((is a b).0 h),
  λ m. (is a b).1 (named_parts events (names_shown names) i (suc a) (suc b) m),
)

at_place : (events : List Event) (a : ℕ) (e : Event) → (slice_get events a ≡ Some e) ↔ IsEvent events (suc a) e
at_place events a e =
    let back : suc a - 1 ≡ a = omega arith in (
      λ h. (omega arith, ap (slice_get events) back ∙ h),
      λ h. ap (slice_get events) (sym back) ∙ h.1,
    )

-- what an expression relates that is no name and no operator, it relates as a word
means_word :
    (events : List Event) (names : Names) (x : Expr) → ((i : ℕ) → x ≡ expr.Named i → ⊥) → ((l r : Expr) → x ≡ expr.Or l r → ⊥)
    → ((l r : Expr) → x ≡ expr.And l r → ⊥) → ((l r : Expr) → x ≡ expr.Seq l r → ⊥) → ((y : Expr) → x ≡ expr.Plus y → ⊥)
    → (a b : ℕ) → Means events names x a b → IsWord events x a b
means_word events names _ no_name no_or no_and no_seq no_plus _ _ (word x a b e f ea fb r) = (e, f, ea, fb, r)
means_word events names _ no_name no_or no_and no_seq no_plus _ _ (named i a b h) = absurd (no_name i refl)
means_word events names _ no_name no_or no_and no_seq no_plus _ _ (left x y a b h) = absurd (no_or x y refl)
means_word events names _ no_name no_or no_and no_seq no_plus _ _ (right x y a b h) = absurd (no_or x y refl)
means_word events names _ no_name no_or no_and no_seq no_plus _ _ (both x y a b h k) = absurd (no_and x y refl)
means_word events names _ no_name no_or no_and no_seq no_plus _ _ (joined x y a b c h k) = absurd (no_seq x y refl)
means_word events names _ no_name no_or no_and no_seq no_plus _ _ (one x a b h) = absurd (no_plus x refl)
means_word events names _ no_name no_or no_and no_seq no_plus _ _ (more x a b c h k) = absurd (no_plus x refl)

pub shows_word :
    (events : List Event) (names : Names) (x : Expr) → ((i : ℕ) → x ≡ expr.Named i → ⊥) → ((l r : Expr) → x ≡ expr.Or l r → ⊥)
    → ((l r : Expr) → x ≡ expr.And l r → ⊥) → ((l r : Expr) → x ≡ expr.Seq l r → ⊥) → ((y : Expr) → x ≡ expr.Plus y → ⊥)
    → (new : List ℕ) → ((a b : ℕ) → (has new a b ≡ true) ↔ RelatesPlaces events x a b) → Shows new (Means events names x)
shows_word events names x no_name no_or no_and no_seq no_plus new is a b = (
  λ h. let r = (is a b).0 h in word x (suc a) (suc b) r.0 r.1 ((at_place events a r.0).0 r.2) ((at_place events b r.1).0 r.3) r.4,
  λ m. let r = means_word events names x no_name no_or no_and no_seq no_plus (suc a) (suc b) m in
      (is a b).1 (r.0, r.1, (at_place events a r.0).1 r.2, (at_place events b r.1).1 r.3, r.4),
)

-- the rows that an operator makes of those of its operands show its meaning
pub shows_operated :
    (events : List Event) (names : Names) → NamesPositive names → (x l r : Expr) (left_rows right_rows new : List ℕ)
    → (x ≡ expr.Or l r) ⊎ ((x ≡ expr.And l r) ⊎ (x ≡ expr.Seq l r))
    → Shows left_rows (Means events names l) → Shows right_rows (Means events names r)
    → ((l r : Expr) → x ≡ expr.Or l r → (a b : ℕ) → has new a b ≡ (has left_rows a b || has right_rows a b))
    → ((l r : Expr) → x ≡ expr.And l r → (a b : ℕ) → has new a b ≡ (has left_rows a b && has right_rows a b))
    → ((l r : Expr) → x ≡ expr.Seq l r → (a b : ℕ) → (has new a b ≡ true) ↔ ((c : ℕ) × (has left_rows a c ≡ true) × (has right_rows c b ≡ true)))
    → Shows new (Means events names x)
shows_operated events names ok x l r left_rows right_rows new is shows_left shows_right union intersection sequence =
    let P : Expr → Type 0 = λ z. Shows new (Means events names z) in
    elim is [
      | inl o ↦ subst P (sym o) (shows_or events names l r left_rows right_rows new shows_left shows_right (union l r o))
      | inr rest ↦ elim rest [
        | inl o ↦ subst P (sym o) (shows_and events names l r left_rows right_rows new shows_left shows_right (intersection l r o))
        | inr o ↦ subst P (sym o) (shows_seq events names ok l r left_rows right_rows new shows_left shows_right (sequence l r o))
      ]
    ]
