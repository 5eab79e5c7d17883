-- A kept trail whose last entries are taken back.
use Rattle.std.proofs.Common.{◌≡◌, ◌≢◌, ℕ, ◌+◌, ◌-◌, ◌<◌, ◌≤◌, inl, inr, Bool, cond, List, [], ◌∷◌, ◌++◌, length, get_or, set, take, map, count_by, Option, Some, None, false, nat_le, refl, ap, sym, ◌∙◌, subst, arith, length-set, get_or-set_other, get_or-set_same}
use Rattle.std.specs.Prelude.{is_none}
use Rattle.std.specs.List.{All, Contains}
use Rattle.std.proofs.lemmas.Bool.{cases_eq}
use Rattle.std.proofs.lemmas.Grind.{common_steps}
use Rattle.std.proofs.lemmas.List.{take_more, map-append, append-nil, get_or_default}
use Rattle.std.proofs.lemmas.List.Sums.{sum_by-set}
use Rattle.std.proofs.lemmas.List.Elements.{All-contains, filter-append, Contains-push, Contains-push_cases, Contains-append_left}
use Rattle.clause_store.specs.declared.Lit.{Lit}
use Rattle.clause_store.specs.Clauses.{InVars}
use Rattle.clause_store.proofs.GeneralLists.{Contains-nil, Contains-cons_cases}
use Rattle.trail_core.specs.declared.Origin.{Origin}
use Rattle.trail_core.specs.Course.{Entry, HasNoValue, HaveOnce, Rises, IsValue, up_to}
use Rattle.trail_core.specs.Kept.{no_origin, entry_of, entries_of, AreValues, IsKept}
use Rattle.trail_core.proofs.GeneralTrails.{level-at-most, up_to-drops, up_to-all, rises-up_to}

-- the last entry
rises-front : (from : ℕ) (es : List Entry) (e : Entry) (to : ℕ) → Rises from (es ++ e ∷ []) to → ((y : ℕ) × Rises from es y) × (e.level ≡ to)
rises-front from [] e to h = ((from, refl), h.1)
rises-front from (x ∷ xs) e to h =
    let k = rises-front x.level xs e to h.1 in ((k.0.0, (h.0, k.0.1)), k.1)

once-front : (es : List Entry) (e : Entry) → HaveOnce (es ++ e ∷ []) → HaveOnce es × HasNoValue es e.lit.var
once-front [] e h = (tt, λ f c. absurd (Contains-nil f c))
once-front (x ∷ xs) e h =
    let k = once-front xs e h.1 in (
      (λ f c. h.0 f (Contains-append_left xs (e ∷ []) f c), k.0),
      λ f c. elim (Contains-cons_cases x xs f c) [
        | inl same ↦ λ q. h.0 e (Contains-push xs e) (sym q ∙ sym (ap (λ (z : Entry). z.lit.var) same))
        | inr later ↦ k.1 f later
      ],
    )

value-front : (es : List Entry) (e : Entry) (v : ℕ) (o : Option Bool) → v ≢ e.lit.var → IsValue (es ++ e ∷ []) v o → IsValue es v o
value-front es e v None ne h = λ f c. h f (Contains-append_left es (e ∷ []) f c)
value-front es e v (Some b) ne h = elim (Contains-push_cases es e h.0 h.1) [
  | inl here ↦ (h.0, here, h.2)
  | inr same ↦ absurd (ne (sym (ap (λ (l : Lit). l.var) h.2) ∙ sym (ap (λ (z : Entry). z.lit.var) same)))
]

has-value : (es : List Entry) (e : Entry) (o : Option Bool) → Contains es e → IsValue es e.lit.var o → is_none o ≡ false
has-value es e None c h = absurd (h e c refl)
has-value es e (Some b) c h = refl

module _ (values : List (Option Bool)) (origins : List Origin) (lits : List Lit) (k x seen : ℕ) (h : IsKept values origins lits (k + 1) x seen) (d : Lit) where
  abbrev last : Lit
  last = get_or lits k d

  abbrev front : List Entry
  front = entries_of origins lits k

  abbrev entry : Entry
  entry = entry_of origins (get_or lits k d)

  count-lt : k < length lits
  count-lt = omega (arith, h.lits_len, h.room)

  pub split : entries_of origins lits (k + 1) ≡ entries_of origins lits k ++ entry_of origins (get_or lits k d) ∷ []
  split =
      ap (λ (ls : List Lit). map (entry_of origins) ls) (take_more lits k d count-lt)
      ∙ map-append (entry_of origins) (take k lits) (last ∷ [])

  whole : (P : List Entry → Type 0) → P (entries_of origins lits (k + 1)) → P (front ++ entry ∷ [])
  whole P p = subst P split p

  pub last-in : InVars (length values) (get_or lits k d)
  last-in =
      All-contains (λ (e : Entry). InVars (length values) e.lit) (front ++ entry ∷ []) entry
      (whole (λ es. All (λ (e : Entry). InVars (length values) e.lit) es) h.named) (Contains-push front entry)

  place-lt : last.var - 1 < length values
  place-lt = omega (arith, last-in.0, last-in.1)

  was-set : is_none (get_or values (last.var - 1) None) ≡ false
  was-set = has-value (front ++ entry ∷ []) entry (get_or values (last.var - 1) None) (Contains-push front entry) (whole (λ es. AreValues es values) h.agree last.var last-in.0 last-in.1)

  counted : count_by is_none (set values (last.var - 1) None) ≡ count_by is_none values + 1
  counted =
      let law : count_by is_none (set values (last.var - 1) None) + cond (is_none (get_or values (last.var - 1) None)) 1 0 ≡ count_by is_none values + 1 =
      sum_by-set (λ (o : Option Bool). cond (is_none o) 1 0) values (last.var - 1) None None place-lt in
      let zero' : ◌≡◌ {A = ℕ} (cond (is_none (get_or values (last.var - 1) None)) 1 0) 0 = ap (λ (b : Bool). cond b 1 0) was-set in
      omega (arith, law, zero')

  once' : HaveOnce front × HasNoValue front last.var
  once' = once-front front entry (whole (λ es. HaveOnce es) h.once)

  front-named : All (λ (e : Entry). InVars (length values) e.lit) front
  front-named i d' lt =
      All-contains (λ (e : Entry). InVars (length values) e.lit) (front ++ entry ∷ []) (get_or front i d')
      (whole (λ es. All (λ (e : Entry). InVars (length values) e.lit) es) h.named)
      (Contains-append_left front (entry ∷ []) (get_or front i d') (i, lt, get_or_default front i (get_or front i d') d' lt))

  agree' : AreValues front (set values (last.var - 1) None)
  agree' v lo hi = elim (cases_eq v last.var) [
    | inl same ↦
        let lt : last.var - 1 < length values = place-lt in
        rw (same, get_or-set_same) once'.1
    | inr ne ↦
        let apart : v - 1 ≢ last.var - 1 = (λ q. ne (omega (arith, q, lo, last-in.0))) in
        rw get_or-set_other (value-front front entry v (get_or values (v - 1) None) ne (whole (λ es. AreValues es values) h.agree v lo (rw length-set at hi)))
  ]

  pub kept-pop : (y : ℕ) × IsKept (set values (last.var - 1) None) origins lits k y 0
  kept-pop =
      let r = rises-front 0 front entry x (whole (λ es. Rises 0 es x) h.rises) in (
        r.0.0,
        record {
          origins_len = rw length-set h.origins_len;
          lits_len = rw length-set h.lits_len;
          vars_len = rw length-set h.vars_len;
          room = rw length-set (omega (arith, h.room, counted));
          named = rw length-set front-named;
          once = once'.0;
          agree = agree';
          rises = r.0.1;
          seen_in = omega arith;
        },
      )

  -- above the level: the last entry goes
  pub up_to-pop : (level : ℕ) → level < entry.level → up_to level (entries_of origins lits (k + 1)) ≡ up_to level front
  up_to-pop level lt =
      let P : List Entry → Type 0 = λ es. up_to level es ≡ up_to level front in
      subst P (sym split)
      (filter-append (λ (e : Entry). nat_le e.level level) front (entry ∷ [])
      ∙ ap (λ (xs : List Entry). up_to level front ++ xs) (up_to-drops level entry [] lt)
      ∙ append-nil (up_to level front))

  -- not above the level: all stays
  pub up_to-stay : (level : ℕ) → entry.level ≤ level → up_to level (entries_of origins lits (k + 1)) ≡ entries_of origins lits (k + 1)
  up_to-stay level le =
      let top = rises-front 0 front entry x (whole (λ es. Rises 0 es x) h.rises) in
      up_to-all level (entries_of origins lits (k + 1))
      (λ e c. omega (arith, le, top.1, level-at-most 0 (entries_of origins lits (k + 1)) x e h.rises c))

-- the same with a number that isn't 0
module _ (values : List (Option Bool)) (origins : List Origin) (lits : List Lit) (n x : ℕ) (h : IsKept values origins lits n x 0) (d : Lit) (some : 0 < n) where
  one-more : n - 1 + 1 ≡ n
  one-more = omega (arith, some)

  at-suc : IsKept values origins lits (n - 1 + 1) x 0
  at-suc = let P : ℕ → Type 0 = λ j. IsKept values origins lits j x 0 in subst P (sym one-more) h

  pub last-there : InVars (length values) (get_or lits (n - 1) d)
  last-there = last-in values origins lits (n - 1) x 0 at-suc d

  pub pop-kept : (y : ℕ) × IsKept (set values ((get_or lits (n - 1) d).var - 1) None) origins lits (n - 1) y 0
  pop-kept = kept-pop values origins lits (n - 1) x 0 at-suc d

  pub pop-up_to : (level : ℕ) → level < (get_or origins ((get_or lits (n - 1) d).var - 1) no_origin).level → up_to level (entries_of origins lits (n - 1)) ≡ up_to level (entries_of origins lits n)
  pop-up_to level lt =
      sym (up_to-pop values origins lits (n - 1) x 0 at-suc d level lt) ∙ ap (λ (j : ℕ). up_to level (entries_of origins lits j)) one-more

  pub stay-up_to : (level : ℕ) → (get_or origins ((get_or lits (n - 1) d).var - 1) no_origin).level ≤ level → up_to level (entries_of origins lits n) ≡ entries_of origins lits n
  stay-up_to level le =
      let P : ℕ → Type 0 = λ j. up_to level (entries_of origins lits j) ≡ entries_of origins lits j in
      subst P one-more (up_to-stay values origins lits (n - 1) x 0 at-suc d level le)

-- a kept trail at a lower level
pub kept-back : (values values' : List (Option Bool)) (origins : List Origin) (lits : List Lit) (count level seen n x to least : ℕ) → IsKept values origins lits count level seen → IsKept values' origins lits n x 0 → entries_of origins lits n ≡ up_to to (entries_of origins lits count) → to ≤ level → least ≤ n → IsKept values' origins lits n to least
kept-back values values' origins lits count level seen n x to least h k e le fits = record {
  origins_len = k.origins_len;
  lits_len = k.lits_len;
  vars_len = k.vars_len;
  room = k.room;
  named = k.named;
  once = k.once;
  agree = k.agree;
  rises = (let P : List Entry → Type 0 = λ es. Rises 0 es to in subst P (sym e) (rises-up_to 0 (entries_of origins lits count) level to h.rises (omega arith) le));
  seen_in = fits;
}

pub take-whole : {A : Type 0} (n : ℕ) (xs ys : List A) → n ≡ length xs → take n (xs ++ ys) ≡ xs
take-whole n xs ys e = grind (arith, common_steps)

-- over slices that are the same lists
pub same-kept : (os origins : List Origin) (ls lits : List Lit) (values : List (Option Bool)) (n count x to : ℕ) → os ≡ origins → ls ≡ lits → IsKept values os ls n x 0 → entries_of os ls n ≡ up_to to (entries_of os ls count) → IsKept values origins lits n x 0 × (entries_of origins lits n ≡ up_to to (entries_of origins lits count))
same-kept os origins ls lits values n count x to eo es k e =
    let P : List Origin → Type 0 = λ a. IsKept values a ls n x 0 × (entries_of a ls n ≡ up_to to (entries_of a ls count)) in
    let R : List Lit → Type 0 = λ a. IsKept values origins a n x 0 × (entries_of origins a n ≡ up_to to (entries_of origins a count)) in
    subst R es (subst P eo (k, e))
