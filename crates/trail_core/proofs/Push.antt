-- A kept trail with one entry more, and what is read of it.
use Rattle.std.proofs.Common.{◌≡◌, ◌≢◌, ℕ, ◌+◌, ◌-◌, ◌<◌, ◌≤◌, inl, inr, Bool, List, [], ◌∷◌, ◌++◌, length, get_or, set, take, map, count_by, cond, Option, Some, None, MatchOption, refl, ap, sym, ◌∙◌, subst, arith, length-set, get_or-set_other, get_or-set_same}
use Rattle.std.specs.Prelude.{is_none}
use Rattle.std.specs.List.{All, Contains}
use Rattle.std.proofs.lemmas.Bool.{cases_eq}
use Rattle.std.proofs.lemmas.Grind.{common_steps}
use Rattle.std.proofs.lemmas.List.{take_more_set, map-append, get_or_default}
use Rattle.std.proofs.lemmas.List.Sums.{sum_by-set}
use Rattle.std.proofs.lemmas.List.Elements.{All-head, All-tail, All-push, All-nil, All-cons, All-contains, Contains-push, Contains-push_cases, Contains-append_left}
use Rattle.clause_store.specs.declared.Lit.{Lit}
use Rattle.clause_store.specs.Clauses.{InVars}
use Rattle.clause_store.proofs.GeneralLists.{Contains-head, Contains-tail, Contains-from_map}
use Rattle.trail_core.specs.declared.Origin.{Origin}
use Rattle.trail_core.specs.Course.{Entry, Course, extended, HasNoValue, IsValue}
use Rattle.trail_core.specs.Kept.{no_origin, entry_of, entries_of, course_of, AreValues, IsKept}
use Rattle.trail_core.proofs.GeneralTrails.{HaveOnce-push, Rises-push, Rises-le}

-- the variables of the entries have other places than a free one
apart : (origins : List Origin) (ls : List Lit) (n v : ℕ) → All (λ (e : Entry). InVars n e.lit) (map (entry_of origins) ls) → HasNoValue (map (entry_of origins) ls) v → 1 ≤ v → All (λ (l : Lit). l.var - 1 ≢ v - 1) ls
apart origins [] n v named free lo = All-nil (λ (l : Lit). l.var - 1 ≢ v - 1)
apart origins (l ∷ ls) n v named free lo =
    let first : InVars n l = All-head (λ (e : Entry). InVars n e.lit) (entry_of origins l) (map (entry_of origins) ls) named in
    let other : l.var ≢ v = free (entry_of origins l) (Contains-head (entry_of origins l) (map (entry_of origins) ls)) in
    All-cons (λ (l : Lit). l.var - 1 ≢ v - 1) l ls (λ e. other (omega (arith, e, first.0, lo)))
    (apart origins ls n v (All-tail (λ (e : Entry). InVars n e.lit) (entry_of origins l) (map (entry_of origins) ls) named)
    (λ e c. free e (Contains-tail (entry_of origins l) (map (entry_of origins) ls) e c)) lo)

entries-frame : (origins : List Origin) (ls : List Lit) (place : ℕ) (o : Origin) → All (λ (l : Lit). l.var - 1 ≢ place) ls → map (entry_of (set origins place o)) ls ≡ map (entry_of origins) ls
entries-frame origins [] place o h = refl
entries-frame origins (l ∷ ls) place o h =
    let ne : l.var - 1 ≢ place = All-head (λ (l : Lit). l.var - 1 ≢ place) l ls h in
    rw get_or-set_other
    (ap (λ es. entry_of origins l ∷ es) (entries-frame origins ls place o (All-tail (λ (l : Lit). l.var - 1 ≢ place) l ls h)))

IsValue-push : (es : List Entry) (e : Entry) (v : ℕ) (o : Option Bool) → v ≢ e.lit.var → IsValue es v o → IsValue (es ++ e ∷ []) v o
IsValue-push es e v None ne h = λ f c. elim (Contains-push_cases es e f c) [
  | inl here ↦ h f here
  | inr same ↦ λ q. ne (sym q ∙ sym (ap (λ (k : Entry). k.lit.var) same))
]
IsValue-push es e v (Some b) ne h = (h.0, Contains-append_left es (e ∷ []) h.0 h.1, h.2)

AreValues-push : (es : List Entry) (values : List (Option Bool)) (e : Entry) → AreValues es values → InVars (length values) e.lit → AreValues (es ++ e ∷ []) (set values (e.lit.var - 1) (Some e.lit.positive))
AreValues-push es values e h there v lo hi =
    elim (cases_eq v e.lit.var) [
      | inl same ↦
          let lt : e.lit.var - 1 < length values = omega (arith, there.0, there.1) in
          rw (same, get_or-set_same) (e, Contains-push es e, refl)
      | inr ne ↦
          let apart' : v - 1 ≢ e.lit.var - 1 = (λ q. ne (omega (arith, q, lo, there.0))) in
          rw get_or-set_other (IsValue-push es e v (get_or values (v - 1) None) ne (h v lo (rw length-set at hi)))
    ]

-- a free variable has no value
no-value : (es : List Entry) (v : ℕ) (o : Option Bool) → HasNoValue es v → IsValue es v o → o ≡ None
no-value es v None free h = refl
no-value es v (Some b) free h = absurd (free h.0 h.1 (ap (λ (k : Lit). k.var) h.2))

count-set : (values : List (Option Bool)) (i : ℕ) (b : Bool) → i < length values → get_or values i None ≡ None → count_by is_none (set values i (Some b)) + 1 ≡ count_by is_none values
count-set values i b l e =
    let law : count_by is_none (set values i (Some b)) + cond (is_none (get_or values i None)) 1 0 ≡ count_by is_none values + 0 =
    sum_by-set (λ (o : Option Bool). cond (is_none o) 1 0) values i (Some b) None l in
    let one : ◌≡◌ {A = ℕ} (cond (is_none (get_or values i None)) 1 0) 1 = ap (λ (o : Option Bool). cond (is_none o) 1 0) e in
    omega (arith, law, one)

length-entries : (origins : List Origin) (lits : List Lit) (count : ℕ) → length (entries_of origins lits count) ≤ count
length-entries origins lits count = grind (arith, common_steps)

module _ (values : List (Option Bool)) (origins : List Origin) (lits : List Lit) (count level seen : ℕ) (k : IsKept values origins lits count level seen) (t : Course) (is : course_of values origins lits count level seen ≡ t) (lit : Lit) (there_t : InVars t.vars lit) (free_t : HasNoValue t.entries lit.var) where
  there : InVars (length values) lit
  there = let P : Course → Type 0 = λ u. InVars u.vars lit in subst P (sym is) there_t

  free : HasNoValue (entries_of origins lits count) lit.var
  free = let P : Course → Type 0 = λ u. HasNoValue u.entries lit.var in subst P (sym is) free_t

  place_in : lit.var - 1 < length values
  place_in = omega (arith, there.0, there.1)

  unset : get_or values (lit.var - 1) None ≡ None
  unset = no-value (entries_of origins lits count) lit.var (get_or values (lit.var - 1) None) free (k.agree lit.var there.0 there.1)

  counted : count_by is_none (set values (lit.var - 1) (Some lit.positive)) + 1 ≡ count_by is_none values
  counted = count-set values (lit.var - 1) lit.positive place_in unset

  pub count_lt : count < length values
  count_lt = omega (arith, k.room, counted)

  pub level_le : level ≤ count
  level_le = omega (arith, Rises-le 0 (entries_of origins lits count) level k.rises, length-entries origins lits count)

  module _ (o : Origin) (opens_t : MatchOption o.reason (o.level ≡ t.level + 1) (λ _. o.level ≡ t.level)) where
    abbrev new : Entry
    new = record { lit = lit; level = o.level; reason = o.reason }

    opens : MatchOption o.reason (o.level ≡ level + 1) (λ _. o.level ≡ level)
    opens =
        let P : Course → Type 0 = λ u. MatchOption o.reason (o.level ≡ u.level + 1) (λ _. o.level ≡ u.level) in
        subst P (sym is) opens_t

    entries-push : entries_of (set origins (lit.var - 1) o) (set lits count lit) (count + 1) ≡ entries_of origins lits count ++ record { lit = lit; level = o.level; reason = o.reason } ∷ []
    entries-push =
        let in_lits : count < length lits = omega (arith, k.lits_len, count_lt) in
        let in_origins : lit.var - 1 < length origins = omega (arith, k.origins_len, place_in) in
        let f : Lit → Entry = entry_of (set origins (lit.var - 1) o) in
        let away = apart origins (take count lits) (length values) lit.var k.named free there.0 in
        let last : f lit ≡ record { lit = lit; level = o.level; reason = o.reason } = rw get_or-set_same refl in
        ap (map f) (take_more_set lits count lit in_lits)
        ∙ map-append f (take count lits) (lit ∷ [])
        ∙ ap (λ (es : List Entry). es ++ f lit ∷ []) (entries-frame origins (take count lits) (lit.var - 1) o away)
        ∙ ap (λ (e : Entry). entries_of origins lits count ++ e ∷ []) last

    pub kept-push : IsKept (set values (lit.var - 1) (Some lit.positive)) (set origins (lit.var - 1) o) (set lits count lit) (count + 1) o.level seen
    kept-push = record {
      origins_len = rw (length-set, length-set) k.origins_len;
      lits_len = rw (length-set, length-set) k.lits_len;
      vars_len = rw length-set k.vars_len;
      room = rw length-set (omega (arith, k.room, counted));
      named = rw (length-set, entries-push) (All-push (λ (e : Entry). InVars (length values) e.lit) (entries_of origins lits count) new k.named there);
      once = rw entries-push (HaveOnce-push (entries_of origins lits count) new k.once free);
      agree = rw entries-push (AreValues-push (entries_of origins lits count) values new k.agree there);
      rises = rw entries-push (Rises-push 0 (entries_of origins lits count) level new o.level k.rises opens refl);
      seen_in = omega (arith, k.seen_in);
    }

    pub view-push : course_of (set values (lit.var - 1) (Some lit.positive)) (set origins (lit.var - 1) o) (set lits count lit) (count + 1) o.level seen ≡ extended t o.level (record { lit = lit; level = o.level; reason = o.reason })
    view-push =
        let P : Course → Type 0 = λ u. course_of (set values (lit.var - 1) (Some lit.positive)) (set origins (lit.var - 1) o) (set lits count lit) (count + 1) o.level seen ≡ extended u o.level (record { lit = lit; level = o.level; reason = o.reason }) in
        subst P is
        (ap (λ (n : ℕ). record { vars = n; level = o.level; seen = seen; entries = entries_of (set origins (lit.var - 1) o) (set lits count lit) (count + 1) }) (length-set values (lit.var - 1) (Some lit.positive))
        ∙ ap (λ (es : List Entry). record { vars = length values; level = o.level; seen = seen; entries = es }) entries-push)

pub lits-entries : (origins : List Origin) (ls : List Lit) → map (λ (e : Entry). e.lit) (map (entry_of origins) ls) ≡ ls
lits-entries origins [] = refl
lits-entries origins (l ∷ ls) = ap (λ (xs : List Lit). l ∷ xs) (lits-entries origins ls)

-- what is read at the variable of an entry
pub origin-read : (origins : List Origin) (ls : List Lit) (n : ℕ) → All (λ (e : Entry). InVars n e.lit) (map (entry_of origins) ls) → length origins ≡ n → (v : ℕ) (x : Origin) → x ≡ get_or origins (v - 1) x → (e : Entry) → Contains (map (entry_of origins) ls) e → e.lit.var ≡ v → (x.level ≡ e.level) × (x.reason ≡ e.reason)
origin-read origins ls n named len v x read e has is =
    let there : InVars n e.lit = All-contains (λ (e : Entry). InVars n e.lit) (map (entry_of origins) ls) e named has in
    let lt : v - 1 < length origins = omega (arith, is, there.0, there.1, len) in
    let at : x ≡ get_or origins (e.lit.var - 1) no_origin = read ∙ get_or_default origins (v - 1) x no_origin lt ∙ ap (λ (k : ℕ). get_or origins (k - 1) no_origin) (sym is) in
    let found = Contains-from_map (entry_of origins) ls e has in
    let P : Entry → Type 0 = λ f. x ≡ get_or origins (f.lit.var - 1) no_origin → (x.level ≡ f.level) × (x.reason ≡ f.reason) in
    subst P found.2 (λ q. (ap (λ (o : Origin). o.level) q, ap (λ (o : Origin). o.reason) q)) at

pub entries-short : (values : List (Option Bool)) (origins : List Origin) (lits : List Lit) (count level seen : ℕ) → IsKept values origins lits count level seen → length (entries_of origins lits count) ≤ length values
entries-short values origins lits count level seen k = omega (arith, length-entries origins lits count, k.room)
