-- Starts as unit clauses, sets in which clauses are safe, and longer values.
use Rattle.std.proofs.Common.{◌≡◌, ◌-◌, ◌<◌, inl, inr, List, [], ◌∷◌, ◌++◌, length, Bool, true, false, not, if◌then◌else◌, Contains, refl, sym, ◌∙◌, ap, subst, arith}
use Rattle.std.specs.List.{All}
use Rattle.std.proofs.Math.ListN.{get_or-append}
use Rattle.std.proofs.lemmas.List.Elements.{All-nil, All-cons, All-head, All-tail, All-contains, Contains-append_left, Contains-append_right, Contains-append_cases}
use Rattle.clause_store.specs.declared.Lit.{Lit}
use Rattle.clause_store.specs.Clauses.{InVars, negated}
use Rattle.clause_store.specs.Propagation.{IsImplied, Conflicts, Follows, IsClosedAt, IsOpenAt, IsClosed, HasNoConflict, IsConsistent, IsSafeAt, units}
use Rattle.clause_store.specs.Propagation.IsImplied.{assumed, forced}
use Rattle.clause_store.specs.Truth.{is_true, MakesTrue, MakesAllTrue}
use Rattle.clause_store.proofs.GeneralLists.{Contains-nil, Contains-head, Contains-cons_cases, Contains-map, Contains-from_map}
use Rattle.clause_store.proofs.GeneralLiterals.{lit_cases, negated-negated}

-- a unit clause's literal is its only one
only_one : (l m : Lit) → Contains (l ∷ []) m → l ≡ m
only_one l m h = elim (Contains-cons_cases l [] m h) [ inl same ↦ same | inr later ↦ absurd (Contains-nil m later) ]

-- what is implied from a start is implied from its unit clauses
units-implied : (clauses : List (List Lit)) (start : List Lit) (l : Lit) → IsImplied clauses start l → IsImplied (clauses ++ units start) [] l
units-implied clauses start l (assumed _ h) =
    forced (l ∷ []) l (Contains-append_right clauses (units start) (l ∷ []) (Contains-map (λ (x : Lit). x ∷ []) start l h)) (Contains-head l [])
    (λ m hm other. absurd (other (sym (only_one l m hm))))
units-implied clauses start l (forced c _ hc hl rest) =
    forced c l (Contains-append_left clauses (units start) c hc) hl (λ m hm other. units-implied clauses start (negated m) (rest m hm other))

pub units-conflict : (clauses : List (List Lit)) (start : List Lit) → Conflicts clauses start → Follows (clauses ++ units start) []
units-conflict clauses start found =
    (found.0, Contains-append_left clauses (units start) found.0 found.1, λ m hm. units-implied clauses start (negated m) (found.2 m hm))

-- and back
implied-units : (clauses : List (List Lit)) (start : List Lit) (l : Lit) → IsImplied (clauses ++ units start) [] l → IsImplied clauses start l
implied-units clauses start l (assumed _ h) = absurd (Contains-nil l h)
implied-units clauses start l (forced c _ hc hl rest) = elim (Contains-append_cases clauses (units start) c hc) [
  | inl front ↦ forced c l front hl (λ m hm other. implied-units clauses start (negated m) (rest m hm other))
  | inr back ↦
      let found = Contains-from_map (λ (x : Lit). x ∷ []) start c back in
      let same : found.0 ≡ l = only_one found.0 l (subst (λ (x : List Lit). Contains x l) (sym found.2) hl) in
      assumed l (subst (λ (x : Lit). Contains start x) same found.1)
]

-- a literal of the start whose negation is implied makes a conflict, unless that is in the start too
denied : (clauses : List (List Lit)) (start : List Lit) (m n : Lit) → n ≡ negated m → Contains start m → (Contains start n → ⊥) → IsImplied clauses start n → Conflicts clauses start
denied clauses start m n is here apart (assumed _ h) = absurd (apart h)
denied clauses start m n is here apart (forced c _ hc hl rest) = (
  c,
  hc,
  λ k hk. elim (lit_cases k n) [
    | inl same ↦ let e : m ≡ negated k = sym (negated-negated m) ∙ ap negated (sym is) ∙ ap negated (sym same.0) in
        subst (λ (x : Lit). IsImplied clauses start x) e (assumed m here)
    | inr other ↦ rest k hk other.0
  ],
)

pub conflict-units : (clauses : List (List Lit)) (start : List Lit) → ((l : Lit) → Contains start l → Contains start (negated l) → ⊥)
    → Follows (clauses ++ units start) [] → Conflicts clauses start
conflict-units clauses start apart found = elim (Contains-append_cases clauses (units start) found.0 found.1) [
  | inl front ↦ (found.0, front, λ m hm. implied-units clauses start (negated m) (found.2 m hm))
  | inr back ↦
      let unit = Contains-from_map (λ (x : Lit). x ∷ []) start found.0 back in
      let its : Contains found.0 unit.0 = subst (λ (x : List Lit). Contains x unit.0) unit.2 (Contains-head unit.0 []) in
      denied clauses start unit.0 (negated unit.0) refl unit.1 (apart unit.0 unit.1) (implied-units clauses start (negated unit.0) (found.2 unit.0 its))
]

both_ways : (set : Lit → Bool) (l : Lit) → set (negated l) ≡ true → set (negated l) ≡ false → ⊥
both_ways set l e f = let bad : true ≡ false = sym e ∙ f in cc bad

-- in a safe clause nothing is left to conclude, and it is not false
pub safe-closed : (clause : List Lit) (set : Lit → Bool) → IsConsistent set → IsSafeAt clause set → IsClosedAt clause set × IsOpenAt clause set
safe-closed clause set apart (inl (w, hw, is)) = (
  λ l hl rest. elim (lit_cases w l) [
    | inl same ↦ ap set (sym same.0) ∙ is
    | inr other ↦ absurd (both_ways set w (rest w hw other.0) (apart w is))
  ],
  (w, hw, apart w is),
)
safe-closed clause set apart (inr (a, b, ha, hb, differ, free, more)) = (
  λ l hl rest. elim (lit_cases a l) [
    | inl same ↦ absurd (both_ways set b (rest b hb (λ e. differ (same.0 ∙ sym e))) more.1)
    | inr other ↦ absurd (both_ways set a (rest a ha other.0) free.1)
  ],
  (a, ha, free.1),
)

pub all_safe-closed : (clauses : List (List Lit)) (set : Lit → Bool) → IsConsistent set → ((c : List Lit) → Contains clauses c → IsSafeAt c set)
    → IsClosed clauses set × HasNoConflict clauses set
all_safe-closed clauses set apart safe = (λ c hc. (safe-closed c set apart (safe c hc)).0, λ c hc. (safe-closed c set apart (safe c hc)).1)

-- values of further variables
pub longer-literal : (values more : List Bool) (l : Lit) → InVars (length values) l → is_true (values ++ more) l ≡ is_true values l
longer-literal values more l named =
    let below : l.var - 1 < length values = let low = named.0 in let high = named.1 in omega arith in
    ap (λ (v : Bool). if l.positive then v else not v) (get_or-append values more false (l.var - 1) below)

pub longer-clause : (values more : List Bool) (clause : List Lit) → All (InVars (length values)) clause
    → (MakesTrue (values ++ more) clause → MakesTrue values clause) × (MakesTrue values clause → MakesTrue (values ++ more) clause)
longer-clause values more clause named = (
  λ w. let same = longer-literal values more w.1 (All-contains (InVars (length values)) clause w.1 named (w.0, w.2, w.3)) in
      (w.0, w.1, w.2, w.3, sym same ∙ w.4),
  λ w. let same = longer-literal values more w.1 (All-contains (InVars (length values)) clause w.1 named (w.0, w.2, w.3)) in
      (w.0, w.1, w.2, w.3, same ∙ w.4),
)

pub longer-clauses : (values more : List Bool) (clauses : List (List Lit)) → All (All (InVars (length values))) clauses
    → (MakesAllTrue (values ++ more) clauses → MakesAllTrue values clauses) × (MakesAllTrue values clauses → MakesAllTrue (values ++ more) clauses)
longer-clauses values more [] named = (λ h. All-nil (MakesTrue values), λ h. All-nil (MakesTrue (values ++ more)))
longer-clauses values more (c ∷ cs) named =
    let here = longer-clause values more c (All-head (All (InVars (length values))) c cs named) in
    let later = longer-clauses values more cs (All-tail (All (InVars (length values))) c cs named) in (
      λ h. All-cons (MakesTrue values) c cs (here.0 (All-head (MakesTrue (values ++ more)) c cs h)) (later.0 (All-tail (MakesTrue (values ++ more)) c cs h)),
      λ h. All-cons (MakesTrue (values ++ more)) c cs (here.1 (All-head (MakesTrue values) c cs h)) (later.1 (All-tail (MakesTrue values) c cs h)),
    )
