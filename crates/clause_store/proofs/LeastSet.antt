-- Laws of the least set that unit propagation makes.
use Rattle.std.proofs.Common.{◌≡◌, ◌≢◌, ◌⊎◌, inl, inr, List, [], ◌∷◌, Bool, true, false, not, Contains, refl, ap, sym, ◌∙◌}
use Rattle.std.proofs.lemmas.List.Elements.{All-contains}
use Rattle.clause_store.specs.declared.Lit.{Lit}
use Rattle.clause_store.specs.Clauses.{negated}
use Rattle.clause_store.specs.Propagation.{IsImplied, Conflicts, negations, others, Follows, IsNew, HasAll, IsClosed, HasNoConflict}
use Rattle.clause_store.specs.Propagation.IsImplied.{assumed, forced}
use Rattle.clause_store.specs.Truth.{is_true, MakesTrue, MakesAllTrue}
use Rattle.clause_store.proofs.GeneralLists.{Contains-nil, Contains-cons_cases, Contains-head, Contains-tail}
use Rattle.clause_store.proofs.GeneralLiterals.{Contains-negations, Contains-from_negations, Contains-others, Contains-from_others, contains_or_not, negated-negated, is_true-negated}

-- the least set lies in each closed one
pub closed-implied :
    (clauses : List (List Lit)) (start : List Lit) (set : Lit → Bool) → HasAll set start → IsClosed clauses set
    → (l : Lit) → IsImplied clauses start l → set l ≡ true
closed-implied clauses start set has closed l (assumed _ h) = has l h
closed-implied clauses start set has closed l (forced c _ hc hl rest) =
    closed c hc l hl (λ m hm ne. closed-implied clauses start set has closed (negated m) (rest m hm ne))

pub closed-no_conflict :
    (clauses : List (List Lit)) (start : List Lit) (set : Lit → Bool) → HasAll set start → IsClosed clauses set
    → HasNoConflict clauses set → Conflicts clauses start → ⊥
closed-no_conflict clauses start set has closed free found =
    let l = free found.0 found.1 in
    let is : set (negated l.0) ≡ true = closed-implied clauses start set has closed (negated l.0) (found.2 l.0 l.1) in
    let bad : true ≡ false = sym is ∙ l.2 in cc

pub more-implied :
    (clauses more : List (List Lit)) (start larger : List Lit)
    → ((c : List Lit) → Contains clauses c → Contains more c) → ((l : Lit) → Contains start l → Contains larger l)
    → (l : Lit) → IsImplied clauses start l → IsImplied more larger l
more-implied clauses more start larger hc hs l (assumed _ h) = assumed l (hs l h)
more-implied clauses more start larger hc hs l (forced c _ h hl rest) =
    forced c l (hc c h) hl (λ m hm ne. more-implied clauses more start larger hc hs (negated m) (rest m hm ne))

pub more-conflicts :
    (clauses more : List (List Lit)) (start larger : List Lit)
    → ((c : List Lit) → Contains clauses c → Contains more c) → ((l : Lit) → Contains start l → Contains larger l)
    → Conflicts clauses start → Conflicts more larger
more-conflicts clauses more start larger hc hs found = (
  found.0,
  hc found.0 found.1,
  λ m hm. more-implied clauses more start larger hc hs (negated m) (found.2 m hm),
)

pub more-follows :
    (clauses more : List (List Lit)) (clause : List Lit) → ((c : List Lit) → Contains clauses c → Contains more c)
    → Follows clauses clause → Follows more clause
more-follows clauses more clause hc =
    more-conflicts clauses more (negations clause) (negations clause) hc (λ l h. h)

pub cut-implied :
    (clauses : List (List Lit)) (start larger : List Lit) → ((l : Lit) → Contains larger l → IsImplied clauses start l)
    → (l : Lit) → IsImplied clauses larger l → IsImplied clauses start l
cut-implied clauses start larger hs l (assumed _ h) = hs l h
cut-implied clauses start larger hs l (forced c _ h hl rest) =
    forced c l h hl (λ m hm ne. cut-implied clauses start larger hs (negated m) (rest m hm ne))

pub cut-conflicts :
    (clauses : List (List Lit)) (start larger : List Lit) → ((l : Lit) → Contains larger l → IsImplied clauses start l)
    → Conflicts clauses larger → Conflicts clauses start
cut-conflicts clauses start larger hs found =
    (found.0, found.1, λ m hm. cut-implied clauses start larger hs (negated m) (found.2 m hm))

-- where the literal w of a clause is true, and the negations of all but l are, l is
last-true : (values : List Bool) (w l : Lit) (b : Bool) → is_true values l ≡ b → is_true values w ≡ true → (w ≢ l → is_true values (negated w) ≡ true) → b ≡ true
last-true values w l true e h k = refl
last-true values w l false e h k =
    let ne : w ≢ l = λ same. let f : true ≡ false = sym h ∙ (ap (λ x. is_true values x) same ∙ e) in cc in
    let a : true ≡ not (is_true values w) = sym (k ne) ∙ is_true-negated values w in
    let b : true ≡ false = a ∙ ap not h in cc

-- the literals that are true are a closed set without a conflict
true-closed : (clauses : List (List Lit)) (values : List Bool) → MakesAllTrue values clauses → IsClosed clauses (is_true values)
true-closed clauses values all c hc l hl rest =
    let w = All-contains (MakesTrue values) clauses c all hc in
    last-true values w.1 l (is_true values l) refl w.4 (rest w.1 (w.0, w.2, w.3))

true-no_conflict : (clauses : List (List Lit)) (values : List Bool) → MakesAllTrue values clauses → HasNoConflict clauses (is_true values)
true-no_conflict clauses values all c hc =
    let w = All-contains (MakesTrue values) clauses c all hc in
    (w.1, (w.0, w.2, w.3), is_true-negated values w.1 ∙ ap not w.4)

pub true-implied :
    (clauses : List (List Lit)) (start : List Lit) (values : List Bool) → MakesAllTrue values clauses
    → HasAll (is_true values) start → (l : Lit) → IsImplied clauses start l → is_true values l ≡ true
true-implied clauses start values all has =
    closed-implied clauses start (is_true values) has (true-closed clauses values all)

pub true-conflict :
    (clauses : List (List Lit)) (start : List Lit) (values : List Bool) → MakesAllTrue values clauses
    → HasAll (is_true values) start → Conflicts clauses start → ⊥
true-conflict clauses start values all has =
    closed-no_conflict clauses start (is_true values) has (true-closed clauses values all) (true-no_conflict clauses values all)

bit_is : (b : Bool) → (b ≡ true) ⊎ (b ≡ false)
bit_is true = inl refl
bit_is false = inr refl

-- a clause is true or all its literals are false
pub true_or_false : (values : List Bool) (clause : List Lit) → MakesTrue values clause ⊎ ((l : Lit) → Contains clause l → is_true values l ≡ false)
true_or_false values [] = inr (λ l h. absurd (Contains-nil l h))
true_or_false values (x ∷ xs) = elim (bit_is (is_true values x)) [
  | inl e ↦ let here = Contains-head x xs in inl (here.0, x, here.1, here.2, e)
  | inr e ↦ elim (true_or_false values xs) [
    | inl w ↦ let there = Contains-tail x xs w.1 (w.0, w.2, w.3) in inl (there.0, w.1, there.1, there.2, w.4)
    | inr none ↦ inr (λ l h. elim (Contains-cons_cases x xs l h) [
      | inl same ↦ ap (is_true values) (sym same) ∙ e
      | inr later ↦ none l later
    ])
  ]
]

pub true-follows :
    (clauses : List (List Lit)) (clause : List Lit) (values : List Bool) → MakesAllTrue values clauses
    → Follows clauses clause → MakesTrue values clause
true-follows clauses clause values all follows = elim (true_or_false values clause) [
  | inl w ↦ w
  | inr none ↦
      let has : HasAll (is_true values) (negations clause) = λ l h.
      let out : is_true values (negated l) ≡ false = none (negated l) (Contains-from_negations clause l h) in
      ap (is_true values) (sym (negated-negated l)) ∙ is_true-negated values (negated l) ∙ ap not out in
      absurd (true-conflict clauses (negations clause) values all has follows)
]

pub true-refuted : (clauses : List (List Lit)) (values : List Bool) → Follows clauses [] → MakesAllTrue values clauses → ⊥
true-refuted clauses values follows all =
    let w = true-follows clauses [] values all follows in Contains-nil w.1 (w.0, w.2, w.3)

-- what a closed set without a conflict shows of a clause all of whose literals but one it has negated
pub new-closed :
    (clauses : List (List Lit)) (clause : List Lit) (l : Lit) (set : Lit → Bool) → Contains clause l → set l ≡ false
    → ((m : Lit) → Contains clause m → m ≢ l → set (negated m) ≡ true) → IsClosed clauses set → HasNoConflict clauses set
    → IsNew clauses clause
new-closed clauses clause l set hl out rest closed free =
    let start = negations (others l clause) in
    let has : HasAll set start = λ m h.
    let other = Contains-from_others clause l (negated m) (Contains-from_negations (others l clause) m h) in
    ap set (sym (negated-negated m)) ∙ rest (negated m) other.0 other.1 in (
      l,
      hl,
      λ implied. let bad : true ≡ false = sym (closed-implied clauses start set has closed l implied) ∙ out in cc,
      closed-no_conflict clauses start set has closed free,
    )

-- no clause of the list is a subset of a new one
pub new-no_subset :
    (clauses : List (List Lit)) (clause smaller : List Lit) → IsNew clauses clause → Contains clauses smaller
    → ((l : Lit) → Contains smaller l → Contains clause l) → ⊥
new-no_subset clauses clause smaller new hc within =
    let start = negations (others new.0 clause) in
    let out : (m : Lit) → Contains smaller m → m ≢ new.0 → IsImplied clauses start (negated m) =
    λ m hm ne. assumed (negated m) (Contains-negations (others new.0 clause) m (Contains-others clause new.0 m (within m hm) ne)) in
    elim (contains_or_not smaller new.0) [
      | inl here ↦ new.2 (forced smaller new.0 hc here out)
      | inr none ↦ new.3 (smaller, hc, λ m hm. out m hm (λ e. none (rw (← e) hm)))
    ]
