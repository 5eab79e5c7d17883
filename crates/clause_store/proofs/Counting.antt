-- New clauses all differ, so that there are few of them over few variables.
use Rattle.std.proofs.Common.{◌≡◌, ◌≢◌, ℕ, zero, suc, ◌+◌, ◌*◌, ◌^◌, ◌<◌, ◌≤◌, Bool, true, false, true≢false, ◌||◌, eqb, inl, inr, List, [], ◌∷◌, ◌++◌, length, map, Contains, Some, slice_get, refl, sym, ◌∙◌, ap, subst, arith}
use Rattle.std.specs.List.{All, AllByRecursion, IsDistinct, list_any}
use Rattle.std.proofs.Math.Nat.{pow-suc}
use Rattle.std.proofs.lemmas.Bool.{ne_eqb, cases_eq}
use Rattle.std.proofs.lemmas.List.{length-map}
use Rattle.std.proofs.lemmas.List.Elements.{All-contains, All-head, All-tail, Contains-append_left, Contains-append_right}
use Rattle.std.proofs.lemmas.Map.Steps.{length-le_from_distinct_below}
use Rattle.clause_store.specs.declared.Lit.{Lit}
use Rattle.clause_store.specs.Clauses.{InVars, lit_eq}
use Rattle.clause_store.specs.Derivations.{EachIsNew}
use Rattle.clause_store.proofs.GeneralLists.{Contains-head, Contains-head_is, Contains-tail, Contains-nil, Contains-cons_cases}
use Rattle.clause_store.proofs.GeneralLiterals.{lit_cases, same_lit}
use Rattle.clause_store.proofs.LeastSet.{new-no_subset}

-- no clause that is added later has all literals of one that is given
none_within : (given added : List (List Lit)) → EachIsNew given added → (c d : List Lit) → Contains given c → Contains added d
    → ((l : Lit) → Contains c l → Contains d l) → ⊥
none_within given [] h c d here there within = Contains-nil d there
none_within given (a ∷ bs) h c d here there within = elim (Contains-cons_cases a bs d there) [
  | inl same ↦ new-no_subset given a c h.0 here (λ l hl. subst (λ (x : List Lit). Contains x l) (sym same) (within l hl))
  | inr later ↦ none_within (given ++ a ∷ []) bs h.1 c d (Contains-append_left given (a ∷ []) c here) later within
]

-- nor one of those that are added earlier
pub new-differ : (given added : List (List Lit)) → EachIsNew given added → (i j : ℕ) (earlier later : List Lit) → i < j → slice_get added i ≡ Some earlier
    → slice_get added j ≡ Some later → ((l : Lit) → Contains earlier l → Contains later l) → ⊥
new-differ given [] h i j earlier later below at there within = cc at
new-differ given (a ∷ bs) h i zero earlier later below at there within = omega arith
new-differ given (a ∷ bs) h zero (suc j) earlier later below at there within =
    let same : a ≡ earlier = cc at in
    none_within (given ++ a ∷ []) bs h.1 earlier later (Contains-append_right given (a ∷ []) earlier (Contains-head_is a [] earlier same)) (found bs j later there) within
  where
    found : (xs : List (List Lit)) (k : ℕ) (x : List Lit) → slice_get xs k ≡ Some x → Contains xs x
    found [] k x e = cc e
    found (y ∷ ys) zero x e = Contains-head_is y ys x (cc e)
    found (y ∷ ys) (suc k) x e = Contains-tail y ys x (found ys k x e)
new-differ given (a ∷ bs) h (suc i) (suc j) earlier later below at there within =
    new-differ (given ++ a ∷ []) bs h.1 i j earlier later (omega arith) at there within

-- whether the clause has the literal
has : List Lit → Lit → Bool
has clause l = list_any (λ m. lit_eq m l) clause

has-contained : (clause : List Lit) (l : Lit) → Contains clause l → has clause l ≡ true
unfolding has
has-contained [] l h = absurd (Contains-nil l h)
has-contained (x ∷ xs) l h = elim (Contains-cons_cases x xs l h) [
  | inl same ↦ elim (lit_cases x l) [
    | inl told ↦ ap (λ (t : Bool). t || list_any (λ m. lit_eq m l) xs) told.1
    | inr apart ↦ absurd (apart.0 same)
  ]
  | inr later ↦ or_right (lit_eq x l) (has xs l) (has-contained xs l later)
]
  where
    or_right : (a b : Bool) → b ≡ true → a || b ≡ true
    or_right true b e = refl
    or_right false b e = e

contained-has : (clause : List Lit) (l : Lit) → has clause l ≡ true → Contains clause l
unfolding has
contained-has [] l h = absurd (true≢false (sym h))
contained-has (x ∷ xs) l h = elim (lit_cases x l) [
  | inl same ↦ Contains-head_is x xs l same.0
  | inr apart ↦ Contains-tail x xs l (contained-has xs l (ap (λ (t : Bool). t || has xs l) (sym apart.1) ∙ h))
]

bit : Bool → ℕ
bit true = 1
bit false = 0

bit-same : (p q : Bool) → bit p ≡ bit q → p ≡ q
unfolding bit
bit-same true true e = refl
bit-same true false e = absurd (omega arith)
bit-same false true e = absurd (omega arith)
bit-same false false e = refl

bits-same : (p q r s : Bool) → bit p + 2 * bit q ≡ bit r + 2 * bit s → (p ≡ r) × (q ≡ s)
unfolding bit
bits-same true q true s e = (refl, bit-same q s (omega arith))
bits-same true q false s e = absurd (omega arith)
bits-same false q true s e = absurd (omega arith)
bits-same false q false s e = (refl, bit-same q s (omega arith))

bits-small : (p q : Bool) → bit p + 2 * bit q < 4
unfolding bit
bits-small true true = omega arith
bits-small true false = omega arith
bits-small false true = omega arith
bits-small false false = omega arith

plus : ℕ → Lit
plus v = record { var = v; positive = true }

minus : ℕ → Lit
minus v = record { var = v; positive = false }

-- a clause as a number: for each variable a digit of base 4, which tells whether it has it and its negation
digit : List Lit → ℕ → ℕ
digit clause v = bit (has clause (plus v)) + 2 * bit (has clause (minus v))

number : List Lit → ℕ → ℕ
number clause zero = 0
number clause (suc v) = 4 * number clause v + digit clause (suc v)

number-small : (clause : List Lit) (v : ℕ) → number clause v < 4 ^ v
unfolding number digit
number-small clause zero = omega arith
number-small clause (suc v) =
    let less = number-small clause v in
    let last = bits-small (has clause (plus (suc v))) (has clause (minus (suc v))) in
    let power = pow-suc 4 v in
    omega (arith, less, last, power)

number-same : (c d : List Lit) (v : ℕ) → number c v ≡ number d v → (l : Lit) → 1 ≤ l.var → l.var ≤ v → has c l ≡ has d l
unfolding number digit plus minus
number-same c d zero e l low high = absurd (omega arith)
number-same c d (suc v) e l low high =
    let one = bits-small (has c (plus (suc v))) (has c (minus (suc v))) in
    let two = bits-small (has d (plus (suc v))) (has d (minus (suc v))) in
    let rest : number c v ≡ number d v = omega (arith, one, two, e) in
    let last = bits-same (has c (plus (suc v))) (has c (minus (suc v))) (has d (plus (suc v))) (has d (minus (suc v))) (omega (arith, one, two, e)) in
    elim (cases_eq l.var (suc v)) [
      | inr below ↦ number-same c d v rest l low (omega arith)
      | inl same ↦ at l.positive refl same last
    ]
  where
    at : (b : Bool) → l.positive ≡ b → l.var ≡ suc v → (has c (plus (suc v)) ≡ has d (plus (suc v))) × (has c (minus (suc v)) ≡ has d (minus (suc v)))
        → has c l ≡ has d l
    at true is var last = let same : l ≡ plus (suc v) = same_lit l (plus (suc v)) var is in ap (has c) same ∙ last.0 ∙ ap (has d) (sym same)
    at false is var last = let same : l ≡ minus (suc v) = same_lit l (minus (suc v)) var is in ap (has c) same ∙ last.1 ∙ ap (has d) (sym same)

-- clauses of one number have the same literals
number-within : (vars : ℕ) (c d : List Lit) → All (InVars vars) c → number c vars ≡ number d vars → (l : Lit) → Contains c l → Contains d l
number-within vars c d named e l h =
    let in_vars = All-contains (InVars vars) c l named h in
    contained-has d l (sym (number-same c d vars e l in_vars.0 in_vars.1) ∙ has-contained c l h)

number-nil : (v : ℕ) → number [] v ≡ 0
unfolding number digit has bit
number-nil zero = refl
number-nil (suc v) = let less = number-nil v in omega (arith, less)

number-some : (vars : ℕ) (c : List Lit) → All (InVars vars) c → c ≢ [] → number c vars ≢ 0
number-some vars [] named some e = some refl
number-some vars (x ∷ xs) named some e =
    Contains-nil x (number-within vars (x ∷ xs) [] named (e ∙ sym (number-nil vars)) x (Contains-head x xs))

abbrev numbers : ℕ → List (List Lit) → List ℕ
numbers vars clauses = map (λ c. number c vars) clauses

-- the number of a clause is none of those of clauses that don't have all its literals
apart_from : (vars : ℕ) (c : List Lit) (ds : List (List Lit)) → All (InVars vars) c → ((d : List Lit) → Contains ds d → ((l : Lit) → Contains c l → Contains d l) → ⊥)
    → AllByRecursion (λ y. eqb (number c vars) y ≡ false) (numbers vars ds)
apart_from vars c [] named none = tt
apart_from vars c (d ∷ ds) named none = (
  ne_eqb (number c vars) (number d vars) (λ e. none d (Contains-head d ds) (number-within vars c d named e)),
  apart_from vars c ds named (λ x hx. none x (Contains-tail d ds x hx)),
)

numbers-distinct : (vars : ℕ) (given added : List (List Lit)) → EachIsNew given added → All (All (InVars vars)) added → IsDistinct eqb (numbers vars added)
unfolding IsDistinct
numbers-distinct vars given [] new named = tt
numbers-distinct vars given (c ∷ cs) new named = (
  apart_from vars c cs (All-head (All (InVars vars)) c cs named)
      (λ d hd. none_within (given ++ c ∷ []) cs new.1 c d (Contains-append_right given (c ∷ []) c (Contains-head c [])) hd),
  numbers-distinct vars (given ++ c ∷ []) cs new.1 (All-tail (All (InVars vars)) c cs named),
)

zero_apart : (vars : ℕ) (cs : List (List Lit)) → All (All (InVars vars)) cs → (Contains cs [] → ⊥) → AllByRecursion (λ y. eqb 0 y ≡ false) (numbers vars cs)
zero_apart vars [] named some = tt
zero_apart vars (c ∷ cs) named some = (
  ne_eqb 0 (number c vars) (λ e. number-some vars c (All-head (All (InVars vars)) c cs named) (λ none. some (Contains-head_is c cs [] none)) (sym e)),
  zero_apart vars cs (All-tail (All (InVars vars)) c cs named) (λ h. some (Contains-tail c cs [] h)),
)

number_below : (vars : ℕ) (cs : List (List Lit)) (q : ℕ) → list_any (eqb q) (0 ∷ numbers vars cs) ≡ true → q < 4 ^ vars
number_below vars cs q e = elim (cases_eq q 0) [
  | inl none ↦ let some = number-small [] vars in omega (arith, some)
  | inr some ↦ later cs (ap (λ (t : Bool). t || list_any (eqb q) (numbers vars cs)) (sym (ne_eqb q 0 some)) ∙ e)
]
  where
    later : (ds : List (List Lit)) → list_any (eqb q) (numbers vars ds) ≡ true → q < 4 ^ vars
    later [] h = absurd (true≢false (sym h))
    later (d ∷ ds) h = elim (cases_eq q (number d vars)) [
      | inl same ↦ let small = number-small d vars in omega (arith, small, same)
      | inr other ↦ later ds (ap (λ (t : Bool). t || list_any (eqb q) (numbers vars ds)) (sym (ne_eqb q (number d vars) other)) ∙ h)
    ]

-- there are fewer new clauses, none of them empty, than sets of literals
pub new-few : (vars : ℕ) (given added : List (List Lit)) → EachIsNew given added → All (All (InVars vars)) added → (Contains added [] → ⊥) → length added < 4 ^ vars
unfolding IsDistinct
new-few vars given added new named some =
    let all = length-le_from_distinct_below (0 ∷ numbers vars added) (4 ^ vars)
    (zero_apart vars added named some, numbers-distinct vars given added new named) (number_below vars added) in
    let long = length-map added (λ (c : List Lit). number c vars) in
    omega (arith, all, long)
