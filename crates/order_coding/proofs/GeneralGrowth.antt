-- General: how a store grows by a loop over numbers.
use Rattle.std.proofs.Common.{◌≡◌, ℕ, zero, suc, ◌+◌, ◌-◌, ◌<◌, ◌≤◌, List, [], ◌∷◌, ◌++◌, length, map, take, drop, get_or, refl, sym, ◌∙◌, ap, arith, append_assoc}
use Rattle.std.specs.List.{flat_map, range_with_len}
use Rattle.std.proofs.lemmas.List.{take_more, take-append-drop}
use Rattle.std.proofs.lemmas.List.Concat.{flat_map-cons}
use Rattle.std.proofs.lemmas.Grind.{flat_map-append}
use Rattle.clause_store.specs.declared.Lit.{Lit}
use Rattle.clause_store.specs.Clauses.{Formula}
use Rattle.order_coding.specs.Growth.{IsBeginning}
use Rattle.order_coding.specs.Growth.{joined}
use Rattle.order_coding.proofs.GeneralLists.{range_more}

pub append-nil : {A : Type 0} (xs : List A) → xs ++ [] ≡ xs
append-nil [] = refl
append-nil (x ∷ xs) = ap (λ ys. x ∷ ys) (append-nil xs)

pub joined-nil : (formula : Formula) → formula ≡ joined formula []
joined-nil formula = ap (λ cs. record formula { clauses = cs }) (sym (append-nil formula.clauses))

pub joined-joined :
    (formula : Formula) (xs ys : List (List Lit)) → joined (joined formula xs) ys ≡ joined formula (xs ++ ys)
joined-joined formula xs ys = ap (λ cs. record formula { clauses = cs }) (append_assoc formula.clauses xs ys)

-- a beginning of what stands before more is one of the whole
pub beginning-more :
    (formula old : Formula) (xs ys : List (List Lit)) → IsBeginning formula (joined old xs)
    → IsBeginning formula (joined old (xs ++ ys))
beginning-more formula old xs ys b = record {
  vars = b.vars;
  rest = b.rest ++ ys;
  clauses =
      sym (append_assoc old.clauses xs ys) ∙ ap (λ cs. cs ++ ys) b.clauses ∙ append_assoc formula.clauses b.rest ys;
}

pub beginning-joined :
    (formula whole : Formula) (more : List (List Lit)) → IsBeginning formula whole
    → IsBeginning formula (joined whole more)
beginning-joined formula whole more b = record {
  vars = b.vars;
  rest = b.rest ++ more;
  clauses = ap (λ cs. cs ++ more) b.clauses ∙ append_assoc formula.clauses b.rest more;
}

pub beginning-same :
    (formula whole whole' : Formula) → whole ≡ whole' → IsBeginning formula whole → IsBeginning formula whole'
beginning-same formula whole whole' e b = rw (← e) b

module _ (f : ℕ → List (List Lit)) (low : ℕ) where
  one-more :
      (n : ℕ) → flat_map f (range_with_len low (n + 1)) ≡ flat_map f (range_with_len low n) ++ f (low + n)
  one-more n =
      ap (flat_map f) (range_more low n) ∙ flat_map-append f (range_with_len low n) ((low + n) ∷ [])
      ∙ ap (λ cs. flat_map f (range_with_len low n) ++ cs) (append-nil (f (low + n)))

  -- before the loop nothing is written
  pub grown-none : (old : Formula) → old ≡ joined old (flat_map f (range_with_len low (low - low)))
  grown-none old =
      let e : low - low ≡ 0 = omega arith in
      joined-nil old ∙ ap (λ k. joined old (flat_map f (range_with_len low k))) (sym e)

  -- a step writes what is due at k
  pub grown-more :
      (k : ℕ) (old mid new : Formula) → low ≤ k → mid ≡ joined old (flat_map f (range_with_len low (k - low)))
      → new ≡ joined mid (f k) → new ≡ joined old (flat_map f (range_with_len low (k + 1 - low)))
  grown-more k old mid new l em en =
      let e : k + 1 - low ≡ k - low + 1 = omega arith in
      let at : low + (k - low) ≡ k = omega arith in
      en ∙ ap (λ g. joined g (f k)) em ∙ joined-joined old (flat_map f (range_with_len low (k - low))) (f k)
      ∙ ap (joined old)
      (ap (λ i. flat_map f (range_with_len low (k - low)) ++ f i) (sym at) ∙ sym (one-more (k - low))
      ∙ ap (λ i. flat_map f (range_with_len low i)) (sym e))

  -- after the loop all is written
  pub grown-all :
      (n k : ℕ) (old mid : Formula) → k ≡ low + n → mid ≡ joined old (flat_map f (range_with_len low (k - low)))
      → mid ≡ joined old (flat_map f (range_with_len low n))
  grown-all n k old mid e em =
      let d : k - low ≡ n = omega arith in em ∙ ap (λ i. joined old (flat_map f (range_with_len low i))) d

  -- what is written up to somewhere is a beginning of what is written later
  later :
      (m d : ℕ) (formula old : Formula) → IsBeginning formula (joined old (flat_map f (range_with_len low m)))
      → IsBeginning formula (joined old (flat_map f (range_with_len low (m + d))))
  later m d formula old b = go d
    where
      go : (d : ℕ) → IsBeginning formula (joined old (flat_map f (range_with_len low (m + d))))
      go zero = let e : m + 0 ≡ m = omega arith in rw e b
      go (suc d) =
          let e : m + suc d ≡ m + d + 1 = omega arith in
          rw (e, one-more (m + d)) (beginning-more formula old (flat_map f (range_with_len low (m + d))) (f (low + (m + d))) (go d))

  -- an error within a step leaves a beginning of the whole
  pub grown-part :
      (n k : ℕ) (old mid new : Formula) → low ≤ k → k < low + n
      → mid ≡ joined old (flat_map f (range_with_len low (k - low))) → IsBeginning new (joined mid (f k))
      → IsBeginning new (joined old (flat_map f (range_with_len low n)))
  grown-part n k old mid new l h em b =
      let m : ℕ = k + 1 - low in
      let rest : m + (n - m) ≡ n = omega arith in
      let here : joined mid (f k) ≡ joined old (flat_map f (range_with_len low m)) = grown-more k old mid (joined mid (f k)) l em refl in
      rw (← rest) (later m (n - m) new old (beginning-same new (joined mid (f k)) (joined old (flat_map f (range_with_len low m))) here b))

-- nothing of the whole is written yet
pub beginning-none : (old : Formula) (all : List (List Lit)) → IsBeginning old (joined old all)
beginning-none old all = record { vars = refl; rest = all; clauses = refl }

-- what stands behind clauses that are written
pub beginning-after :
    (formula old mid : Formula) (xs ys : List (List Lit)) → mid ≡ joined old xs → IsBeginning formula (joined mid ys)
    → IsBeginning formula (joined old (xs ++ ys))
beginning-after formula old mid xs ys e b =
    beginning-same formula (joined mid ys) (joined old (xs ++ ys)) (ap (λ g. joined g ys) e ∙ joined-joined old xs ys) b

-- the same for a loop over a list
module _ {A : Type 0} (f : A → List (List Lit)) (xs : List A) where
  pub items-more :
      (i : ℕ) (d : A) (old mid new : Formula) → i < length xs → mid ≡ joined old (flat_map f (take i xs))
      → new ≡ joined mid (f (get_or xs i d)) → new ≡ joined old (flat_map f (take (i + 1) xs))
  items-more i d old mid new l em en =
      en ∙ ap (λ g. joined g (f (get_or xs i d))) em ∙ joined-joined old (flat_map f (take i xs)) (f (get_or xs i d))
      ∙ ap (joined old)
      (ap (λ cs. flat_map f (take i xs) ++ cs) (sym (append-nil (f (get_or xs i d))))
      ∙ sym (flat_map-append f (take i xs) (get_or xs i d ∷ [])) ∙ ap (flat_map f) (sym (take_more xs i d l)))

  pub items-part :
      (i : ℕ) (d : A) (old mid new : Formula) → i < length xs → mid ≡ joined old (flat_map f (take i xs))
      → IsBeginning new (joined mid (f (get_or xs i d))) → IsBeginning new (joined old (flat_map f xs))
  items-part i d old mid new l em b =
      let here : joined mid (f (get_or xs i d)) ≡ joined old (flat_map f (take (i + 1) xs)) = items-more i d old mid (joined mid (f (get_or xs i d))) l em refl in
      let all : flat_map f (take (i + 1) xs) ++ flat_map f (drop (i + 1) xs) ≡ flat_map f xs =
      sym (flat_map-append f (take (i + 1) xs) (drop (i + 1) xs)) ∙ ap (flat_map f) (take-append-drop (i + 1) xs) in
      beginning-same new (joined old (flat_map f (take (i + 1) xs) ++ flat_map f (drop (i + 1) xs))) (joined old (flat_map f xs)) (ap (joined old) all)
      (beginning-more new old (flat_map f (take (i + 1) xs)) (flat_map f (drop (i + 1) xs))
      (beginning-same new (joined mid (f (get_or xs i d))) (joined old (flat_map f (take (i + 1) xs))) here b))

-- one clause for each item
pub flat-one : {A : Type 0} (g : A → List Lit) (xs : List A) → flat_map (λ x. g x ∷ []) xs ≡ map g xs
flat-one g [] = refl
flat-one g (x ∷ xs) = flat_map-cons (λ y. g y ∷ []) x xs ∙ ap (λ cs. g x ∷ cs) (flat-one g xs)
