-- The clauses of kept pairs, row by row.
use Rattle.std.proofs.Common.{◌≡◌, ℕ, ◌<◌, ◌≤◌, ◌⊎◌, inl, inr, List, [], ◌∷◌, ◌++◌, map, filter, eqb, cond, Contains, Bool, true, false, ◌&&◌, ◌||◌, if◌then◌else◌, refl, sym, ◌∙◌, ap, arith}
use Rattle.std.specs.Prelude.{◌↔◌}
use Rattle.std.specs.List.{flat_map}
use Rattle.std.proofs.lemmas.Bool.Decides.{nat_tests}
use Rattle.std.proofs.lemmas.List.{map-append}
use Rattle.std.proofs.lemmas.List.Concat.{flat_map-cons}
use Rattle.std.proofs.lemmas.List.Elements.{filter-append, All-contains}
use Rattle.std.proofs.lemmas.List.Folds.{Any-from_list_any}
use Rattle.clause_store.specs.declared.Lit.{Lit}
use Rattle.fer_events.specs.Orders.{numbers, AreForward}
use Rattle.fer_events.specs.Pairs.{PairList, has_pair, IsListed}
use Rattle.order_coding.specs.Variables.{before_lit}
use Rattle.order_coding.specs.Families.{kept_pairs}
use Rattle.order_coding.specs.Writing.{if_kept}
use Rattle.order_coding.proofs.GeneralLists.{All-from_contains}

-- a pair that is found in the list has what all have
pub found-forward : (n : ℕ) (pairs : List (ℕ × ℕ)) (a b : ℕ) → AreForward n pairs → has_pair pairs a b ≡ true → (1 ≤ a) × (a < b) × (b ≤ n)
found-forward n pairs a b all h =
    let found = Any-from_list_any (λ p. (eqb p.0 a) && (eqb p.1 b)) pairs h in
    let its = All-contains (λ p. (1 ≤ p.0) × (p.0 < p.1) × (p.1 ≤ n)) pairs found.1 all (found.0, found.2, found.3) in
    same-pair found.1.0 found.1.1 a b its.0 its.1 its.2 found.4
  where
    same-pair : (x y a b : ℕ) → 1 ≤ x → x < y → y ≤ n → (eqb x a && eqb y b) ≡ true → (1 ≤ a) × (a < b) × (b ≤ n)
    same-pair x y a b low l high e = (grind (arith, nat_tests), grind (arith, nat_tests), grind (arith, nat_tests))

or-cases : (p q r : Bool) → ((p && q) || r) ≡ true → ((p && q) ≡ true) ⊎ (r ≡ true)
or-cases true true r e = inl refl
or-cases true false r e = inr e
or-cases false q r e = inr e

-- a pair of a lesser and a greater number joins others of this kind
pub forward-set :
    (n : ℕ) (old new : List (ℕ × ℕ)) (a b : ℕ) → ((pairs : List (ℕ × ℕ)) (x y : ℕ) → (has_pair pairs x y ≡ true) ↔ Contains pairs (x, y))
    → (1 ≤ a) × (a < b) × (b ≤ n) → AreForward n old
    → ((x y : ℕ) → has_pair new x y ≡ ((eqb a x && eqb b y) || has_pair old x y)) → AreForward n new
forward-set n old new a b found l all is =
    All-from_contains (λ p. (1 ≤ p.0) × (p.0 < p.1) × (p.1 ≤ n)) new
    (λ q h. elim (or-cases (eqb a q.0) (eqb b q.1) (has_pair old q.0 q.1) (sym (is q.0 q.1) ∙ (found new q.0 q.1).1 h)) [
      | inl own ↦ same-pair a b q.0 q.1 l.0 l.1 l.2 own
      | inr other ↦ found-forward n old q.0 q.1 all other
    ])
  where
    same-pair : (a b x y : ℕ) → 1 ≤ a → a < b → b ≤ n → (eqb a x && eqb b y) ≡ true → (1 ≤ x) × (x < y) × (y ≤ n)
    same-pair a b x y low l high e = (grind (arith, nat_tests), grind (arith, nat_tests), grind (arith, nat_tests))

module _ (one : ℕ × ℕ → List Lit) (has : ℕ → ℕ → Bool) where
  abbrev chosen : ℕ → ℕ → List (List Lit)
  chosen x y = if has x y then one (x, y) ∷ [] else []

  row-is :
      (x : ℕ) (ys : List ℕ)
      → flat_map (chosen x) ys ≡ map one (filter (λ q. has q.0 q.1) (map (λ b. (x, b)) ys))
  row-is x [] = refl
  row-is x (y ∷ ys) =
      flat_map-cons (chosen x) y ys ∙ ap (λ cs. chosen x y ++ cs) (row-is x ys)
      ∙ step (has x y) (filter (λ q. has q.0 q.1) (map (λ b. (x, b)) ys))
    where
      step :
          (b : Bool) (rest : List (ℕ × ℕ))
          → (if b then one (x, y) ∷ [] else []) ++ map one rest ≡ map one (cond b ((x, y) ∷ rest) rest)
      step true rest = refl
      step false rest = refl

  rows-are :
      (xs ys : List ℕ)
      → flat_map (λ x. flat_map (chosen x) ys) xs ≡ map one (filter (λ q. has q.0 q.1) (flat_map (λ a. map (λ b. (a, b)) ys) xs))
  rows-are [] ys = refl
  rows-are (x ∷ xs) ys =
      flat_map-cons (λ x. flat_map (chosen x) ys) x xs
      ∙ ap (λ cs. cs ++ flat_map (λ x. flat_map (chosen x) ys) xs) (row-is x ys)
      ∙ ap (λ cs. map one (filter (λ q. has q.0 q.1) (map (λ b. (x, b)) ys)) ++ cs) (rows-are xs ys)
      ∙ sym (map-append one (filter (λ q. has q.0 q.1) (map (λ b. (x, b)) ys)) (filter (λ q. has q.0 q.1) (flat_map (λ a. map (λ b. (a, b)) ys) xs)))
      ∙ ap (map one) (sym (filter-append (λ q. has q.0 q.1) (map (λ b. (x, b)) ys) (flat_map (λ a. map (λ b. (a, b)) ys) xs)))
      ∙ ap (λ qs. map one (filter (λ q. has q.0 q.1) qs)) (sym (flat_map-cons (λ a. map (λ b. (a, b)) ys) x xs))

-- row by row, the clauses are those of the list
pub kept-rows :
    (p : PairList) → IsListed p
    → flat_map (λ x. flat_map (λ y. if_kept p.n p.pairs x y) (numbers p.n)) (numbers p.n) ≡ kept_pairs p.n p.pairs
kept-rows p listed =
    rows-are (λ q. before_lit p.n q.0 q.1 ∷ []) (has_pair p.pairs) (numbers p.n) (numbers p.n)
    ∙ ap (map (λ q. before_lit p.n q.0 q.1 ∷ [])) (sym listed)
