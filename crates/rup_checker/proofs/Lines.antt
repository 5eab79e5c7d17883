-- Where the lines of a log stand.
use Rattle.std.proofs.Common.{◌≡◌, ℕ, zero, suc, ◌+◌, ◌-◌, ◌<◌, ◌≤◌, inl, inr, List, [], ◌∷◌, ◌++◌, length, take, drop, map, slice_get, Option, Some, None, IfSome, Bool, true, false, nat_le, if◌then◌else◌, codes, refl, ap, sym, ◌∙◌, subst, arith}
use Rattle.clause_store.specs.declared.Lit.{Lit}
use Rattle.trail_core.proofs.GeneralTrails.{level-cases}
use Rattle.proof_log.specs.Logs.{Logged, IsLog}
use Rattle.proof_log.specs.LogText.{clause_line, opening_lines, asked_lines, closing_lines, log_lines}
use Rattle.rup_checker.specs.Accepting.{line_behind, line_of_clause}

get-map : {A B : Type 0} (f : A → B) (xs : List A) (n : ℕ) (x : A) → slice_get xs n ≡ Some x → slice_get (map f xs) n ≡ Some (f x)
get-map f [] n x at = cc
get-map f (y ∷ ys) zero x at = (let e : y ≡ x = cc in ap (λ z. Some (f z)) e)
get-map f (y ∷ ys) (suc n) x at = get-map f ys n x at

get-front : {A : Type 0} (xs ys : List A) (n : ℕ) (x : A) → slice_get xs n ≡ Some x → slice_get (xs ++ ys) n ≡ Some x
get-front [] ys n x at = cc
get-front (z ∷ zs) ys zero x at = at
get-front (z ∷ zs) ys (suc n) x at = get-front zs ys n x at

get-behind : {A B : Type 0} (f : A → B) (xs : List A) (c : B) (cs : List B) → slice_get (map f xs ++ c ∷ cs) (length xs) ≡ Some c
get-behind f [] c cs = refl
get-behind f (x ∷ xs) c cs = get-behind f xs c cs

-- a line is put between the others: those behind it stand one later
late : {A : Type 0} (xs : List A) (y : A) (q n : ℕ) → q ≤ n → slice_get (take q xs ++ y ∷ drop q xs) (suc n) ≡ slice_get xs n
late xs y zero n le = refl
late [] y (suc q) n le = refl
late (x ∷ xs) y (suc q) zero le = absurd (omega (arith, le))
late (x ∷ xs) y (suc q) (suc n) le = late xs y q n (omega (arith, le))

early : {A : Type 0} (xs ys : List A) (q n : ℕ) (x : A) → n < q → slice_get xs n ≡ Some x → slice_get (take q xs ++ ys) n ≡ Some x
early xs ys zero n x lt at = absurd (omega (arith, lt))
early [] ys (suc q) n x lt at = cc
early (z ∷ zs) ys (suc q) zero x lt at = at
early (z ∷ zs) ys (suc q) (suc n) x lt at = early zs ys q n x (omega (arith, lt)) at

last : {A B : Type 0} (f : A → B) (xs : List A) (y c : B) (cs : List B) (q : ℕ) → q ≤ length xs
    → slice_get ((take q (map f xs) ++ y ∷ drop q (map f xs)) ++ c ∷ cs) (suc (length xs)) ≡ Some c
last f xs y c cs zero le = get-behind f xs c cs
last f [] y c cs (suc q) le = absurd (omega (arith, le))
last f (x ∷ xs) y c cs (suc q) le = last f xs y c cs q (omega (arith, le))

-- three lines stand before
place-of : (line n : ℕ) → line ≡ n + 4 → line - 1 ≡ suc (suc (suc n))
place-of line n e = omega (arith, e)

place-late : (line n : ℕ) → line ≡ n + 5 → line - 1 ≡ suc (suc (suc (suc n)))
place-late line n e = omega (arith, e)

line-late : (q n : ℕ) → nat_le q n ≡ true → line_behind (Some q) n ≡ n + 5
line-late q n e = ap (λ b. if b then n + 5 else n + 4) e

line-early : (q n : ℕ) → nat_le q n ≡ false → line_behind (Some q) n ≡ n + 4
line-early q n e = ap (λ b. if b then n + 5 else n + 4) e

in-learned : (question : Option ℕ) (learned : List (List Lit)) (a b c : List ℕ) (rest : List (List ℕ)) (n : ℕ) (clause : List Lit) → slice_get learned n ≡ Some clause
    → slice_get ((a ∷ b ∷ c ∷ []) ++ asked_lines question (map clause_line learned) ++ rest) (line_behind question n - 1) ≡ Some (clause_line clause)
in-learned None learned a b c rest n clause at =
    subst (λ k. slice_get ((a ∷ b ∷ c ∷ []) ++ map clause_line learned ++ rest) k ≡ Some (clause_line clause)) (sym (place-of (line_behind None n) n refl))
    (get-front (map clause_line learned) rest n (clause_line clause) (get-map clause_line learned n clause at))
in-learned (Some q) learned a b c rest n clause at = elim (level-cases q n) [
  | inl le ↦
      subst (λ k. slice_get ((a ∷ b ∷ c ∷ []) ++ (take q (map clause_line learned) ++ codes "question" ∷ drop q (map clause_line learned)) ++ rest) k ≡ Some (clause_line clause))
      (sym (place-late (line_behind (Some q) n) n (line-late q n le.1)))
      (get-front (take q (map clause_line learned) ++ codes "question" ∷ drop q (map clause_line learned)) rest (suc n) (clause_line clause)
      (late (map clause_line learned) (codes "question") q n le.0 ∙ get-map clause_line learned n clause at))
  | inr lt ↦
      subst (λ k. slice_get ((a ∷ b ∷ c ∷ []) ++ (take q (map clause_line learned) ++ codes "question" ∷ drop q (map clause_line learned)) ++ rest) k ≡ Some (clause_line clause))
      (sym (place-of (line_behind (Some q) n) n (line-early q n lt.1)))
      (get-front (take q (map clause_line learned) ++ codes "question" ∷ drop q (map clause_line learned)) rest n (clause_line clause)
      (early (map clause_line learned) (codes "question" ∷ drop q (map clause_line learned)) q n (clause_line clause) lt.0 (get-map clause_line learned n clause at)))
]

pub clause-line : (log : Logged) (n : ℕ) (clause : List Lit) → slice_get log.part.learned n ≡ Some clause → slice_get (log_lines log) (line_of_clause log n - 1) ≡ Some (clause_line clause)
clause-line log n clause at = in-learned log.question log.part.learned _ _ _ (closing_lines log.part.closed) n clause at

behind-learned : (question : Option ℕ) (learned : List (List Lit)) (a b c d : List ℕ) (rest : List (List ℕ)) → IfSome question (λ q. q ≤ length learned)
    → slice_get ((a ∷ b ∷ c ∷ []) ++ asked_lines question (map clause_line learned) ++ d ∷ rest) (line_behind question (length learned) - 1) ≡ Some d
behind-learned None learned a b c d rest h =
    subst (λ k. slice_get ((a ∷ b ∷ c ∷ []) ++ map clause_line learned ++ d ∷ rest) k ≡ Some d) (sym (place-of (line_behind None (length learned)) (length learned) refl))
    (get-behind clause_line learned d rest)
behind-learned (Some q) learned a b c d rest h = elim (level-cases q (length learned)) [
  | inl le ↦
      subst (λ k. slice_get ((a ∷ b ∷ c ∷ []) ++ (take q (map clause_line learned) ++ codes "question" ∷ drop q (map clause_line learned)) ++ d ∷ rest) k ≡ Some d)
      (sym (place-late (line_behind (Some q) (length learned)) (length learned) (line-late q (length learned) le.1)))
      (last clause_line learned (codes "question") d rest q le.0)
  | inr lt ↦ absurd (omega (arith, lt.0, h))
]

asked-within : (question : Option ℕ) (n : ℕ) (P : Type 0) → IfSome question (λ q. (q ≤ n) × P) → IfSome question (λ q. q ≤ n)
asked-within None n P h = tt
asked-within (Some q) n P h = h.0

pub line-behind : (log : Logged) → IsLog log → slice_get (log_lines log) (line_of_clause log (length log.part.learned) - 1) ≡ Some (if log.part.closed then clause_line [] else codes "end")
line-behind log l = by log.part.closed
  where
    within : IfSome log.question (λ q. q ≤ length log.part.learned)
    within = asked-within log.question (length log.part.learned) _ l.asked

    by : (closed : Bool)
        → slice_get (opening_lines log ++ asked_lines log.question (map clause_line log.part.learned) ++ ((if closed then clause_line [] ∷ [] else []) ++ codes "end" ∷ [])) (line_of_clause log (length log.part.learned) - 1)
        ≡ Some (if closed then clause_line [] else codes "end")
    by true = behind-learned log.question log.part.learned _ _ _ (clause_line []) (codes "end" ∷ []) within
    by false = behind-learned log.question log.part.learned _ _ _ (codes "end") [] within
