-- What the tokens behind a front tell of what stands at the front.
use Rattle.std.proofs.Common.{true, false, ◌==◌, Option, None, Some, MatchOption, ◌≡◌, ◌+◌, ◌≤◌, List, [], ◌∷◌, ◌++◌, length, length-append, codes, refl, sym, ap, ◌∙◌, arith}
use Rattle.std.proofs.lemmas.List.{append-nil}
use Rattle.litmus_syntax.specs.declared.pred.Pred.{Pred}
use Rattle.litmus_syntax.specs.declared.pred.Pred.TheVariants as pred
use Rattle.lexeme_reader.specs.declared.reading.Lexeme.{Lexeme}
use Rattle.lexeme_reader.specs.declared.reading.Lexeme.TheVariants.{Word, Sign}
use Rattle.litmus_syntax.specs.declared.pred.Binding.TheVariants.{Disjunction, Conjunction, Operand}
use Rattle.predicate_reader.specs.Predicates.{IsPredicate}
use Rattle.predicate_reader.specs.AtomFronts.{BeginsAtom}
use Rattle.predicate_reader.specs.Fronts.{BeginsOther, Part, Expression, FurtherAnd, FurtherOr, Begins}
use Rattle.predicate_reader.proofs.FrontLaws.{one_front, front_is, read_whole}

-- the same tokens begin alike
moved : (k : Part) (tokens us : List Lexeme) (p : Pred) (r : List Lexeme) → Begins k us p r → us ≡ tokens → Begins k tokens p r
moved k tokens us p r h e = rw (sym e) h

-- behind a `(` stands what is in the parentheses
pub in_parentheses : (us : List Lexeme) (p : Pred) (r tokens : List Lexeme) → Begins (Expression Operand) us p r → us ≡ Sign 40 ∷ tokens
    → Begins (Expression Disjunction) tokens p (Sign 41 ∷ r)
in_parentheses _ _ _ tokens (Begins.atom n us p r a) e = cc e
in_parentheses _ _ _ tokens (Begins.inner us p r h) e = moved (Expression Disjunction) tokens us p (Sign 41 ∷ r) h (cc e)
in_parentheses _ _ _ tokens (Begins.negation us p r h) e = cc e

-- anything else is an atom
pub other_tight : (us : List Lexeme) (p : Pred) (r : List Lexeme) → Begins (Expression Operand) us p r → ((rest : List Lexeme) → us ≡ Sign 40 ∷ rest → ⊥)
    → BeginsOther (codes "not") us → BeginsAtom us p r
other_tight _ _ _ (Begins.atom n us p r a) sign other = (n, us, refl, a)
other_tight _ _ _ (Begins.inner us p r h) sign other = absurd (sign us refl)
other_tight _ _ _ (Begins.negation us p r h) sign other = absurd (other us refl)

pub atom_tight : (us : List Lexeme) (p : Pred) (r : List Lexeme) → BeginsAtom us p r → Begins (Expression Operand) us p r
atom_tight us p r a = rw a.2 (Begins.atom a.0 a.1 p r a.3)

-- a first operand and further ones
pub first_of_and : (us : List Lexeme) (p : Pred) (r : List Lexeme) → Begins (Expression Conjunction) us p r
    → (left : Pred) × (behind : List Lexeme) × Begins (Expression Operand) us left behind × Begins (FurtherAnd left) behind p r
first_of_and _ _ _ (Begins.conjunction us left p behind r h f) = (left, behind, h, f)

pub first_of_or : (us : List Lexeme) (p : Pred) (r : List Lexeme) → Begins (Expression Disjunction) us p r
    → (left : Pred) × (behind : List Lexeme) × Begins (Expression Conjunction) us left behind × Begins (FurtherOr left) behind p r
first_of_or _ _ _ (Begins.disjunction us left p behind r h f) = (left, behind, h, f)

pub next_of_and : (left : Pred) (us : List Lexeme) (p : Pred) (r tokens : List Lexeme) → Begins (FurtherAnd left) us p r → us ≡ Word (codes "and") ∷ tokens
    → (right : Pred) × (behind : List Lexeme) × Begins (Expression Operand) tokens right behind × Begins (FurtherAnd (pred.And left right)) behind p r
next_of_and _ _ _ _ tokens (Begins.no_and left r none) e = absurd (none tokens e)
next_of_and _ _ _ _ tokens (Begins.one_and left right p us behind r h f) e = (right, behind, moved (Expression Operand) tokens us right behind h (cc e), f)

pub next_of_or : (left : Pred) (us : List Lexeme) (p : Pred) (r tokens : List Lexeme) → Begins (FurtherOr left) us p r → us ≡ Word (codes "or") ∷ tokens
    → (right : Pred) × (behind : List Lexeme) × Begins (Expression Conjunction) tokens right behind × Begins (FurtherOr (pred.Or left right)) behind p r
next_of_or _ _ _ _ tokens (Begins.no_or left r none) e = absurd (none tokens e)
next_of_or _ _ _ _ tokens (Begins.one_or left right p us behind r h f) e = (right, behind, moved (Expression Conjunction) tokens us right behind h (cc e), f)

-- what is left behind a front is no longer, and its numbers are in range
pub no_longer : (k : Part) (tokens : List Lexeme) (p : Pred) (r : List Lexeme) → Begins k tokens p r → length r ≤ length tokens
no_longer k tokens p r h =
    let front = front_is k tokens p r h in
    let sizes : length tokens ≡ length front.0 + length r = ap (λ (x : List Lexeme). length x) front.1 ∙ length-append front.0 r in
    omega (arith, sizes)

-- a list without items is the empty one
pub is_nil : (l : List Lexeme) → true ≡ (length l == 0) → l ≡ []
is_nil [] e = refl
is_nil (x ∷ xs) e = grind (arith, e)

pub is_more : (l : List Lexeme) → false ≡ (length l == 0) → l ≡ [] → ⊥
is_more [] more e = cc more
is_more (x ∷ xs) more e = cc e

-- no predicate ends before the tokens do
pub no_end : (tokens : List Lexeme) (p : Pred) (r : List Lexeme) → Begins (Expression Disjunction) tokens p r → (r ≡ [] → ⊥) → (q : Pred) → IsPredicate tokens q → ⊥
no_end tokens p r h more q g = more ((one_front (Expression Disjunction) tokens p r tokens q [] h (read_whole tokens q g) refl).1)

pub is_whole : (tokens : List Lexeme) (p : Pred) (r : List Lexeme) → Begins (Expression Disjunction) tokens p r → r ≡ [] → IsPredicate tokens p
is_whole tokens p r h none =
    let front = front_is (Expression Disjunction) tokens p r h in
    rw (front.1 ∙ ap (λ (x : List Lexeme). front.0 ++ x) none ∙ append-nil front.0) front.2

-- what is said of an option, once something found and once nothing, leads to something else of each
pub leads : {X : Type 0} (o : Option X) {A C : Type 0} {B D : X → Type 0} → MatchOption o A B → (A → C) → ((x : X) → B x → D x) → MatchOption o C D
leads None m none found = none m
leads (Some x) m none found = found x m

-- the first operands are read up to here: what further operands lead to is what stands at the front, and nothing else
pub record IsJoined (join : Pred → Part) (whole : Part) (tokens : List Lexeme) (left : Pred) (rest : List Lexeme) : Type 0 where
  pub forth : (p : Pred) (r : List Lexeme) → Begins (join left) rest p r → Begins whole tokens p r
  pub back : (p : Pred) (r : List Lexeme) → Begins whole tokens p r → Begins (join left) rest p r
  pub within : length rest ≤ length tokens

pub and_first : (tokens : List Lexeme) (left : Pred) (rest : List Lexeme) → Begins (Expression Operand) tokens left rest
    → IsJoined FurtherAnd (Expression Conjunction) tokens left rest
and_first tokens left rest h = record {
  forth = λ p r f. Begins.conjunction tokens left p rest r h f;
  back = λ p r g.
      let first = first_of_and tokens p r g in
      let same = one_front (Expression Operand) tokens left rest tokens first.0 first.1 h first.2 refl in
      rw (same.0, same.1) first.3;
  within = no_longer (Expression Operand) tokens left rest h;
}

pub or_first : (tokens : List Lexeme) (left : Pred) (rest : List Lexeme) → Begins (Expression Conjunction) tokens left rest
    → IsJoined FurtherOr (Expression Disjunction) tokens left rest
or_first tokens left rest h = record {
  forth = λ p r f. Begins.disjunction tokens left p rest r h f;
  back = λ p r g.
      let first = first_of_or tokens p r g in
      let same = one_front (Expression Conjunction) tokens left rest tokens first.0 first.1 h first.2 refl in
      rw (same.0, same.1) first.3;
  within = no_longer (Expression Conjunction) tokens left rest h;
}

pub and_next : (tokens : List Lexeme) (left : Pred) (rest behind : List Lexeme) (right x : Pred) (after : List Lexeme)
    → IsJoined FurtherAnd (Expression Conjunction) tokens left rest → rest ≡ Word (codes "and") ∷ behind → Begins (Expression Operand) behind right after
    → x ≡ pred.And left right → IsJoined FurtherAnd (Expression Conjunction) tokens x after
and_next tokens left rest behind right x after j e h is = record {
  forth = λ p r f. j.forth p r (rw e (Begins.one_and left right p behind after r h (rw is at f)));
  back = λ p r g.
      let next = next_of_and left rest p r behind (j.back p r g) e in
      let same = one_front (Expression Operand) behind right after behind next.0 next.1 h next.2 refl in
      rw (is, same.0, same.1) next.3;
  within = omega (arith, ap (λ (l : List Lexeme). length l) e, no_longer (Expression Operand) behind right after h, j.within);
}

pub or_next : (tokens : List Lexeme) (left : Pred) (rest behind : List Lexeme) (right x : Pred) (after : List Lexeme)
    → IsJoined FurtherOr (Expression Disjunction) tokens left rest → rest ≡ Word (codes "or") ∷ behind → Begins (Expression Conjunction) behind right after
    → x ≡ pred.Or left right → IsJoined FurtherOr (Expression Disjunction) tokens x after
or_next tokens left rest behind right x after j e h is = record {
  forth = λ p r f. j.forth p r (rw e (Begins.one_or left right p behind after r h (rw is at f)));
  back = λ p r g.
      let next = next_of_or left rest p r behind (j.back p r g) e in
      let same = one_front (Expression Conjunction) behind right after behind next.0 next.1 h next.2 refl in
      rw (is, same.0, same.1) next.3;
  within = omega (arith, ap (λ (l : List Lexeme). length l) e, no_longer (Expression Conjunction) behind right after h, j.within);
}

-- without a right operand there is nothing
pub and_lacks : (tokens : List Lexeme) (left : Pred) (rest behind : List Lexeme) → IsJoined FurtherAnd (Expression Conjunction) tokens left rest
    → rest ≡ Word (codes "and") ∷ behind → ((p : Pred) (r : List Lexeme) → Begins (Expression Operand) behind p r → ⊥)
    → (p : Pred) (r : List Lexeme) → Begins (Expression Conjunction) tokens p r → ⊥
and_lacks tokens left rest behind j e none p r g = let next = next_of_and left rest p r behind (j.back p r g) e in none next.0 next.1 next.2

pub or_lacks : (tokens : List Lexeme) (left : Pred) (rest behind : List Lexeme) → IsJoined FurtherOr (Expression Disjunction) tokens left rest
    → rest ≡ Word (codes "or") ∷ behind → ((p : Pred) (r : List Lexeme) → Begins (Expression Conjunction) behind p r → ⊥)
    → (p : Pred) (r : List Lexeme) → Begins (Expression Disjunction) tokens p r → ⊥
or_lacks tokens left rest behind j e none p r g = let next = next_of_or left rest p r behind (j.back p r g) e in none next.0 next.1 next.2
