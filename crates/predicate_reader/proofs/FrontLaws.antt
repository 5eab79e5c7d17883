-- Tokens begin with one expression at most, and it is one of the grammar.
use Rattle.std.proofs.Common.{◌≡◌, List, [], ◌∷◌, ◌++◌, codes, refl, sym, ap, ◌∙◌, append_assoc}
use Rattle.std.proofs.lemmas.List.{append-nil}
use Rattle.litmus_syntax.specs.declared.pred.Pred.{Pred}
use Rattle.litmus_syntax.specs.declared.pred.Pred.TheVariants as pred
use Rattle.lexeme_reader.specs.declared.reading.Lexeme.{Lexeme}
use Rattle.lexeme_reader.specs.declared.reading.Lexeme.TheVariants.{Word, Sign}
use Rattle.predicate_reader.specs.AtomNames.{atom_text}
use Rattle.litmus_syntax.specs.declared.pred.Binding.{Binding}
use Rattle.litmus_syntax.specs.declared.pred.Binding.TheVariants.{Disjunction, Conjunction, Operand}
use Rattle.predicate_reader.specs.Predicates.{IsExpression, IsPredicate}
use Rattle.predicate_reader.specs.Fronts.{BeginsOther, Part, Expression, FurtherAnd, FurtherOr, Begins}
use Rattle.predicate_reader.proofs.AtomFronts.{one_atom, not_named, atom_front, begins_atom}

-- tokens begin with a part in one way
pub one_front : (k : Part) (tokens : List Lexeme) (p : Pred) (r : List Lexeme) (us : List Lexeme) (q : Pred) (s : List Lexeme)
    → Begins k tokens p r → Begins k us q s → tokens ≡ us → (p ≡ q) × (r ≡ s)
one_front _ _ _ _ _ _ _ (Begins.atom m tokens p r a) (Begins.atom n us q s b) e = one_atom m n tokens us p q r s a b e
one_front _ _ _ _ _ _ _ (Begins.atom m tokens p r a) (Begins.inner us q s b) e = cc e
one_front _ _ _ _ _ _ _ (Begins.atom m tokens p r a) (Begins.negation us q s b) e = absurd (not_named m (cc e))
one_front _ _ _ _ _ _ _ (Begins.inner tokens p r a) (Begins.atom n us q s b) e = cc e
one_front _ _ _ _ _ _ _ (Begins.inner tokens p r a) (Begins.inner us q s b) e =
    let same = one_front (Expression Disjunction) tokens p (Sign 41 ∷ r) us q (Sign 41 ∷ s) a b (cc e) in
    (same.0, cc same.1)
one_front _ _ _ _ _ _ _ (Begins.inner tokens p r a) (Begins.negation us q s b) e = cc e
one_front _ _ _ _ _ _ _ (Begins.negation tokens p r a) (Begins.atom n us q s b) e = absurd (not_named n (cc e))
one_front _ _ _ _ _ _ _ (Begins.negation tokens p r a) (Begins.inner us q s b) e = cc e
one_front _ _ _ _ _ _ _ (Begins.negation tokens p r a) (Begins.negation us q s b) e =
    let same = one_front (Expression Operand) tokens p r us q s a b (cc e) in
    (ap pred.Not same.0, same.1)
one_front _ _ _ _ _ _ _ (Begins.conjunction tokens left p behind r a f) (Begins.conjunction us left' q behind' s b g) e =
    let same = one_front (Expression Operand) tokens left behind us left' behind' a b e in
    one_front (FurtherAnd left) behind p r behind' q s f (rw same.0 g) same.1
one_front _ _ _ _ _ _ _ (Begins.disjunction tokens left p behind r a f) (Begins.disjunction us left' q behind' s b g) e =
    let same = one_front (Expression Conjunction) tokens left behind us left' behind' a b e in
    one_front (FurtherOr left) behind p r behind' q s f (rw same.0 g) same.1
one_front _ _ _ _ _ _ _ (Begins.no_and left r none) (Begins.no_and _ s other) e = (refl, e)
one_front _ _ _ _ _ _ _ (Begins.no_and left r none) (Begins.one_and _ right' q us behind' s b g) e = absurd (none us e)
one_front _ _ _ _ _ _ _ (Begins.one_and left right p tokens behind r a f) (Begins.no_and _ s none) e = absurd (none tokens (sym e))
one_front _ _ _ _ _ _ _ (Begins.one_and left right p tokens behind r a f) (Begins.one_and _ right' q us behind' s b g) e =
    let same = one_front (Expression Operand) tokens right behind us right' behind' a b (cc e) in
    one_front (FurtherAnd (pred.And left right)) behind p r behind' q s f (rw same.0 g) same.1
one_front _ _ _ _ _ _ _ (Begins.no_or left r none) (Begins.no_or _ s other) e = (refl, e)
one_front _ _ _ _ _ _ _ (Begins.no_or left r none) (Begins.one_or _ right' q us behind' s b g) e = absurd (none us e)
one_front _ _ _ _ _ _ _ (Begins.one_or left right p tokens behind r a f) (Begins.no_or _ s none) e = absurd (none tokens (sym e))
one_front _ _ _ _ _ _ _ (Begins.one_or left right p tokens behind r a f) (Begins.one_or _ right' q us behind' s b g) e =
    let same = one_front (Expression Conjunction) tokens right behind us right' behind' a b (cc e) in
    one_front (FurtherOr (pred.Or left right)) behind p r behind' q s f (rw same.0 g) same.1

-- what a part at the front says of the grammar
abbrev Means : Part → List Lexeme → Pred → Type 0
Means (Expression binding) a p = IsExpression binding a p
Means (FurtherAnd left) a p = (x : List Lexeme) → IsExpression Conjunction x left → IsExpression Conjunction (x ++ a) p
Means (FurtherOr left) a p = (x : List Lexeme) → IsExpression Disjunction x left → IsExpression Disjunction (x ++ a) p

pub front_is : (k : Part) (tokens : List Lexeme) (p : Pred) (r : List Lexeme) → Begins k tokens p r
    → (a : List Lexeme) × (tokens ≡ a ++ r) × Means k a p
front_is _ _ _ _ (Begins.atom n tokens p r completes) =
    let front = atom_front n tokens p r completes in
    (Word (atom_text n) ∷ front.0, ap (λ (x : List Lexeme). Word (atom_text n) ∷ x) front.1, IsExpression.atom (Word (atom_text n) ∷ front.0) p front.2)
front_is _ _ _ _ (Begins.inner tokens p r h) =
    let front = front_is (Expression Disjunction) tokens p (Sign 41 ∷ r) h in
    (Sign 40 ∷ front.0 ++ Sign 41 ∷ [], ap (λ (x : List Lexeme). Sign 40 ∷ x) (front.1 ∙ sym (append_assoc front.0 (Sign 41 ∷ []) r)), IsExpression.inner front.0 p front.2)
front_is _ _ _ _ (Begins.negation tokens p r h) =
    let front = front_is (Expression Operand) tokens p r h in
    (Word (codes "not") ∷ front.0, ap (λ (x : List Lexeme). Word (codes "not") ∷ x) front.1, IsExpression.negation front.0 p front.2)
front_is _ _ _ _ (Begins.conjunction tokens left p behind r h f) =
    let first = front_is (Expression Operand) tokens left behind h in
    let further = front_is (FurtherAnd left) behind p r f in (
      first.0 ++ further.0,
      first.1 ∙ ap (λ (x : List Lexeme). first.0 ++ x) further.1 ∙ sym (append_assoc first.0 further.0 r),
      further.2 first.0 (IsExpression.tighter first.0 left first.2),
    )
front_is _ _ _ _ (Begins.disjunction tokens left p behind r h f) =
    let first = front_is (Expression Conjunction) tokens left behind h in
    let further = front_is (FurtherOr left) behind p r f in (
      first.0 ++ further.0,
      first.1 ∙ ap (λ (x : List Lexeme). first.0 ++ x) further.1 ∙ sym (append_assoc first.0 further.0 r),
      further.2 first.0 (IsExpression.single first.0 left first.2),
    )
front_is _ _ _ _ (Begins.no_and left r none) = ([], refl, λ x h. rw (append-nil x) h)
front_is _ _ _ _ (Begins.one_and left right p tokens behind r h f) =
    let first = front_is (Expression Operand) tokens right behind h in
    let further = front_is (FurtherAnd (pred.And left right)) behind p r f in (
      Word (codes "and") ∷ first.0 ++ further.0,
      ap (λ (x : List Lexeme). Word (codes "and") ∷ x) (first.1 ∙ ap (λ (x : List Lexeme). first.0 ++ x) further.1 ∙ sym (append_assoc first.0 further.0 r)),
      λ x g. rw (append_assoc x (Word (codes "and") ∷ first.0) further.0) at
          (further.2 (x ++ Word (codes "and") ∷ first.0) (IsExpression.both x first.0 left right g first.2)),
    )
front_is _ _ _ _ (Begins.no_or left r none) = ([], refl, λ x h. rw (append-nil x) h)
front_is _ _ _ _ (Begins.one_or left right p tokens behind r h f) =
    let first = front_is (Expression Conjunction) tokens right behind h in
    let further = front_is (FurtherOr (pred.Or left right)) behind p r f in (
      Word (codes "or") ∷ first.0 ++ further.0,
      ap (λ (x : List Lexeme). Word (codes "or") ∷ x) (first.1 ∙ ap (λ (x : List Lexeme). first.0 ++ x) further.1 ∙ sym (append_assoc first.0 further.0 r)),
      λ x g. rw (append_assoc x (Word (codes "or") ∷ first.0) further.0) at
          (further.2 (x ++ Word (codes "or") ∷ first.0) (IsExpression.either x first.0 left right g first.2)),
    )

-- how an expression of the grammar is read: a tight one at once, and the others with any further operands
abbrev IsRead : Binding → List Lexeme → Pred → Type 0
IsRead Operand a p = (r : List Lexeme) → Begins (Expression Operand) (a ++ r) p r
IsRead Conjunction a p = (r : List Lexeme) (q : Pred) (s : List Lexeme) → Begins (FurtherAnd p) r q s → Begins (Expression Conjunction) (a ++ r) q s
IsRead Disjunction a p = (r : List Lexeme) (q : Pred) (s : List Lexeme) → BeginsOther (codes "and") r → Begins (FurtherOr p) r q s → Begins (Expression Disjunction) (a ++ r) q s

pub is_read : (b : Binding) (a : List Lexeme) (p : Pred) → IsExpression b a p → IsRead b a p
is_read _ _ _ (IsExpression.atom a p is) = λ r.
    let front = begins_atom a p is r in
    rw front.2 (Begins.atom front.0 front.1 p r front.3)
is_read _ _ _ (IsExpression.inner a p h) = λ r.
    let closing : List Lexeme = Sign 41 ∷ r in
    let read : Begins (Expression Disjunction) (a ++ closing) p closing =
    is_read Disjunction a p h closing p closing (λ rest e. cc e) (Begins.no_or p closing (λ rest e. cc e)) in
    rw (append_assoc a (Sign 41 ∷ []) r) (Begins.inner (a ++ closing) p r read)
is_read _ _ _ (IsExpression.negation a p h) = λ r. Begins.negation (a ++ r) p r (is_read Operand a p h r)
is_read _ _ _ (IsExpression.tighter a p h) = λ r q s f. Begins.conjunction (a ++ r) p q r s (is_read Operand a p h r) f
is_read _ _ _ (IsExpression.both a b p q h g) = λ r z s f.
    rw (append_assoc a (Word (codes "and") ∷ b) r)
    (is_read Conjunction a p h (Word (codes "and") ∷ b ++ r) z s (Begins.one_and p q z (b ++ r) r s (is_read Operand b q g r) f))
is_read _ _ _ (IsExpression.single a p h) = λ r q s other f.
    Begins.disjunction (a ++ r) p q r s (is_read Conjunction a p h r p r (Begins.no_and p r other)) f
is_read _ _ _ (IsExpression.either a b p q h g) = λ r z s other f.
    let right : Begins (Expression Conjunction) (b ++ r) q r = is_read Conjunction b q g r q r (Begins.no_and q r other) in
    rw (append_assoc a (Word (codes "or") ∷ b) r)
    (is_read Disjunction a p h (Word (codes "or") ∷ b ++ r) z s (λ rest e. cc e) (Begins.one_or p q z (b ++ r) r s right f))

-- a predicate is read up to the end
pub read_whole : (tokens : List Lexeme) (p : Pred) → IsPredicate tokens p → Begins (Expression Disjunction) tokens p []
read_whole tokens p h =
    rw (append-nil tokens) at (is_read Disjunction tokens p h [] p [] (λ rest e. cc e) (Begins.no_or p [] (λ rest e. cc e)))

pub one_reading : (tokens : List Lexeme) (p q : Pred) → IsPredicate tokens p → IsPredicate tokens q → p ≡ q
one_reading tokens p q h g =
    (one_front (Expression Disjunction) tokens p [] tokens q [] (read_whole tokens p h) (read_whole tokens q g) refl).0
