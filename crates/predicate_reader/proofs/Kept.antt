-- What a predicate has of the forms and counts of its tokens.
use Rattle.std.proofs.Common.{◌≡◌, Bool, true, false, ◌&&◌, List, [], ◌∷◌, ◌++◌, Some, codes, All, IsTrue, refl, ◌∙◌, arith}
use Rattle.std.specs.List.{Contains}
use Rattle.std.proofs.lemmas.Bool.{le-leb}
use Rattle.std.proofs.lemmas.List.Elements.{Contains-append_left, Contains-append_right, All-contains}
use Rattle.litmus_syntax.specs.declared.pred.Pred.{Pred}
use Rattle.litmus_syntax.specs.Forms.{is_formed_of, is_formed_pred}
use Rattle.lexeme_reader.specs.declared.reading.Lexeme.{Lexeme}
use Rattle.lexeme_reader.specs.declared.reading.Lexeme.TheVariants.{Word, Number, Path, Text, Sign}
use Rattle.lexeme_reader.specs.Lexemes.{is_formed}
use Rattle.litmus_syntax.specs.declared.pred.Binding.{Binding}
use Rattle.litmus_syntax.specs.declared.pred.Binding.TheVariants.{Disjunction, Conjunction, Operand}
use Rattle.predicate_reader.specs.Predicates.{IsAtom, IsExpression, IsPredicate}
use Rattle.predicate_reader.proofs.Folds.{fold_true, fold_false, fold_exists, fold_same, fold_size, fold_content, fold_bytes, fold_attr, fold_seen, fold_not, fold_and, fold_or}

-- each token has its form
abbrev AreFit : List Lexeme → Type 0
AreFit tokens = (x : Lexeme) → Contains tokens x → IsTrue (is_formed x)

fit_left : (a b : List Lexeme) → AreFit (a ++ b) → AreFit a
fit_left a b fit x c = fit x (Contains-append_left a b x c)

fit_right : (a b : List Lexeme) → AreFit (a ++ b) → AreFit b
fit_right a b fit x c = fit x (Contains-append_right a b x c)

both_true : (a b : Bool) → a ≡ true → b ≡ true → (a && b) ≡ true
both_true true b first second = second
both_true false b first second = first

formed_atom : (a : List Lexeme) (p : Pred) → IsAtom a p → AreFit a → is_formed_pred p ≡ true
formed_atom a _ (IsAtom.yes e) fit = fold_true Bool is_formed_of
formed_atom a _ (IsAtom.no e) fit = fold_false Bool is_formed_of
formed_atom a _ (IsAtom.exists path e) fit = fold_exists Bool is_formed_of path ∙ fit (Path path) (rw e (2, omega arith, refl))
formed_atom a _ (IsAtom.same left right e) fit =
    fold_same Bool is_formed_of left right ∙ both_true _ _ (fit (Path left) (rw e (2, omega arith, refl))) (fit (Path right) (rw e (4, omega arith, refl)))
formed_atom a _ (IsAtom.size path size e) fit =
    fold_size Bool is_formed_of path size ∙ both_true _ _ (fit (Path path) (rw e (2, omega arith, refl))) (fit (Number (Some size)) (rw e (5, omega arith, refl)))
formed_atom a _ (IsAtom.content path text e) fit =
    fold_content Bool is_formed_of path text ∙ both_true _ _ (fit (Path path) (rw e (2, omega arith, refl))) (fit (Text text) (rw e (5, omega arith, refl)))
formed_atom a _ (IsAtom.bytes path at text early e) fit =
    fold_bytes Bool is_formed_of path at text ∙ both_true _ _ (both_true _ _ (fit (Path path) (rw e (2, omega arith, refl))) (fit (Text text) (rw e (7, omega arith, refl)))) (le-leb _ _ early)
formed_atom a _ (IsAtom.attr path key value e) fit =
    fold_attr Bool is_formed_of path key value ∙ both_true _ _ (both_true _ _ (fit (Path path) (rw e (2, omega arith, refl))) (fit (Word key) (rw e (4, omega arith, refl))))
    (fit (Number (Some value)) (rw e (7, omega arith, refl)))
formed_atom a _ (IsAtom.seen word e) fit = fold_seen Bool is_formed_of word ∙ fit (Word word) (rw e (2, omega arith, refl))

formed : (b : Binding) (a : List Lexeme) (p : Pred) → IsExpression b a p → AreFit a → is_formed_pred p ≡ true
formed _ _ _ (IsExpression.atom a p is) fit = formed_atom a p is fit
formed _ _ _ (IsExpression.inner a p h) fit = formed Disjunction a p h (fit_left a (Sign 41 ∷ []) (fit_right (Sign 40 ∷ []) (a ++ Sign 41 ∷ []) fit))
formed _ _ _ (IsExpression.negation a p h) fit = fold_not Bool is_formed_of p ∙ formed Operand a p h (fit_right (Word (codes "not") ∷ []) a fit)
formed _ _ _ (IsExpression.tighter a p h) fit = formed Operand a p h fit
formed _ _ _ (IsExpression.both a b p q h g) fit =
    fold_and Bool is_formed_of p q ∙ both_true _ _ (formed Conjunction a p h (fit_left a (Word (codes "and") ∷ b) fit))
    (formed Operand b q g (fit_right (Word (codes "and") ∷ []) b (fit_right a (Word (codes "and") ∷ b) fit)))
formed _ _ _ (IsExpression.single a p h) fit = formed Conjunction a p h fit
formed _ _ _ (IsExpression.either a b p q h g) fit =
    fold_or Bool is_formed_of p q ∙ both_true _ _ (formed Disjunction a p h (fit_left a (Word (codes "or") ∷ b) fit))
    (formed Conjunction b q g (fit_right (Word (codes "or") ∷ []) b (fit_right a (Word (codes "or") ∷ b) fit)))

pub formed_predicate : (tokens : List Lexeme) (p : Pred) → All (λ l. IsTrue (is_formed l)) tokens → IsPredicate tokens p
    → IsTrue (is_formed_pred p)
formed_predicate tokens p each h = formed Disjunction tokens p h (λ x c. All-contains (λ l. IsTrue (is_formed l)) tokens x each c)
