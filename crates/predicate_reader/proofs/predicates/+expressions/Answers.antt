use Rattle.std.proofs.Common.{List, ◌∷◌, length, refl, ap, arith}
use Rattle.lexeme_reader.specs.declared.reading.Lexeme.{Lexeme}
use Rattle.lexeme_reader.specs.declared.reading.Lexeme.TheVariants.{Sign}
use Rattle.litmus_syntax.specs.declared.pred.Binding.TheVariants.{Disjunction, Conjunction, Operand}
use Rattle.predicate_reader.specs.Fronts.{Begins, Expression}
use Rattle.predicate_reader.proofs.FrontLaws.{one_front}
use Rattle.predicate_reader.proofs.Reading.{in_parentheses, other_tight, atom_tight, no_longer, leads, and_first, or_first, and_next, or_next, and_lacks, or_lacks}
use Rattle.predicate_reader.proofs.predicates.+expressions.Goals as goal

pub enclosed_at-disjunction_at-requires : goal.enclosed_at-disjunction_at-requires
enclosed_at-disjunction_at-requires t c = omega (arith, c.decreases)

pub enclosed_at-returns-in-None : goal.enclosed_at-returns-in-None
enclosed_at-returns-in-None t c = λ p rest h.
    let found : Begins (Expression Disjunction) c.args.lexemes.now c.in-Some.pred c.in-Some.behind.now = rw c.in-Some.is at c.in_ok-pred.ensures in
    let other : Begins (Expression Disjunction) c.args.lexemes.now p (Sign 41 ∷ rest) = in_parentheses _ p rest c.args.lexemes.now h refl in
    c.in-None.ensures rest (one_front _ _ _ _ _ _ _ found other refl).1

pub enclosed_at-returns-in-Some-behind_sign : goal.enclosed_at-returns-in-Some-behind_sign
enclosed_at-returns-in-Some-behind_sign t c =
    let found : Begins (Expression Disjunction) c.args.lexemes.now c.in-Some.pred c.in-Some.behind.now = rw c.in-Some.is at c.in_ok-pred.ensures in
    Begins.inner _ _ _ (rw c.in-Some-behind_sign.ensures at found)

pub negated_at-operand_at-requires : goal.negated_at-operand_at-requires
negated_at-operand_at-requires t c = omega (arith, c.decreases)

pub negated_at-returns : goal.negated_at-returns
negated_at-returns t c =
    let found : Begins (Expression Operand) c.args.lexemes.now c.in-Some.inner c.in-Some.rest.now = rw c.in-Some.is at c.in_ok-inner.ensures in
    rw c.in_ok-pred.ensures (Begins.negation _ _ _ found)

pub operand_at-enclosed_at-requires : goal.operand_at-enclosed_at-requires
operand_at-enclosed_at-requires t c = omega (arith, c.decreases, ap (λ (x : List Lexeme). length x) c.in-Some.ensures)

pub operand_at-negated_at-requires : goal.operand_at-negated_at-requires
operand_at-negated_at-requires t c = omega (arith, c.decreases, ap (λ (x : List Lexeme). length x) c.in-Some-behind_word.ensures)

pub operand_at-returns : goal.operand_at-returns
operand_at-returns t c =
    leads c.in_ok-found-3.found c.in_ok-found-3.ensures
    (λ none p r h. none p r (other_tight _ p r h c.in_default.ensures c.in_default-behind_word.ensures))
    (λ x. atom_tight _ _ _)

pub conjunction_at-loop-behind-init : goal.conjunction_at-loop-behind-init
conjunction_at-loop-behind-init t c = and_first _ _ _ (rw c.in-Some.is at c.in_ok-left.ensures)

pub conjunction_at-returns-in_default-2 : goal.conjunction_at-returns-in_default-2
conjunction_at-returns-in_default-2 t c =
    and_lacks _ _ _ _ c.loop-behind.invariant c.in-Some-behind_word.ensures (rw c.in_default-2.is at c.in_ok-right.ensures)

pub conjunction_at-loop-behind-smaller : goal.conjunction_at-loop-behind-smaller
conjunction_at-loop-behind-smaller t c =
    let found : Begins (Expression Operand) c.in-Some-behind_word.behind.now c.in-Some-2.right c.in-Some-2.after.now = rw c.in-Some-2.is at c.in_ok-right.ensures in
    omega (arith, ap (λ (x : List Lexeme). length x) c.in-Some-behind_word.ensures, no_longer _ _ _ _ found)

pub conjunction_at-loop-behind-preserved : goal.conjunction_at-loop-behind-preserved
conjunction_at-loop-behind-preserved t c =
    let found : Begins (Expression Operand) c.in-Some-behind_word.behind.now c.in-Some-2.right c.in-Some-2.after.now = rw c.in-Some-2.is at c.in_ok-right.ensures in
    and_next _ _ _ _ _ _ _ c.loop-behind.invariant c.in-Some-behind_word.ensures found c.in_ok-left-2.ensures

pub conjunction_at-returns : goal.conjunction_at-returns
conjunction_at-returns t c = c.loop-behind.invariant.forth _ _ (Begins.no_and _ _ c.in_default-behind_word.ensures)

pub disjunction_at-loop-behind-init : goal.disjunction_at-loop-behind-init
disjunction_at-loop-behind-init t c = or_first _ _ _ (rw c.in-Some.is at c.in_ok-left.ensures)

pub disjunction_at-returns-in_default-2 : goal.disjunction_at-returns-in_default-2
disjunction_at-returns-in_default-2 t c =
    or_lacks _ _ _ _ c.loop-behind.invariant c.in-Some-behind_word.ensures (rw c.in_default-2.is at c.in_ok-right.ensures)

pub disjunction_at-loop-behind-smaller : goal.disjunction_at-loop-behind-smaller
disjunction_at-loop-behind-smaller t c =
    let found : Begins (Expression Conjunction) c.in-Some-behind_word.behind.now c.in-Some-2.right c.in-Some-2.after.now = rw c.in-Some-2.is at c.in_ok-right.ensures in
    omega (arith, ap (λ (x : List Lexeme). length x) c.in-Some-behind_word.ensures, no_longer _ _ _ _ found)

pub disjunction_at-loop-behind-preserved : goal.disjunction_at-loop-behind-preserved
disjunction_at-loop-behind-preserved t c =
    let found : Begins (Expression Conjunction) c.in-Some-behind_word.behind.now c.in-Some-2.right c.in-Some-2.after.now = rw c.in-Some-2.is at c.in_ok-right.ensures in
    or_next _ _ _ _ _ _ _ c.loop-behind.invariant c.in-Some-behind_word.ensures found c.in_ok-left-2.ensures

pub disjunction_at-returns : goal.disjunction_at-returns
disjunction_at-returns t c = c.loop-behind.invariant.forth _ _ (Begins.no_or _ _ c.in_default-behind_word.ensures)
