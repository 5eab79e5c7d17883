use Rattle.std.proofs.Common.{[]}
use Rattle.litmus_syntax.specs.declared.pred.Binding.TheVariants.{Disjunction}
use Rattle.predicate_reader.specs.Fronts.{Begins, Expression}
use Rattle.predicate_reader.proofs.FrontLaws.{read_whole}
use Rattle.predicate_reader.proofs.Reading.{no_end, is_whole, is_nil, is_more}
use Rattle.predicate_reader.proofs.predicates.predicate.Goals as goal

pub returns-in_default : goal.returns-in_default
returns-in_default c = λ p h. (rw c.in_default.is at c.in_ok-pred.ensures) p [] (read_whole _ p h)

pub returns-then-not-is_empty : goal.returns-then-not-is_empty
returns-then-not-is_empty c =
    let found : Begins (Expression Disjunction) c.args.lexemes.now c.in-Some.pred c.in-Some.behind.now = rw c.in-Some.is at c.in_ok-pred.ensures in
    no_end _ _ _ found (is_more _ c.if-not-is_empty.ensures)

pub returns : goal.returns
returns c =
    let found : Begins (Expression Disjunction) c.args.lexemes.now c.in-Some.pred c.in-Some.behind.now = rw c.in-Some.is at c.in_ok-pred.ensures in
    rw c.into_inner.ensures (is_whole _ _ _ found (is_nil _ c.if-not-is_empty.ensures))
