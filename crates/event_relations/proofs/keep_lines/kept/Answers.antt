use Rattle.std.proofs.Common.{◌≡◌, length, List, Some, slice_get, arith, ap, subst, refl}
use Rattle.std.proofs.lemmas.Option.{slice_get_read}
use Rattle.model_reader.specs.declared.expr.Expr.{Expr}
use Rattle.event_relations.specs.Showing.{AreNames, GetsKept, names_shown}
use Rattle.event_relations.proofs.Keeping.{lines_more, lines_exactly, lines_forward}
use Rattle.event_relations.proofs.keep_lines.kept.Goals as goal

pub name_rows-requires : goal.name_rows-requires
name_rows-requires c = record {
  few = omega (arith, c.keeps_rules.ensures.few_events, ap length c.events-list.ensures);
  words = c.in_ok-words.ensures;
}

pub loop-line-preserved : goal.loop-line-preserved
loop-line-preserved c =
    let events = c.args.events.now.events in
    let model = c.args.model.now in
    let lines = c.as_slice-line-items.result.now in
    let i = c.loop-line.line-index in
    let x = c.line-item.result in
    let names = c.in_ok-names.names in
    let now = c.loop-line.pairs in
    let new = c.put_kept.new.pairs in
    let read : slice_get lines i ≡ Some x = slice_get_read lines (length lines) i x refl c.loop-line-test.true c.line-item.is in
    let at : slice_get model.keeps i ≡ Some x = subst (λ (xs : List Expr). slice_get xs i ≡ Some x) c.as_slice-line-items.ensures read in
    let are : AreNames events model.lets names = rw c.as_slice.ensures at (rw c.events-list.ensures at c.in_ok-names.ensures) in
    let gets : GetsKept events (names_shown names) x now new = rw c.as_slice-in-loop-line.ensures at (rw c.events-list.ensures at c.in_ok-put_kept.ensures.pairs) in
    lines_more model events i x names now new at are c.loop-line.invariant c.in_ok-put_kept.ensures.n gets

pub returns-clause-exactly : goal.returns-clause-exactly
returns-clause-exactly c =
    lines_exactly c.args.model.now c.args.events.now.events c.loop-line.line-index c.loop-line.pairs c.loop-line.invariant
    (omega (arith, c.loop-line-test.false, ap length c.as_slice-line-items.ensures))

pub returns-clause-forward : goal.returns-clause-forward
returns-clause-forward c = lines_forward c.args.model.now c.args.events.now.events c.loop-line.line-index c.loop-line.pairs c.loop-line.invariant
