use Rattle.std.proofs.Common.{◌≡◌, ◌+◌, [], length, List, Some, slice_get, arith, sym, ◌∙◌, ap, subst, refl}
use Rattle.std.proofs.lemmas.Option.{slice_get_read}
use Rattle.model_reader.specs.declared.expr.Expr.{Expr}
use Rattle.fer_events.specs.declared.event.Event.{Event}
use Rattle.event_relations.specs.Showing.{AreNames, GetsKept, names_shown}
use Rattle.event_relations.proofs.Keeping.{HasEachTo, each_more, each_forward, each_n, line_kept}
use Rattle.event_relations.proofs.keep_lines.kept_by.Goals as goal

pub name_rows-requires : goal.name_rows-requires
name_rows-requires c = record {
  few = omega (arith, c.keeps_rules.ensures.few_events, ap length c.events-list.ensures);
  words = c.in_ok-words.ensures;
}

pub loop-line-preserved : goal.loop-line-preserved
loop-line-preserved c =
    let events = c.args.events.now.events in
    let model = c.args.model.now in
    let lines = c.as_slice-line-items.result.now in
    let i = c.loop-line.line-index in
    let x = c.line-item.result in
    let names = c.in_ok-names.names in
    let empty = c.new-pairs.result in
    let new = c.put_kept.new.pairs in
    let read : slice_get lines i ≡ Some x = slice_get_read lines (length lines) i x refl c.loop-line-test.true c.line-item.is in
    let at : slice_get model.keeps i ≡ Some x = subst (λ (xs : List Expr). slice_get xs i ≡ Some x) c.as_slice-line-items.ensures read in
    let are : AreNames events model.lets names = rw c.as_slice.ensures at (rw c.events-list.ensures at c.in_ok-names.ensures) in
    let gets : GetsKept events (names_shown names) x empty new = rw c.as_slice-in-loop-line.ensures at (rw c.events-list.ensures at c.in_ok-put_kept.ensures.pairs) in
    let none : empty ≡ record { n = length events; pairs = [] } =
    c.new-pairs.ensures ∙ ap (λ (es : List Event). record { n = length es; pairs = [] }) c.events-list.ensures in
    subst (HasEachTo model events (i + 1)) (sym c.in_ok-push.ensures.ok)
    (each_more model events i c.loop-line.lines new c.loop-line.invariant (line_kept model events i x names empty new at are none c.in_ok-put_kept.ensures.n gets))

pub returns-clause-n : goal.returns-clause-n
returns-clause-n c = each_n c.args.model.now c.args.events.now.events c.loop-line.line-index c.loop-line.lines c.loop-line.invariant

pub returns-clause-exactly : goal.returns-clause-exactly
returns-clause-exactly c i pairs at = (c.loop-line.invariant.each i pairs at).exactly

pub returns-clause-forward : goal.returns-clause-forward
returns-clause-forward c = each_forward c.args.model.now c.args.events.now.events c.loop-line.line-index c.loop-line.lines c.loop-line.invariant
