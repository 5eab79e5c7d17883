use Rattle.std.proofs.Common.{arith, List, sym, subst}
use Rattle.report.specs.declared.outcome.NeedLine.{NeedLine}
use Rattle.sync_repair.specs.Marks.{AreLines}
use Rattle.sync_repair.proofs.Lining.{lines-none, lines-next, lines-all}
use Rattle.sync_repair.proofs.needs.lines_of.Goals as goal

pub loop-place-init : goal.loop-place-init
loop-place-init c = subst (λ (l : List NeedLine). AreLines c.args.case.now c.args.kept.now 0 l) (sym c.new-lines.ensures) (lines-none c.args.case.now c.args.kept.now)

pub loop-place-preserved : goal.loop-place-preserved
loop-place-preserved c =
    lines-next c.args.case.now c.args.kept.now c.loop-place.place c.loop-place.lines c.push.new.self c.in_ok-line.line c.loop-place.invariant c.in_ok-line.ensures c.in_ok-push.ensures.ok

pub returns : goal.returns
returns c =
    let kept = c.requires.kept in
    let low = c.loop-place-test.false in
    let high = c.loop-place.auto.place-end in
    lines-all c.args.case.now c.args.kept.now kept.0 kept.1 c.args.needs.now kept.2 c.loop-place.place c.loop-place.lines (omega (arith, low, high)) c.loop-place.invariant
