use Rattle.std.proofs.Common.{sym, ◌∙◌}
use Rattle.text_scan.proofs.Fronts.{alike_more, bad_here, end_clean}
use Rattle.text_scan.proofs.parts.has_bad_byte.Goals as goal

pub returns-then-is_any_bad : goal.returns-then-is_any_bad
returns-then-is_any_bad c =
    c.loop-part.invariant.back (bad_here c.loop-part.rest.now c.in-Some.part.now c.in-Some.behind.now c.in-Some.ensures (sym c.is_any_bad.ensures ∙ c.if-is_any_bad.true))

pub loop-part-preserved : goal.loop-part-preserved
loop-part-preserved c =
    alike_more c.args.line.now c.loop-part.rest.now c.in-Some.part.now c.in-Some.behind.now c.loop-part.invariant c.in-Some.ensures
    (sym c.is_any_bad.ensures ∙ c.if-is_any_bad.false)

pub returns : goal.returns
returns c = λ bad. end_clean c.loop-part.rest.now c.in_default.ensures (c.loop-part.invariant.forth bad)
