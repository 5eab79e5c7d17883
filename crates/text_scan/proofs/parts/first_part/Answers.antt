use Rattle.text_scan.proofs.Fronts.{byte_front, text_front}
use Rattle.text_scan.proofs.parts.first_part.Goals as goal

pub returns-then-first-eq34 : goal.returns-then-first-eq34
returns-then-first-eq34 c =
    text_front c.args.line.now c.in_ok-first.behind.now _ _ c.in_ok-first.first.now c.text_len_behind.result c.in_ok-first.ensures.cases.0 c.if-first-eq34.true
    c.text_len_behind.ensures.len c.split_at.ensures.front c.split_at.ensures.back

pub returns : goal.returns
returns c =
    byte_front c.args.line.now c.in_ok-first.behind.now _ _ c.in_ok-first.first.now c.in_ok-first.ensures.cases.0 c.if-first-eq34.false c.if-first-eq35.false
    c.split_at-2.ensures.front c.split_at-2.ensures.back
