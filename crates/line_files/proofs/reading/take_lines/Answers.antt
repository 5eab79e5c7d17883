use Rattle.line_files.proofs.GeneralStating.{begun, one_more}
use Rattle.line_files.proofs.reading.take_lines.Goals as goal

pub loop-line-init : goal.loop-line-init
loop-line-init g c = begun g.T.TakeLine.grammar (g.T.TakeLine.keeps c.args.taker.now) c.args.bytes.now c.requires

pub loop-line-preserved : goal.loop-line-preserved
loop-line-preserved g c =
    one_more g.T.TakeLine.grammar (g.T.TakeLine.keeps c.loop-line.taker) (g.T.TakeLine.keeps c.take_line.new.taker) c.args.bytes.now c.loop-line.rest.now
    c.in-Some.line.now c.in-Some.behind.now c.loop-line.count c.loop-line.invariant c.in-Some.ensures.cut c.in-Some.ensures.fewer
    c.in_default-take_line.ensures.taken

pub take_line-requires : goal.take_line-requires
take_line-requires g c = (c.loop-line.invariant.taken.stated, c.loop-line.invariant.taken.kept)
