use Rattle.text_scan.proofs.Spelling.{left_more, spelled_match}
use Rattle.text_scan.proofs.items.is_spelled.Goals as goal

pub loop-item-preserved : goal.loop-item-preserved
loop-item-preserved c = left_more c.args.written.now c.loop-item.rest.now c.in-Some.item.rest.now c.in-Some.item.byte c.loop-item.invariant c.in-Some.ensures

pub returns : goal.returns
returns c = spelled_match c.args.written.now c.loop-item.rest.now c.is_quote.result c.loop-item.invariant c.in_default.ensures c.is_quote.ensures
