use Rattle.text_scan.proofs.Spelling.{read_more, read_all}
use Rattle.text_scan.proofs.items.unescape.Goals as goal

pub loop-item-preserved : goal.loop-item-preserved
loop-item-preserved c =
    read_more c.args.token.now c.loop-item.bytes.items c.push.new.self.items c.loop-item.rest.now c.in-Some.item.rest.now c.in-Some.item.byte
    c.loop-item.invariant c.in-Some.ensures c.in_ok-push.ensures.items

pub returns : goal.returns
returns c = read_all c.args.token.now c.loop-item.bytes.items c.loop-item.rest.now c.loop-item.invariant c.in_default.ensures
