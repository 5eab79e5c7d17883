use Rattle.branch_rules.proofs.Heaping.{exchange-indexed}
use Rattle.branch_rules.proofs.heap.exchange.Goals as goal

pub returns-clause-indexed : goal.returns-clause-indexed
returns-clause-indexed c = exchange-indexed c.args.heap.now c.args.places.now c.args.count c.requires.indexed c.args.a c.args.b c.requires.a_in c.requires.b_in c.requires.two
