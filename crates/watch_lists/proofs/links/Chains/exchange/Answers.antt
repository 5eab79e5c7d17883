use Rattle.watch_lists.proofs.Placing.{still-linked, exchange-linked, exchange-is}
use Rattle.watch_lists.specs.Links.{exchanged}
use Rattle.watch_lists.proofs.links.Chains.exchange.Goals as goal

pub invariant_of-self : goal.invariant_of-self
invariant_of-self c =
    still-linked _ _ (exchanged c.args.a c.args.b c.args.self.now.lists)
    (exchange-linked c.self.inside.heads.items c.self.inside.places.items c.args.self.now c.self.view_is c.self.invariant c.args.a c.args.b c.requires.a_in c.requires.b_in c.index-link.result.now c.index.result.now c.index-link.ensures c.index.ensures)

pub returns : goal.returns
returns c = exchange-is c.self.inside.heads.items c.self.inside.places.items c.args.self.now c.self.view_is c.self.invariant c.args.a c.args.b c.requires.a_in c.requires.b_in c.index-link.result.now c.index.result.now c.index-link.ensures c.index.ensures
