use Rattle.watch_lists.proofs.Placing.{still-linked, lit-linked, lit-is}
use Rattle.watch_lists.proofs.links.Chains.set_lit.Goals as goal

pub invariant_of-self : goal.invariant_of-self
invariant_of-self c =
    still-linked _ _ c.args.self.now.lists
    (lit-linked c.self.inside.heads.items c.self.inside.places.items c.args.self.now c.self.view_is c.self.invariant c.args.place c.index.result.now c.args.lit c.index.ensures)

pub returns : goal.returns
returns c = lit-is c.self.inside.heads.items c.self.inside.places.items c.args.self.now c.self.view_is c.self.invariant c.args.place c.index.result.now c.args.lit c.index.ensures
