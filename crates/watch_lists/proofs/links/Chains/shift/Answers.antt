use Rattle.std.proofs.Common.{arith}
use Rattle.watch_lists.proofs.Placing.{still-linked, link-in, shift-linked, shift-is, shift-moves}
use Rattle.watch_lists.specs.Links.{shifted}
use Rattle.watch_lists.proofs.links.Chains.shift.Goals as goal

pub overflow_sub-place : goal.overflow_sub-place
overflow_sub-place c = (link-in c.self.inside.heads.items c.self.inside.places.items c.args.self.now c.self.view_is c.self.invariant c.args.from c.args.to c.requires.from_in c.requires.to_in c.requires.two c.requires.some c.index-link.result.now c.index-link.ensures).0

pub index-requires : goal.index-requires
index-requires c = omega (arith, (link-in c.self.inside.heads.items c.self.inside.places.items c.args.self.now c.self.view_is c.self.invariant c.args.from c.args.to c.requires.from_in c.requires.to_in c.requires.two c.requires.some c.index-link.result.now c.index-link.ensures).1)

pub index-requires-2 : goal.index-requires-2
index-requires-2 c = omega (arith, (link-in c.self.inside.heads.items c.self.inside.places.items c.args.self.now c.self.view_is c.self.invariant c.args.from c.args.to c.requires.from_in c.requires.to_in c.requires.two c.requires.some c.index-link.result.now c.index-link.ensures).1)

pub index_mut-requires-2 : goal.index_mut-requires-2
index_mut-requires-2 c = omega (arith, (link-in c.self.inside.heads.items c.self.inside.places.items c.args.self.now c.self.view_is c.self.invariant c.args.from c.args.to c.requires.from_in c.requires.to_in c.requires.two c.requires.some c.index-link.result.now c.index-link.ensures).1)

pub invariant_of-self : goal.invariant_of-self
invariant_of-self c =
    still-linked _ _ (shifted c.args.from c.args.to c.args.self.now.lists)
    (shift-linked c.self.inside.heads.items c.self.inside.places.items c.args.self.now c.self.view_is c.self.invariant c.args.from c.args.to c.requires.from_in c.requires.to_in c.requires.two c.requires.some c.index-link.result.now c.index-link.ensures c.index.result.now c.index-2.result.now c.index-3.result.now c.index.ensures c.index-2.ensures c.index-3.ensures)

pub returns-clause-lists : goal.returns-clause-lists
returns-clause-lists c = shift-is c.self.inside.heads.items c.self.inside.places.items c.args.self.now c.self.view_is c.self.invariant c.args.from c.args.to c.requires.from_in c.requires.to_in c.requires.two c.requires.some c.index-link.result.now c.index-link.ensures c.index.result.now c.index-2.result.now c.index-3.result.now c.index.ensures c.index-2.ensures c.index-3.ensures

pub returns-clause-moves : goal.returns-clause-moves
returns-clause-moves c = shift-moves c.self.inside.heads.items c.self.inside.places.items c.args.self.now c.self.view_is c.self.invariant c.args.from c.args.to c.requires.from_in c.requires.to_in c.requires.two c.requires.some c.index-link.result.now c.index-link.ensures c.index.result.now c.index-2.result.now c.index-3.result.now c.index.ensures c.index-2.ensures c.index-3.ensures
