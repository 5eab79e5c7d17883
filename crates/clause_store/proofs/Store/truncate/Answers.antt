use Rattle.std.proofs.Common.{◌≡◌, ◌≤◌, length, arith, ap}
use Rattle.std.proofs.lemmas.Grind.{common_steps}
use Rattle.clause_store.specs.Arena.{start_at}
use Rattle.clause_store.proofs.Pieces.{length_pieces, arena-take, pieces-take}
use Rattle.clause_store.proofs.Store.truncate.Goals as goal

within : (c : goal.After-truncate-2) → c.args.len ≤ length c.self.inside.ends.items
within c = grind (arith, common_steps, length_pieces)

end-is : (c : goal.After-truncate-2) → c.start_of-end.result ≡ start_at 0 c.self.inside.ends.items c.args.len
end-is c = rw (← c.as_slice.ensures.value) c.start_of-end.ensures

pub start_of-end-requires : goal.start_of-end-requires
start_of-end-requires c = grind (arith, common_steps, length_pieces)

pub invariant_of-self : goal.invariant_of-self
invariant_of-self c =
    rw (c.truncate.ensures.items, c.truncate-2.ensures.items, end-is c)
    (arena-take c.self.inside.vars c.self.inside.ends.items c.self.inside.lits.items c.args.len c.self.invariant (within c))

pub returns : goal.returns
returns c =
    rw (c.truncate.ensures.items, c.truncate-2.ensures.items, end-is c, ← c.self.view_is)
    (ap (λ cs. record { vars = c.self.inside.vars; clauses = cs })
    (pieces-take 0 c.self.inside.ends.items c.self.inside.lits.items c.args.len c.self.invariant.cut (within c)))
