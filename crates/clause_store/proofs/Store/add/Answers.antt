use Rattle.std.proofs.Common.{◌≡◌, ◌+◌, length, rules, arith, ap, subst, sym}
use Rattle.std.proofs.lemmas.Grind.{common_steps}
use Rattle.std.specs.List.{All}
use Rattle.clause_store.specs.Clauses.{Formula, InVars}
use Rattle.clause_store.proofs.Pieces.{length_pieces, view-push, arena-push}
use Rattle.clause_store.proofs.Store.add.Goals as goal

end-is : (c : goal.Else-is_err) → c.len-end.result ≡ length c.self.inside.lits.items + length c.args.lits.now
end-is c = grind (arith, common_steps)

pub invariant_of-self-else-is_err : goal.invariant_of-self-else-is_err
invariant_of-self-else-is_err c =
    arena-push c.self.inside.vars c.self.inside.ends.items c.self.inside.lits.items c.args.lits.now _ _ c.len-end.result
    c.self.invariant (let P : Formula → Type 0 = λ v. All (InVars v.vars) c.args.lits.now in subst P (sym c.self.view_is) c.requires) (search rules) (end-is c) (search rules)

pub returns-clause-number : goal.returns-clause-number
returns-clause-number c = rw (← c.self.view_is) (rw length_pieces (search rules))

pub returns-clause-added : goal.returns-clause-added
returns-clause-added c =
    rw (← c.self.view_is)
    (ap (λ cs. record { vars = c.self.inside.vars; clauses = cs })
    (view-push c.self.inside.vars c.self.inside.ends.items c.self.inside.lits.items c.args.lits.now _ _ c.len-end.result
    c.self.invariant (search rules) (end-is c) (search rules)))
