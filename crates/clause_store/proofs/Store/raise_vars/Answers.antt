use Rattle.std.proofs.Common.{◌≤◌, subst, sym}
use Rattle.clause_store.specs.Clauses.{Formula}
use Rattle.clause_store.proofs.Pieces.{arena-raise}
use Rattle.clause_store.proofs.Store.raise_vars.Goals as goal

pub invariant_of-self : goal.invariant_of-self
invariant_of-self c =
    let room : c.self.inside.vars ≤ c.args.vars = (let P : Formula → Type 0 = λ f. f.vars ≤ c.args.vars in subst P (sym c.self.view_is) c.requires) in
    arena-raise c.self.inside.vars c.args.vars c.self.inside.ends.items c.self.inside.lits.items c.self.invariant room
