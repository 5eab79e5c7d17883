use Rattle.std.proofs.Common.{◌≡◌, Contains, Some, slice_get, rules}
use Rattle.std.proofs.lemmas.List.Elements.{All-contains}
use Rattle.std.proofs.lemmas.Option.{slice_get_within, get_or_from_slice_get}
use Rattle.std.specs.List.{All}
use Rattle.clause_store.specs.Arena.{pieces}
use Rattle.clause_store.specs.Clauses.{InVars}
use Rattle.clause_store.proofs.Pieces.{All-pieces}
use Rattle.clause_store.proofs.Store.clause.Goals as goal

pub returns-clause-named : goal.returns-clause-named
returns-clause-named c =
    let all = All-pieces (InVars c.self.inside.vars) 0 c.self.inside.ends.items c.self.inside.lits.items c.self.invariant.named in
    let clauses = pieces 0 c.self.inside.ends.items c.self.inside.lits.items in
    let is : slice_get clauses c.args.id ≡ Some c.piece.result.now = search rules in
    let here : Contains clauses c.piece.result.now =
    (c.args.id, slice_get_within clauses c.args.id _ is, get_or_from_slice_get clauses c.args.id _ _ is) in
    rw (← c.self.view_is) (All-contains (All (InVars c.self.inside.vars)) clauses c.piece.result.now all here)
