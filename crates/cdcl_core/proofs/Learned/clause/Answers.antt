use Rattle.std.proofs.Common.{◌≡◌, ℕ, ◌<◌, Some, slice_get, length, sym, ap, subst, ◌∙◌, arith}
use Rattle.clause_store.specs.Clauses.{Formula}
use Rattle.trail_core.proofs.GeneralPlaces.{contains-get}
use Rattle.cdcl_core.proofs.Numbering.{length-numbers, get-numbers}
use Rattle.cdcl_core.proofs.Learned.clause.Goals as goal

same-length : (a b k : ℕ) → a ≡ b → k < a → k < b
same-length a b k e h = omega (arith, e, h)

pub number_at-id-requires : goal.number_at-id-requires
number_at-id-requires c =
    same-length (length c.args.self.now.clauses) (length c.self.inside.numbers.now) c.args.number
    (sym (sym (length-numbers c.self.inside.numbers.now c.self.inside.store.now.clauses) ∙ ap (λ (f : Formula). length f.clauses) c.self.view_is)) c.requires

pub clause-requires : goal.clause-requires
clause-requires c = c.self.invariant c.number_at-id.result (contains-get c.self.inside.numbers.now c.args.number c.number_at-id.result c.number_at-id.ensures)

pub returns-clause-clause : goal.returns-clause-clause
returns-clause-clause c =
    subst (λ (f : Formula). slice_get f.clauses c.args.number ≡ Some c.clause.result.now) c.self.view_is
    (get-numbers c.self.inside.numbers.now c.self.inside.store.now.clauses c.args.number c.number_at-id.result c.clause.result.now c.number_at-id.ensures c.clause.ensures.clause)
