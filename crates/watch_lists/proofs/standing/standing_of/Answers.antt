use Rattle.std.proofs.Common.{◌+◌, ◌++◌, ◌∷◌, [], List, take, subst, sym}
use Rattle.std.proofs.lemmas.List.{take_more}
use Rattle.clause_store.specs.declared.Lit.{Lit}
use Rattle.watch_lists.specs.Standing.{IsStanding}
use Rattle.watch_lists.specs.declared.standing.Standing.TheVariants.{True}
use Rattle.watch_lists.proofs.Closing.{take-all}
use Rattle.watch_lists.proofs.Standings.{true-within}
use Rattle.watch_lists.proofs.standing.standing_of.Goals as goal

pub returns-in-True : goal.returns-in-True
returns-in-True c =
    let entries = c.args.trail.now.entries in
    let clause = c.args.clause.now in
    let front = take c.loop-lit.lit-index clause in
    let next = take_more clause c.loop-lit.lit-index _ c.loop-lit-test.true in
    true-within entries clause (c.loop-lit.lit-index + 1)
    (subst (λ (ls : List Lit). IsStanding entries ls True) (sym next)
    (subst (IsStanding entries (front ++ _ ∷ [])) c.in-True.is (c.with_lit-found.ensures front c.loop-lit.invariant)))

pub loop-lit-preserved : goal.loop-lit-preserved
loop-lit-preserved c =
    subst (λ (ls : List Lit). IsStanding c.args.trail.now.entries ls c.with_lit-found.result)
    (sym (take_more c.args.clause.now c.loop-lit.lit-index _ c.loop-lit-test.true))
    (c.with_lit-found.ensures (take c.loop-lit.lit-index c.args.clause.now) c.loop-lit.invariant)

pub returns : goal.returns
returns c = subst (λ (ls : List Lit). IsStanding c.args.trail.now.entries ls c.loop-lit.found) (take-all c.loop-lit.lit-index c.args.clause.now c.loop-lit-test.false) c.loop-lit.invariant
