use Rattle.std.proofs.Common.{Bool, Some, subst}
use Rattle.watch_lists.specs.Going.{IsTruth}
use Rattle.watch_lists.proofs.Standings.{true-more, false-more}
use Rattle.watch_lists.proofs.standing.with_lit.Goals as goal

pub returns-in-Some-true : goal.returns-in-Some-true
returns-in-Some-true c = λ lits is. true-more c.args.trail.now.entries lits c.args.lit
    (subst (λ (b : Bool). IsTruth c.args.trail.now.entries c.args.lit (Some b)) c.in-Some-true.field-0-test c.in-Some-true.ensures.truth)

pub returns-in-Some-false : goal.returns-in-Some-false
returns-in-Some-false c = λ lits is. false-more c.args.trail.now.entries lits c.args.lit
    (subst (λ (b : Bool). IsTruth c.args.trail.now.entries c.args.lit (Some b)) c.in-Some-false.field-0-test c.in-Some-false.ensures.truth) c.args.found is

pub returns-in-None : goal.returns-in-None
returns-in-None c = λ lits is. c.with_open.ensures c.args.trail.now.entries lits c.in-None.ensures.truth is
