use Rattle.std.proofs.Common.{rules, ◌≡◌, ◌≢◌, List, [], sym, ◌∙◌, ap, subst, arith, false, ◌∷◌, ◌++◌}
use Rattle.std.specs.Prelude.{codes}
use Rattle.std.specs.Str.Parse.{digits_value}
use Rattle.clause_store.specs.declared.Lit.{Lit}
use Rattle.clause_store.specs.Clauses.{InVars}
use Rattle.proof_log.specs.Reading.{AreLiteralsSoFar}
use Rattle.proof_log.proofs.ClauseReading.{none_so_far, good_so_far, bad_so_far, read_unclosed, read_bad, read_good}
use Rattle.proof_log.proofs.draft.read_clause.Goals as goal

pub loop-positive-init : goal.loop-positive-init
loop-positive-init c = subst (λ (xs : List Lit). AreLiteralsSoFar c.args.vars c.args.line.now xs false c.args.line.now) (sym c.requires) (none_so_far c.args.vars c.args.line.now)

pub loop-positive-preserved-in_ok-push-in-Some-lit_of : goal.loop-positive-preserved-in_ok-push-in-Some-lit_of
loop-positive-preserved-in_ok-push-in-Some-lit_of c =
    let l : Lit = record { var = digits_value 10 c.in-Some.digits.now; positive = c.in-Some.positive } in
    subst (λ (xs : List Lit). AreLiteralsSoFar c.args.vars c.args.line.now xs c.loop-positive.bad c.in-Some.behind.now)
    (ap (λ (x : Lit). c.loop-positive.lits.items ++ x ∷ []) (sym c.in-Some-lit_of.ensures.0) ∙ sym c.in_ok-push-in-Some-lit_of.ensures.items)
    (good_so_far c.args.vars c.args.line.now c.loop-positive.lits.items c.loop-positive.bad c.loop-positive.rest.now l c.in-Some.digits.now c.in-Some.behind.now c.loop-positive.invariant
    c.in-Some.ensures.found (subst (InVars c.args.vars) c.in-Some-lit_of.ensures.0 c.in-Some-lit_of.ensures.1))

pub loop-positive-preserved : goal.loop-positive-preserved
loop-positive-preserved c =
    bad_so_far c.args.vars c.args.line.now c.loop-positive.lits.items c.loop-positive.bad c.loop-positive.rest.now
    (record { var = digits_value 10 c.in-Some.digits.now; positive = c.in-Some.positive }) c.in-Some.digits.now c.in-Some.behind.now c.loop-positive.invariant
    c.in-Some.ensures.found c.in-None.ensures

pub returns-then-ne : goal.returns-then-ne
returns-then-ne c =
    let other : c.loop-positive.rest.now ≢ codes "0" = search rules in
    read_unclosed c.args.vars c.args.line.now c.loop-positive.lits.items c.loop-positive.bad c.loop-positive.rest.now (omega (arith, c.ranges.vars.fits))
    c.loop-positive.invariant c.in_default.ensures.found other

pub returns-then-bad : goal.returns-then-bad
returns-then-bad c =
    let closed : c.loop-positive.rest.now ≡ codes "0" = search rules in
    read_bad c.args.vars c.args.line.now c.loop-positive.lits.items c.loop-positive.bad c.loop-positive.rest.now (omega (arith, c.ranges.vars.fits))
    c.loop-positive.invariant c.in_default.ensures.found closed c.if-bad.true

pub returns : goal.returns
returns c =
    let closed : c.loop-positive.rest.now ≡ codes "0" = search rules in
    read_good c.args.vars c.args.line.now c.loop-positive.lits.items c.loop-positive.bad c.loop-positive.rest.now (omega (arith, c.ranges.vars.fits))
    c.loop-positive.invariant c.in_default.ensures.found closed c.if-bad.false
