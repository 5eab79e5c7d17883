use Rattle.std.proofs.Common.{ap, map, arith}
use Rattle.clause_store.specs.Clauses.{Formula}
use Rattle.predicate_coding.specs.AtomNodes.{same_choice}
use Rattle.predicate_coding.specs.CellChoices.{choices}
use Rattle.predicate_coding.proofs.AtomSteps.{choices-next}
use Rattle.predicate_coding.proofs.atoms.code_choices.Goals as goal

pub loop-j-preserved : goal.loop-j-preserved
loop-j-preserved c =
    let more =
    choices-next (λ j. map (same_choice c.args.events.now c.args.own c.args.p.now c.args.q.now j) (choices c.args.events.now c.args.q.now.cell)) c.loop-j.j c.args.store.now c.loop-j.store c.code_choice.new.store
    c.loop-j.invariant.written c.in_ok-code_choice.ensures in
    record { within = omega arith; vars = ap (λ (f : Formula). f.vars) more; written = more }
