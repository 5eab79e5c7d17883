use Rattle.std.proofs.Common.{ap, arith}
use Rattle.clause_store.specs.Clauses.{Formula}
use Rattle.predicate_coding.specs.AtomNodes.{same_choice}
use Rattle.predicate_coding.proofs.AtomSteps.{pairs-next}
use Rattle.predicate_coding.proofs.atoms.code_choice.Goals as goal

pub loop-k-preserved : goal.loop-k-preserved
loop-k-preserved c =
    let more =
    pairs-next (same_choice c.args.events.now c.args.own c.args.p.now c.args.q.now c.args.j) c.loop-k.k c.args.store.now c.loop-k.store c.code_pair.new.store
    c.loop-k.invariant.written c.in_ok-code_pair.ensures in
    record { within = omega arith; vars = ap (λ (f : Formula). f.vars) more; written = more }
