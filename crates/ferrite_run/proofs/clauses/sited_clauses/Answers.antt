use Rattle.ferrite_run.proofs.Forward.{are_forward}
use Rattle.ferrite_run.proofs.clauses.sited_clauses.Goals as goal

pub clauses_of-requires-clause-forward : goal.clauses_of-requires-clause-forward
clauses_of-requires-clause-forward c =
    are_forward c.kept_pairs_are_forward.ensures c.args.question.now.model c.in_ok-events.events.events c.in_ok-pairs.pairs c.in_ok-pairs.ensures.kept

pub returns-clause-reached : goal.returns-clause-reached
returns-clause-reached c = λ (crash, reaches).
    let q = c.args.question.now in
    c.in_ok-store.ensures.answered crash
    ((c.kept_lists_say_the_same.ensures q.litmus q.model c.args.present.now c.in_ok-events.events c.in_ok-pairs.pairs crash c.in_ok-events.ensures.resolved c.in_ok-pairs.ensures.kept.exactly).1 reaches)
