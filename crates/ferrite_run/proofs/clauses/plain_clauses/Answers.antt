use Rattle.std.proofs.Common.{[]}
use Rattle.ferrite_run.proofs.Forward.{are_forward}
use Rattle.ferrite_run.proofs.clauses.plain_clauses.Goals as goal

pub clauses_of-requires-clause-forward : goal.clauses_of-requires-clause-forward
clauses_of-requires-clause-forward c =
    let q = c.args.question.now in are_forward c.kept_pairs_are_forward.ensures q.model q.events.events q.pairs c.requires.kept

pub returns-clause-reached : goal.returns-clause-reached
returns-clause-reached c = λ (crash, reaches).
    let q = c.args.question.now in
    c.in_ok-store.ensures.answered crash ((c.kept_lists_say_the_same.ensures q.litmus q.model [] q.events q.pairs crash c.requires.resolved c.requires.kept.exactly).1 reaches)
