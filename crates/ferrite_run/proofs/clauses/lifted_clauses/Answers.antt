use Rattle.ferrite_run.proofs.clauses.lifted_clauses.Goals as goal

pub returns-clause-reached : goal.returns-clause-reached
returns-clause-reached c = λ reach.
    let q = c.args.question.now in
    let (crash, shows) = (c.kept_pairs_say_what_is_reached.ensures.reached q.litmus q.model c.args.sites.now c.args.set.now c.in_ok-events.events c.in_ok-pairs.pairs
    c.requires.usable.syncs c.requires.usable.outside c.in_ok-events.ensures.resolved c.in_ok-pairs.ensures.kept).1 reach in
    c.in_ok-store.ensures.answered crash shows
