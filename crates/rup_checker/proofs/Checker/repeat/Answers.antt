use Rattle.std.proofs.Common.{sym, subst}
use Rattle.clause_store.specs.Clauses.{Formula}
use Rattle.rup_checker.specs.Trying.{HasPart}
use Rattle.rup_checker.proofs.GeneralTrials.{part-follows, checker-repeated}
use Rattle.rup_checker.proofs.Checker.repeat.Goals as goal

pub returns-clause-follows : goal.returns-clause-follows
returns-clause-follows c = part-follows c.args.self.now.clauses c.args.lits.now c.requires.wider

pub invariant_of-self-2 : goal.invariant_of-self-2
invariant_of-self-2 c =
    checker-repeated c.self.inside.dead c.self.inside.store c.add.new.self c.self.inside.watches c.self.inside.trail c.args.lits.now c.in_ok-add.ensures.added
    (subst (λ (f : Formula). HasPart f.clauses c.args.lits.now) (sym c.self.view_is) c.requires.wider) c.self.invariant
