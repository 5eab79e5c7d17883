use Rattle.rup_checker.proofs.GeneralTrials.{still-refuted}
use Rattle.rup_checker.proofs.Checker.add.Goals as goal

pub invariant_of-self-then-self : goal.invariant_of-self-then-self
invariant_of-self-then-self c =
    still-refuted c.self.inside.dead c.self.inside.store c.add.new.self c.self.inside.watches c.self.inside.trail c.args.lits.now c.if-self.true c.in_ok-add.ensures.added (c.self.invariant.refuted c.if-self.true)
