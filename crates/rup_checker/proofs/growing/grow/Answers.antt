use Rattle.std.proofs.Common.{subst, Bool, MatchBool, []}
use Rattle.clause_store.specs.Propagation.{Follows}
use Rattle.rup_checker.specs.Trying.{IsReady}
use Rattle.rup_checker.proofs.GeneralTrials.{none-is, spread-ready}
use Rattle.rup_checker.proofs.growing.grow.Goals as goal

pub returns-clause-ok : goal.returns-clause-ok
returns-clause-ok c =
    let P : Bool → Type 0 = λ b. MatchBool b (IsReady c.include.new.store c.spread.new.watches c.spread.new.trail) (Follows c.include.new.store.clauses []) in
    subst P (none-is c.spread.result c.is_none.result c.is_none.ensures)
    (spread-ready c.spread.result c.include.new.store c.spread.new.watches c.include.new.trail c.spread.new.trail c.spread.ensures.sound c.in_ok-include.ensures.level c.spread.ensures.spreads c.spread.ensures.conflict c.spread.ensures.seen)
