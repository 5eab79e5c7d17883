use Rattle.std.proofs.Common.{subst, Bool, MatchBool, []}
use Rattle.clause_store.specs.Propagation.{Follows}
use Rattle.rup_checker.specs.Trying.{IsReady}
use Rattle.rup_checker.proofs.GeneralTrials.{none-is, spread-ready, was-true}
use Rattle.rup_checker.proofs.growing.begin.Goals as goal

pub returns : goal.returns
returns c =
    let P : Bool → Type 0 = λ b. MatchBool b (IsReady c.args.store.now c.spread.new.watches c.spread.new.trail) (Follows c.args.store.now.clauses []) in
    let taken = was-true c.in_ok-admit_all.field-0 _ _ c.if-not-branch.false c.in_ok-admit_all.ensures in
    subst P (none-is c.spread.result c.is_none.result c.is_none.ensures)
    (spread-ready c.spread.result c.args.store.now c.spread.new.watches c.admit_all.new.trail c.spread.new.trail c.spread.ensures.sound taken.1 c.spread.ensures.spreads c.spread.ensures.conflict c.spread.ensures.seen)
