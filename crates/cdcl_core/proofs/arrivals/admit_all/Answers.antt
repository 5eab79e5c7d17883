use Rattle.std.proofs.Common.{Bool, false, MatchBool, ◌≡◌, true}
use Rattle.cdcl_core.proofs.Adding.{false-refutes}
use Rattle.cdcl_core.proofs.arrivals.admit_all.Goals as goal

not-admitted : (b : Bool) (P Q : Type 0) → b ≡ false → MatchBool b P Q → Q
not-admitted true P Q e h = cc
not-admitted false P Q e h = h

pub returns-then-not-branch-clause-ok : goal.returns-then-not-branch-clause-ok
returns-then-not-branch-clause-ok c =
    let n = not-admitted c.in_ok-admit.field-0 _ _ c.if-not-branch.true c.in_ok-admit.ensures.ok in
    false-refutes c.admit.new.engine.store.clauses c.loop-id.id c.loop-id.id c.admit.new.engine.watches.list c.admit.new.engine.trail n.0.search n.0.level n.1
