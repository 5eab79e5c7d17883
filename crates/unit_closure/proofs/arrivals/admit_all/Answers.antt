use Rattle.std.proofs.Common.{◌≡◌, Bool, true, false, MatchBool, arith}
use Rattle.unit_closure.proofs.Adding.{false-refutes, all-taken}
use Rattle.unit_closure.proofs.arrivals.admit_all.Goals as goal

not-admitted : (b : Bool) (P Q : Type 0) → b ≡ false → MatchBool b P Q → Q
not-admitted true P Q e h = cc
not-admitted false P Q e h = h

pub returns-then-not-branch : goal.returns-then-not-branch
returns-then-not-branch c =
    let n = not-admitted c.in_ok-admit.field-0 _ _ c.if-not-branch.true c.in_ok-admit.ensures.ok in
    false-refutes c.args.store.now.clauses c.loop-id.id c.loop-id.id c.admit.new.watches.list c.admit.new.trail n.0.search n.0.level n.1

pub returns : goal.returns
returns c = (all-taken c.args.store.now c.loop-id.watches c.loop-id.trail c.loop-id.id (omega (arith, c.loop-id-test.false, c.len-id-end.ensures)) c.loop-id.invariant, c.loop-id.invariant.level)
