use Rattle.std.proofs.Common.{Bool, true, false, not, Some, List, MatchBool}
use Rattle.clause_store.specs.declared.Lit.{Lit}
use Rattle.trail_core.specs.Course.{Entry, Fails, HaveOnce}
use Rattle.trail_core.proofs.GeneralTrails.{not-both, free-not-fails}
use Rattle.watch_lists.specs.Going.{IsTruth}
use Rattle.watch_lists.proofs.is_false.Goals as goal

pub returns-in-None : goal.returns-in-None
returns-in-None c = free-not-fails c.args.trail.now.entries c.args.l c.in-None.ensures.truth

by-truth : (es : List Entry) (l : Lit) (b : Bool) → HaveOnce es → IsTruth es l (Some b) → MatchBool (not b) (Fails es l) (Fails es l → ⊥)
by-truth es l true once h = λ f. not-both es l once h f
by-truth es l false once h = h

pub returns-in-Some : goal.returns-in-Some
returns-in-Some c = by-truth c.args.trail.now.entries c.args.l c.in-Some.b c.in-Some.ensures.course.once c.in-Some.ensures.truth
