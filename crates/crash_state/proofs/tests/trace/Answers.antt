use Rattle.std.proofs.Common.{rules, ◌≡◌, ◌∷◌, [], length, replicate, sym, subst, arith}
use Rattle.std.proofs.lemmas.Grind.{common_steps}
use Rattle.fer_events.specs.Tables.{Trace, IsTrace}
use Rattle.crash_state.proofs.MarkTrace.{mark_trace, mark_trace_kept}
use Rattle.crash_state.proofs.tests.trace.Goals as goal

pub new-requires-3 : goal.new-requires-3
unfolding mark_trace
new-requires-3 c =
    let same : _ ≡ mark_trace = grind (arith, common_steps) in
    subst IsTrace (sym same) mark_trace_kept
