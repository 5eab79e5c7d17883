use Rattle.std.proofs.Common.{◌≡◌, vec_len}
use Rattle.crash_state.proofs.state.unset_files.Given as goal

abbrev pub invariant-loop : goal.invariant-loop
invariant-loop l = vec_len l.all ≡ l.counter
