use Rattle.std.proofs.Common.{◌≡◌, [], replicate}
use Rattle.crash_state.proofs.tests.empty_files.Given as goal

abbrev pub invariant-loop-file : goal.invariant-loop-file
invariant-loop-file l = l.all ≡ replicate l._file []
