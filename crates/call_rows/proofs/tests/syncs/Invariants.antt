use Rattle.std.proofs.Common.{◌≡◌, replicate}
use Rattle.litmus_syntax.specs.declared.call.Call.TheVariants.{Sync}
use Rattle.call_rows.proofs.tests.syncs.Given as goal

abbrev pub invariant-loop-place : goal.invariant-loop-place
invariant-loop-place l = l.sites ≡ replicate l._place (record { after = 5; call = Sync })
