use Rattle.witness_replay.proofs.CrashReading.{one_crash_text}
use Rattle.witness_replay.proofs.laws.one_crash.Goals as goal

pub returns : goal.returns
returns c = one_crash_text
