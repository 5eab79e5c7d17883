-- When two runs come to the same.
use Rattle.std.specs.Prelude.{◌≡◌, ◌⊎◌, ℕ, List, length}
use Rattle.litmus_syntax.specs.Test.{Test}
use Rattle.fer_events.specs.declared.event.Crash.{Crash}
use Rattle.report.specs.declared.outcome.NeedLine.{NeedLine}
use Rattle.report.specs.Answers.{Allowed, Forbidden, Unknown, Repaired, NoneSuffice}
use Rattle.ferrite_run.specs.Done.{Done, only}

-- they come to one; or both say that the question is allowed, each with a crash that shows it; or both say that it is
-- forbidden, each with a log of its own if one is kept; or both repair the test by the same syncs, each with crashes that show them
-- needed and a log of its own; or both say that no syncs suffice, each with a crash that shows it; or one of them leaves a
-- question open
pub data Agree (x y : Done) : Type 0 where
  same : x ≡ y → Agree x y
  allowed : (c d : Crash) → x ≡ only (Allowed c) → y ≡ only (Allowed d) → Agree x y
  forbidden : x.answer ≡ Forbidden → y.answer ≡ Forbidden → Agree x y
  repaired :
      (needs others : List NeedLine) (litmus : Test) → length needs ≡ length others → x.answer ≡ Repaired needs litmus
      → y.answer ≡ Repaired others litmus → Agree x y
  none_suffice : (c d : Crash) (litmus : Test) → x ≡ only (NoneSuffice c litmus) → y ≡ only (NoneSuffice d litmus) → Agree x y
  left_open : (limit : ℕ) → (x.answer ≡ Unknown limit) ⊎ (y.answer ≡ Unknown limit) → Agree x y
