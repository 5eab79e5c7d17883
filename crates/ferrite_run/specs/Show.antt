-- What `show` answers.
use Rattle.std.specs.Prelude.{◌≡◌}
use Rattle.litmus_syntax.specs.Test.{Test}
use Rattle.report.specs.Answers.{Answer, Shown}

-- the test in the second version of the grammar, which says the sizes of all pieces; nothing is asked of its calls
abbrev pub IsShown : Test → Answer → Type 0
IsShown litmus answer = answer ≡ Shown (record litmus { version = 2 })
