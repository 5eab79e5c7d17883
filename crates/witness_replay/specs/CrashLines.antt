-- The line of a crash, which anyone can read, write and have judged.
use Rattle.std.specs.Prelude.{ℕ, List, ◌++◌, take, drop, codes}
use Rattle.numerals.specs.Numbers.{numbers_text}
use Rattle.fer_events.specs.declared.event.Crash.{Crash}

-- the line of a crash: the order of the events, with a bar at the cut
abbrev pub crash_line : Crash → List ℕ
crash_line crash = codes "order" ++ numbers_text (take crash.cut crash.order) ++ codes " |" ++ numbers_text (drop crash.cut crash.order) ++ codes "\n"
