-- Private: what is noted of a question that was left undecided.
use Rattle.std.specs.Prelude.{◌≡◌, ℕ, ◌+◌, Bool, List, Option, Some, None}
use Rattle.sync_shrink.specs.declared.asking.AskError.{AskError}
use Rattle.sync_shrink.specs.declared.asking.AskError.TheVariants.{Spent, OutOfMemory}
use Rattle.sync_repair.specs.declared.asking.SpentQuestion.{SpentQuestion}

-- the question about the set is counted and remembered, or memory was refused and nothing is
abbrev pub IsNoted : List Bool → ℕ → ℕ → ℕ → Option SpentQuestion → AskError → Type 0
IsNoted set before count later spent Spent = (later ≡ count + 1) × (spent ≡ Some (record { set = set; before = before }))
IsNoted set before count later spent OutOfMemory = (later ≡ count) × (spent ≡ None)
