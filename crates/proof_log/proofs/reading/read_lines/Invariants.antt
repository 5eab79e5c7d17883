use Rattle.std.proofs.Common.{◌≡◌, ℕ, ◌+◌, ◌≤◌, List, ◌++◌, length}
use Rattle.text_scan.specs.Lines.{lines_of}
use Rattle.proof_log.specs.Stages.{Runs}
use Rattle.proof_log.specs.Reading.{IsDraft, stage_of}
use Rattle.proof_log.proofs.reading.read_lines.Given as goal

abbrev pub invariant-loop-line : goal.invariant-loop-line
invariant-loop-line l =
    (before : List (List ℕ)) × (lines_of l.bytes ≡ before ++ lines_of l.rest) × (l.number ≡ 3 + length before)
    × Runs (stage_of l.initial.draft) before (stage_of l.draft) × IsDraft l.draft × (length before + length l.rest ≤ length l.bytes)

abbrev pub decreases-loop-line : goal.decreases-loop-line
decreases-loop-line l = length l.rest
