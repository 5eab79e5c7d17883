-- The canonical text of a litmus test.
use Rattle.std.specs.Prelude.{ℕ, Bool, List, [], ◌++◌, ◌==◌, codes, decimal, if◌then◌else◌}
use Rattle.std.specs.List.{flat_map}
use Rattle.litmus_syntax.specs.declared.call.Step.{Step}
use Rattle.litmus_syntax.specs.Test.{Test}
use Rattle.litmus_syntax.specs.CallText.{call_text}
use Rattle.litmus_syntax.specs.PredText.{pred_text}

-- a call on a line of its own, behind two spaces
abbrev pub step_line : Step → List ℕ
step_line step = codes "  " ++ call_text step.call ++ codes "\n"

-- `exists:` looks for a state in which the predicate is true, `always:` for one in which it is false
abbrev pub question_word : Bool → List ℕ
question_word want = if want then codes "exists" else codes "always"

-- the question, with its line feed
abbrev pub question_line : Test → List ℕ
question_line l = question_word l.want ++ codes ": " ++ pred_text l.pred ++ codes "\n"

-- the head; the first version has no number
abbrev pub head_line : Test → List ℕ
head_line l = codes "litmus " ++ l.name ++ (if l.version == 2 then codes " 2" else []) ++ codes "\n"

-- the block, and in the second version the sector
abbrev pub sizes_lines : Test → List ℕ
sizes_lines l =
    codes "block " ++ decimal l.block ++ codes "\n"
    ++ (if l.version == 2 then codes "sector " ++ decimal l.sector ++ codes "\n" else [])

-- the head, the block, the sector, the setup, the body and the question, each line with its line feed
abbrev pub litmus_text : Test → List ℕ
litmus_text l =
    head_line l ++ sizes_lines l
    ++ codes "setup:\n" ++ flat_map step_line l.setup
    ++ codes "body:\n" ++ flat_map step_line l.body
    ++ question_line l
