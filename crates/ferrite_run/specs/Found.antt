-- Private: what is answered where a command was found in the words, or none.
use Rattle.std.specs.Prelude.{◌≡◌, ◌⊎◌, ◌≤◌, ⊤, ℕ, List, Option, Some, None, MatchOption}
use Rattle.fer_outside.specs.Held.{Held}
use Rattle.command_line.specs.declared.commands.Command.{Command}
use Rattle.command_line.specs.declared.commands.Command.TheVariants.{Work}
use Rattle.command_line.specs.Commands.{IsCommandLine}
use Rattle.report.specs.Answers.{Usage}
use Rattle.ferrite_run.specs.Done.{Done, only}
use Rattle.ferrite_run.specs.Built.{IsBuilt}
use Rattle.ferrite_run.specs.Answers.{IsReply}

-- the words are this command where `--branch` may name these choices, or none
abbrev pub IsFound : List (List ℕ) → List (List ℕ) → Option Command → Type 0
IsFound words choices found = MatchOption found ((c : Command) → IsCommandLine words choices c → ⊥) (λ c. IsCommandLine words choices c)

abbrev pub IsFoundReply : Option Held → (List ℕ → Type 0) → Option Command → Done → Type 0
IsFoundReply told rose None done = done ≡ only Usage
IsFoundReply told rose (Some command) done =
    (IsBuilt command × IsReply told rose command done) ⊎ ((IsBuilt command → ⊥) × (done ≡ only Usage))

-- the numbers of the command are in their ranges
abbrev pub IsInRange : Command → Type 0
IsInRange (Work seed calls branch) = (1 ≤ calls) × (calls ≤ 32)
IsInRange command = ⊤
