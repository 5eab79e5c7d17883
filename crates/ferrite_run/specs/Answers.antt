-- What a run answers, in the order of its work.
use Rattle.std.specs.Prelude.{◌≡◌, ◌⊎◌, ℕ, List, Option, Some}
use Rattle.fer_outside.specs.Held.{Held}
use Rattle.command_line.specs.declared.commands.ModelName.{ModelName}
use Rattle.command_line.specs.declared.commands.ModelName.TheVariants.{Shipped, File}
use Rattle.command_line.specs.declared.commands.Command.{Command}
use Rattle.command_line.specs.declared.commands.Command.TheVariants.{Check, Repair, Verify, Replay, Events, Show, Models, Work}
use Rattle.command_line.specs.Commands.{IsCommandLine}
use Rattle.report.specs.Answers as answers
use Rattle.report.specs.Answers.{Answer}
use Rattle.ferrite_run.specs.Done.{Done, only, Tells}
use Rattle.ferrite_run.specs.Steps.{Step}
use Rattle.ferrite_run.specs.Reading.{OnLitmus, OnCrash, OnLog}
use Rattle.ferrite_run.specs.Asking.{OnQuestion}
use Rattle.ferrite_run.specs.Sites.{ListSites}
use Rattle.ferrite_run.specs.Built.{IsBuilt}
use Rattle.ferrite_run.specs.Check.{IsChecked}
use Rattle.ferrite_run.specs.Events.{IsTable}
use Rattle.ferrite_run.specs.Show.{IsShown}
use Rattle.ferrite_run.specs.Replay.{IsReplayed}
use Rattle.ferrite_run.specs.Verify.{IsVerified}
use Rattle.ferrite_run.specs.Repair.{IsRepaired}
use Rattle.ferrite_run.specs.Work.{IsWorked}

-- what a command answers and keeps, over a library of which this is told, and whose count of faults rose for the names of which
-- `rose` holds
abbrev pub IsReply : Option Held → (List ℕ → Type 0) → Command → Done → Type 0
IsReply told rose (Check litmus model search) done = OnQuestion told rose litmus model (λ q. IsChecked q search) done
IsReply told rose (Repair litmus model with search) done =
    OnQuestion told rose litmus model (λ q. ListSites q with (λ sites. IsRepaired q with sites search)) done
IsReply told rose (Verify litmus model log) done =
    OnQuestion told rose litmus model (λ q. OnLog told rose log (λ read. Tells (IsVerified q read))) done
IsReply told rose (Replay litmus model crash) done =
    OnQuestion told rose litmus model (λ q. OnCrash told rose crash (λ read. Tells (IsReplayed q read))) done
IsReply told rose (Events litmus model) done = OnQuestion told rose litmus model (λ q. Tells (IsTable q)) done
IsReply told rose (Show litmus) done = OnLitmus told rose litmus (λ test. Tells (IsShown test)) done
IsReply told rose Models done = done ≡ only answers.Models
IsReply told rose (Work seed calls branch) done = Tells (IsWorked seed calls) done
IsReply told rose command done = ⊥

-- the words are this command where `--branch` may name these choices, and it is built
abbrev pub Asks : List (List ℕ) → List (List ℕ) → Command → Type 0
Asks words choices command = IsCommandLine words choices command × IsBuilt command

-- the answer to words that are no command that is built
abbrev pub IsUsage : List (List ℕ) → List (List ℕ) → Answer → Type 0
IsUsage words choices answer = ((command : Command) → Asks words choices command → ⊥) × (answer ≡ answers.Usage)

-- what is answered to the words of a command line, and kept
abbrev pub IsAnswer : Option Held → (List ℕ → Type 0) → List (List ℕ) → List (List ℕ) → Done → Type 0
IsAnswer told rose words choices done = Step Command (IsUsage words choices) (Asks words choices) (IsReply told rose) done

-- the model is a file of this name
abbrev pub IsModelFile : ModelName → List ℕ → Type 0
IsModelFile (Shipped shipped) name = ⊥
IsModelFile (File file) name = name ≡ file

-- the command names a file by this name, to read it
abbrev pub IsFileOf : Command → List ℕ → Type 0
IsFileOf (Check litmus model search) name = (name ≡ litmus) ⊎ IsModelFile model name
IsFileOf (Repair litmus model with search) name = (name ≡ litmus) ⊎ IsModelFile model name
IsFileOf (Verify litmus model log) name = (name ≡ litmus) ⊎ (IsModelFile model name ⊎ (name ≡ log))
IsFileOf (Replay litmus model crash) name = (name ≡ litmus) ⊎ (IsModelFile model name ⊎ (name ≡ crash))
IsFileOf (Events litmus model) name = (name ≡ litmus) ⊎ IsModelFile model name
IsFileOf (Show litmus) name = name ≡ litmus
IsFileOf command name = ⊥

-- the command keeps a log under this name
abbrev pub KeepsUnder : Command → List ℕ → Type 0
KeepsUnder (Check litmus model search) name = search.log ≡ Some name
KeepsUnder (Repair litmus model with search) name = search.log ≡ Some name
KeepsUnder command name = ⊥
