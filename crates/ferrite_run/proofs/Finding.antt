-- From the command that was found in the words to what is answered to them.
use Rattle.std.proofs.Common.{◌≡◌, ℕ, List, Option, Some, None, IfSome, inl, inr, ap, subst}
use Rattle.fer_outside.specs.Held.{Held}
use Rattle.command_line.specs.declared.commands.Command.{Command}
use Rattle.command_line.specs.declared.commands.Command.TheVariants.{Check, Repair, Verify, Replay, Events, Show, Models, Work, Explain, Hint, Trim, Flush}
use Rattle.command_line.specs.Commands.{IsCommandLine}
use Rattle.ferrite_run.specs.Done.{Done}
use Rattle.ferrite_run.specs.Built.{IsBuilt}
use Rattle.ferrite_run.specs.Steps.Step.{ends, goes_on}
use Rattle.ferrite_run.specs.Answers.{IsAnswer, Asks}
use Rattle.ferrite_run.specs.Found.{IsFound, IsFoundReply, IsInRange}

abbrev pub IsOne : List (List ℕ) → List (List ℕ) → Type 0
IsOne words choices = (c d : Command) → IsCommandLine words choices c → IsCommandLine words choices d → c ≡ d

pub answered_found :
    (told : Option Held) (rose : List ℕ → Type 0) (words choices : List (List ℕ)) (found : Option Command) → IsFound words choices found → IsOne words choices
    → (a : Done) → IsFoundReply told rose found a → IsAnswer told rose words choices a
answered_found told rose words choices None is one a e = ends (((λ c asks. is c asks.0), ap (λ (d : Done). d.answer) e), ap (λ (d : Done). d.kept) e)
answered_found told rose words choices (Some c) is one a (inl (built, reply)) = goes_on c (is, built) reply
answered_found told rose words choices (Some c) is one a (inr (unbuilt, e)) =
    ends (((λ d asks. unbuilt (subst IsBuilt (one d c asks.0 is) asks.1)), ap (λ (d : Done). d.answer) e), ap (λ (d : Done). d.kept) e)

pub unasked_found :
    (words choices : List (List ℕ)) (found : Option Command) → IsFound words choices found → ((c : Command) → Asks words choices c → ⊥)
    → (c : Command) → found ≡ Some c → IsBuilt c → ⊥
unasked_found words choices found is none c e built =
    let asked : IsCommandLine words choices c = subst (IsFound words choices) e is in
    none c (asked, built)

-- the numbers of a command that is found are in their ranges
in_range : (words choices : List (List ℕ)) (command : Command) → IsCommandLine words choices command → IsInRange command
in_range words choices (Work seed calls branch) is = (is.operands.2, is.operands.3)
in_range words choices (Check litmus model options) is = tt
in_range words choices (Repair litmus model kind options) is = tt
in_range words choices (Verify litmus model log) is = tt
in_range words choices (Replay litmus model crash) is = tt
in_range words choices (Events litmus model) is = tt
in_range words choices (Show litmus) is = tt
in_range words choices Models is = tt
in_range words choices (Explain litmus model branch) is = tt
in_range words choices (Hint litmus model log hinted) is = tt
in_range words choices (Trim litmus model log trimmed) is = tt
in_range words choices (Flush litmus model seed width) is = tt

pub found_in_range : (words choices : List (List ℕ)) (found : Option Command) → IsFound words choices found → IfSome found IsInRange
found_in_range words choices None is = tt
found_in_range words choices (Some command) is = in_range words choices command is
