-- What `--branch` may name, and what it takes.
use Rattle.std.specs.Prelude.{ℕ, List, map, unwrap_or}
use Rattle.command_line.specs.declared.commands.Command.{Command}
use Rattle.command_line.specs.declared.commands.Command.TheVariants.{Check, Repair, Work}
use Rattle.ferrite_run.specs.declared.choices.Choice.{Choice}

-- the words of the choices, in their order
abbrev pub choice_words : {X : Type 0} → {Has : X → Type 0} → List (Choice X Has) → List (List ℕ)
choice_words choices = map (λ choice. choice.word.now) choices

-- the place of the choice that a command takes, from 0: the one that it names, or the first
abbrev pub place_of : Command → ℕ
place_of (Check litmus model search) = unwrap_or search.branch 0
place_of (Repair litmus model with search) = unwrap_or search.branch 0
place_of (Work seed calls branch) = unwrap_or branch 0
place_of command = 0
