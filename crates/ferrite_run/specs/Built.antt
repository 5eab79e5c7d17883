-- Which commands are built so far.
use Rattle.std.specs.Prelude.{⊤}
use Rattle.command_line.specs.declared.commands.Command.{Command}
use Rattle.command_line.specs.declared.commands.Command.TheVariants.{Check, Repair, Verify, Replay, Events, Show, Models, Work}

-- the command is built
abbrev pub IsBuilt : Command → Type 0
IsBuilt (Check litmus model search) = ⊤
IsBuilt (Repair litmus model with search) = ⊤
IsBuilt (Verify litmus model log) = ⊤
IsBuilt (Replay litmus model crash) = ⊤
IsBuilt (Events litmus model) = ⊤
IsBuilt (Show litmus) = ⊤
IsBuilt Models = ⊤
IsBuilt (Work seed calls branch) = ⊤
IsBuilt command = ⊥
