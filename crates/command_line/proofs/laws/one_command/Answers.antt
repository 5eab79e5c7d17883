use Rattle.command_line.proofs.OneCommand as lemmas
use Rattle.command_line.proofs.laws.one_command.Goals as goal

pub returns : goal.returns
returns c = record { one = lemmas.one_command }
