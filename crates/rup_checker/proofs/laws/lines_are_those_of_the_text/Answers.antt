use Rattle.rup_checker.proofs.Lines.{clause-line, line-behind}
use Rattle.rup_checker.proofs.laws.lines_are_those_of_the_text.Goals as goal

pub returns-clause-clause : goal.returns-clause-clause
returns-clause-clause c = clause-line

pub returns-clause-behind : goal.returns-clause-behind
returns-clause-behind c = line-behind
