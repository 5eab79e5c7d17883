use Rattle.text_scan.proofs.FirstLines.{few_lines}
use Rattle.text_scan.proofs.laws.few_lines.Goals as goal

pub returns : goal.returns
returns c = few_lines
