use Rattle.text_scan.proofs.Ends.{text_ends}
use Rattle.text_scan.proofs.laws.text_ends.Goals as goal

pub returns : goal.returns
returns c = text_ends
