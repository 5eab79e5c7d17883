use Rattle.text_scan.proofs.Spelling.{one_meaning}
use Rattle.text_scan.proofs.laws.one_meaning.Goals as goal

pub returns : goal.returns
returns c = one_meaning
