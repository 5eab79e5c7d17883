use Rattle.order_coding.proofs.Named.{kept-first}
use Rattle.order_coding.proofs.laws.kept_pairs_come_first.Goals as goal

pub returns : goal.returns
returns c = kept-first
