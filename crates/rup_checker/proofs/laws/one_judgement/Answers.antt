use Rattle.rup_checker.proofs.Judging.{same-judgement}
use Rattle.rup_checker.proofs.laws.one_judgement.Goals as goal

pub returns : goal.returns
returns c = same-judgement
