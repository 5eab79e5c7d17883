use Rattle.sync_repair.proofs.Kepts.{kept-reached, kept-forward, one-list}
use Rattle.sync_repair.proofs.laws.kept_pairs_say_what_is_reached.Goals as goal

pub returns-clause-reached : goal.returns-clause-reached
returns-clause-reached c = λ litmus model sites set all pairs syncs outside resolved kept. kept-reached litmus model sites set all syncs outside resolved pairs kept

pub returns-clause-forward : goal.returns-clause-forward
returns-clause-forward c = λ litmus model sites set all pairs syncs outside resolved kept. kept-forward litmus model sites set all syncs outside resolved pairs kept

pub returns-clause-one_list : goal.returns-clause-one_list
returns-clause-one_list c = λ litmus model sites set all p q first second. one-list litmus model sites set all p q first second
