use Rattle.order_coding.proofs.Ranks.{transitive, rank-less, rank-before, rank-same, rank-within}
use Rattle.order_coding.proofs.laws.tournaments_without_cycles_are_orders.Goals as goal

pub returns-clause-transitive : goal.returns-clause-transitive
returns-clause-transitive c = λ xs before t free x y z. transitive xs before t free x y z

pub returns-clause-place : goal.returns-clause-place
returns-clause-place c = λ xs before t free x y cx cy. (rank-less xs before t free x y cx cy, rank-before xs before t free x y cx cy)

pub returns-clause-one_place : goal.returns-clause-one_place
returns-clause-one_place c = λ xs before t free x y. rank-same xs before t free x y

pub returns-clause-within : goal.returns-clause-within
returns-clause-within c = λ xs before t x. rank-within xs before t x
