use Rattle.std.proofs.Common.{sym, subst, arith}
use Rattle.std.proofs.lemmas.List.Elements.{All-nil}
use Rattle.fer_events.specs.Orders.{AreForward}
use Rattle.fer_events.specs.Pairs.{PairList}
use Rattle.order_coding.proofs.Kept.{forward-set}
use Rattle.question_series.proofs.tests.ordered.Goals as goal

pub returns-clause-forward : goal.returns-clause-forward
returns-clause-forward c =
    forward-set 2 c.new-pairs.result.pairs c.set.new.self.pairs 1 2 c.pairs_are_found.ensures (omega arith, omega arith, omega arith)
    (subst (λ (p : PairList). AreForward 2 p.pairs) (sym c.new-pairs.ensures) (All-nil _)) c.set.ensures.pairs
