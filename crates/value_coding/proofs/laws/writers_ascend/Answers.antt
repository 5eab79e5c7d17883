use Rattle.std.proofs.Common.{length}
use Rattle.std.proofs.lemmas.List.Kept.{IsStrictlyIncreasing-filter}
use Rattle.clause_store.proofs.GeneralLists.{Contains-filter, Contains-from_filter}
use Rattle.fer_events.specs.Orders.{numbers}
use Rattle.order_coding.proofs.GeneralOrders.{numbers-contain, numbers-within}
use Rattle.value_coding.specs.Writers.{is_writer}
use Rattle.order_coding.proofs.GeneralLists.{numbers-increase}
use Rattle.value_coding.proofs.laws.writers_ascend.Goals as goal

pub returns-clause-ascend : goal.returns-clause-ascend
returns-clause-ascend c = λ events cell. IsStrictlyIncreasing-filter (is_writer events cell) (numbers (length events)) (numbers-increase 1 (length events))

pub returns-clause-all : goal.returns-clause-all
returns-clause-all c = λ events cell a. (
  λ h. let kept = Contains-from_filter (is_writer events cell) (numbers (length events)) a h in (numbers-within (length events) a kept.0, kept.1),
  λ h. Contains-filter (is_writer events cell) (numbers (length events)) a (numbers-contain (length events) a h.0) h.1,
)
