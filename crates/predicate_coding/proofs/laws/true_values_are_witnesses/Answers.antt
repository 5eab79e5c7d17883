use Rattle.clause_store.specs.Truth.{MakesTrue}
use Rattle.order_coding.specs.Families.{order_clauses}
use Rattle.order_coding.proofs.GeneralLists.{All-left}
use Rattle.value_coding.specs.QuestionCells.{cells}
use Rattle.predicate_coding.proofs.Central.{fronts, answers}
use Rattle.predicate_coding.proofs.Known.{order-numbers}
use Rattle.predicate_coding.proofs.PartsTrue.{node-true}
use Rattle.predicate_coding.proofs.laws.true_values_are_witnesses.Goals as goal

pub returns-clause-nodes : goal.returns-clause-nodes
returns-clause-nodes c = λ t kept pred want values crash part first rules all d at.
    node-true t kept pred want values all crash part first rules
    (c.decoded_crashes_are_described.ensures.inside t.events values crash d)
    (λ front i cell is. c.one_writer_is_last.ensures.says t.events kept (cells t pred) values crash i cell front d is)
    (order-numbers _ crash (c.decoded_crashes_are_described.ensures.order t.events values crash d)) at

pub returns-clause-witness : goal.returns-clause-witness
returns-clause-witness c = λ t kept pred want values crash rules forward all d.
    let inside = c.decoded_crashes_are_described.ensures.inside t.events values crash d in
    let within = order-numbers _ crash (c.decoded_crashes_are_described.ensures.order t.events values crash d) in
    record {
      crashes =
          c.decoded_crashes_are_crashes.ensures t.events kept values crash rules.txns_rise forward
          (All-left (MakesTrue values) (order_clauses t.events kept) _
          (fronts t kept pred want rules values crash all inside
          (λ front i cell is. c.one_writer_is_last.ensures.says t.events kept (cells t pred) values crash i cell front d is) within)) d;
      answers =
          answers t kept pred want rules values crash all inside
          (λ front i cell is. c.one_writer_is_last.ensures.says t.events kept (cells t pred) values crash i cell front d is) within;
    }
