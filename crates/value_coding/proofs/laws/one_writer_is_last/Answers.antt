use Rattle.std.proofs.Common.{ℕ, Bool, List, length}
use Rattle.clause_store.specs.Truth.{MakesAllTrue}
use Rattle.fer_events.specs.declared.event.Crash.{Crash}
use Rattle.fer_events.specs.declared.event.Event.{Event}
use Rattle.order_coding.specs.Decoded.{IsDecoded}
use Rattle.order_coding.specs.Families.{order_clauses}
use Rattle.value_coding.proofs.LastIs.{IsToldOf, decoded-last, described-told}
use Rattle.value_coding.proofs.LastValue.{last-value}
use Rattle.value_coding.proofs.laws.one_writer_is_last.Goals as goal

told :
    (c : goal.After-decoded_crashes_are_described) (events : List Event) (kept : List (ℕ × ℕ)) (values : List Bool) (crash : Crash)
    → IsDecoded (length events) values crash → MakesAllTrue values (order_clauses events kept) → IsToldOf values events crash
told c events kept values crash d all = record {
  order = c.decoded_crashes_are_described.ensures.order events values crash d;
  inside = c.decoded_crashes_are_described.ensures.inside events values crash d;
  before = λ a b ca cb. (c.decoded_crashes_are_described.ensures.before events kept values crash all d a b ca cb).0;
}

pub returns-clause-says : goal.returns-clause-says
returns-clause-says c = λ events kept cells values crash i cell all d is. decoded-last events kept cells values crash i cell all (told c events kept values crash d) is

pub returns-clause-value : goal.returns-clause-value
returns-clause-value c = λ t kept pred values crash i j cell rules all d is l h. last-value t kept pred values crash i j cell rules all (told c t.events kept values crash d) is l h

pub returns-clause-described : goal.returns-clause-described
returns-clause-described c = λ events kept cells values crash i cell h d all is. decoded-last events kept cells values crash i cell all (λ _. described-told values events kept crash h d) is
