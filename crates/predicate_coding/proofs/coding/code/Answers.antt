use Rattle.std.proofs.Common.{ℕ, length, sym, subst}
use Rattle.clause_store.specs.Clauses.{Formula}
use Rattle.clause_store.specs.Truth.{MakesAllTrue}
use Rattle.fer_events.specs.Orders.{AreForward}
use Rattle.order_coding.specs.Decoded.{HasValues}
use Rattle.predicate_coding.proofs.coding.code.Goals as goal

pub returns-clause-sound : goal.returns-clause-sound
returns-clause-sound c = λ values crash all d. (
  c.true_values_are_witnesses.ensures.witness c.args.events.now c.args.pairs.now.pairs c.args.pred.now c.args.want values crash c.keeps_rules.ensures
      (subst (λ (n : ℕ). AreForward n c.args.pairs.now.pairs) c.requires.size c.requires.forward)
      (subst (λ (f : Formula). MakesAllTrue values f.clauses) c.in_ok-store.ensures all) d,
  c.decoded_crashes_are_described.ensures.ascends c.args.events.now.events values crash d,
)

pub returns-clause-complete : goal.returns-clause-complete
returns-clause-complete c = λ crash w.
    subst (λ (f : Formula). HasValues (length c.args.events.now.events) crash f) (sym c.in_ok-store.ensures)
    (c.witnesses_have_values.ensures c.args.events.now c.args.pairs.now.pairs c.args.pred.now c.args.want crash c.keeps_rules.ensures
    (subst (λ (n : ℕ). AreForward n c.args.pairs.now.pairs) c.requires.size c.requires.forward) w)
