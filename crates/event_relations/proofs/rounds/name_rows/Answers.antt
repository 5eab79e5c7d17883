use Rattle.std.proofs.Common.{arith, sym, subst, List, ℕ}
use Rattle.event_relations.proofs.Naming.{AreNamesTo, names_start, names_more, names_end}
use Rattle.event_relations.proofs.rounds.name_rows.Goals as goal

pub loop-definition-init : goal.loop-definition-init
loop-definition-init c =
    subst (λ (names : List (List ℕ)). AreNamesTo c.args.events.now c.args.lets.now 0 names) (sym c.new-names.ensures) (names_start c.args.events.now c.args.lets.now)

pub loop-definition-preserved : goal.loop-definition-preserved
loop-definition-preserved c =
    names_more c.args.events.now c.args.lets.now c.loop-definition.definition-index c.definition-item.result c.loop-definition.names c.define.new.names
    (omega (arith, c.loop-definition-test.true)) c.definition-item.is c.loop-definition.invariant c.in_ok-define.ensures

pub returns : goal.returns
returns c =
    names_end c.args.events.now c.args.lets.now c.loop-definition.definition-index c.loop-definition.names c.loop-definition.invariant
    (omega (arith, c.loop-definition-test.false))
