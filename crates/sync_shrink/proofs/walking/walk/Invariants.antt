use Rattle.sync_shrink.specs.Steps.{IsUnderWay}
use Rattle.sync_shrink.proofs.walking.walk.Given as goal

abbrev pub invariant-loop-thing : goal.invariant-loop-thing
invariant-loop-thing g l = record {
  ready : g.O.Oracle.ready l.oracle;
  stays : g.O.Oracle.stays l.fn.oracle l.oracle;
  way : IsUnderWay (g.O.Oracle.bad l.fn.oracle) (g.O.Oracle.shows l.fn.oracle) l.count l.thing l.present l.needs.items;
}
