use Rattle.model_reader.specs.declared.expr.Expr.TheVariants as expr
use Rattle.event_relations.proofs.Filling.{RowsBelow}
use Rattle.event_relations.proofs.kinds.kind_rows.Given as goal

abbrev pub invariant-loop-a : goal.invariant-loop-a
invariant-loop-a l = RowsBelow l.events (expr.Kinds l.fn.bits) l.rows l.a
