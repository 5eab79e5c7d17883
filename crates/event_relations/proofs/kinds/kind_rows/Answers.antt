use Rattle.std.proofs.Common.{◌≡◌, ◌↔◌, ℕ, length, ◌+◌, List, sym, subst, arith, refl}
use Rattle.std.proofs.lemmas.Option.{slice_get_read}
use Rattle.std.specs.Int.{bit_at}
use Rattle.fer_events.specs.declared.event.Event.{Event}
use Rattle.event_relations.specs.Words.{kind_place}
use Rattle.model_reader.specs.declared.expr.Expr.TheVariants as expr
use Rattle.event_relations.proofs.Filling.{RowsBelow, rows_start, rows_more, rows_shown}
use Rattle.event_relations.proofs.Diagonals.{kinds_in_row}
use Rattle.event_relations.proofs.kinds.kind_rows.Goals as goal

pub loop-a-init : goal.loop-a-init
loop-a-init c = subst (λ (rows : List ℕ). RowsBelow c.args.events.now (expr.Kinds c.args.bits) rows 0) (sym c.new-rows.ensures) (rows_start c.args.events.now (expr.Kinds c.args.bits))

pub loop-a-preserved : goal.loop-a-preserved
loop-a-preserved c =
    let there = slice_get_read c.args.events.now (length c.args.events.now) c.loop-a.a c.index-events-a.result refl c.loop-a-test.true c.index-events-a.is in
    subst (λ (rows : List ℕ). RowsBelow c.args.events.now (expr.Kinds c.args.bits) rows (c.loop-a.a + 1)) (sym c.in_ok-push.ensures.ok)
    (rows_more c.args.events.now (expr.Kinds c.args.bits) c.loop-a.rows c.loop-a.a c.kind_row.result c.index-events-a.result c.loop-a.invariant there
    (kinds_in_row c.args.events.now c.loop-a.a c.kind_row.result c.index-events-a.result c.args.bits there
    (subst (λ (e : Event). (b : ℕ) → (bit_at c.kind_row.result b ≡ 1) ↔ ((b ≡ c.loop-a.a) × (bit_at c.args.bits (kind_place e.kind) ≡ 1)))
    (sym c.index-events-a.is) c.kind_row.ensures)))

pub returns : goal.returns
returns c = rows_shown c.args.events.now (expr.Kinds c.args.bits) c.loop-a.rows c.loop-a.a c.loop-a.invariant (omega (arith, c.loop-a-test.false, c.loop-a.auto.a-end))
