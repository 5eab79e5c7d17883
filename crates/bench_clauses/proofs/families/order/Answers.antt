use Rattle.std.proofs.Common.{arith, ◌-◌, ◌*◌, ◌/◌, []}
use Rattle.std.specs.List.{flat_map, range_with_len}
use Rattle.order_coding.specs.Growth.{joined}
use Rattle.order_coding.proofs.GeneralGrowth.{grown-more}
use Rattle.bench_clauses.specs.Families.{no_cycle, is_ahead}
use Rattle.bench_clauses.proofs.families.order.Goals as goal

pub loop-c-preserved : goal.loop-c-preserved
loop-c-preserved c =
    grown-more (λ x. flat_map (λ y. flat_map (λ z. no_cycle x y z) (range_with_len 0 y)) (range_with_len 0 x)) 0 c.loop-c.c
    (record { vars = c.args.size * (c.args.size - 1) / 2; clauses = [] }) c.loop-c.store c.break_cycles_below.new.store
    (omega arith) c.loop-c.invariant c.in_ok-break_cycles_below.ensures

pub loop-event-preserved : goal.loop-event-preserved
loop-event-preserved c =
    grown-more (λ x. is_ahead c.args.size x) 0 c.loop-event.event
    (joined (record { vars = c.args.size * (c.args.size - 1) / 2; clauses = [] })
    (flat_map (λ x. flat_map (λ y. flat_map (λ z. no_cycle x y z) (range_with_len 0 y)) (range_with_len 0 x)) (range_with_len 0 c.args.size)))
    c.loop-event.store c.put_ahead.new.store (omega arith) c.loop-event.invariant c.in_ok-put_ahead.ensures
