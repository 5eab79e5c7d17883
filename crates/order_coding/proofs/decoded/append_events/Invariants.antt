use Rattle.std.proofs.Common.{◌≡◌, ◌-◌, ◌++◌, filter, not, if◌then◌else◌}
use Rattle.std.specs.List.{range_with_len}
use Rattle.order_coding.specs.Decoded.{is_in}
use Rattle.order_coding.proofs.decoded.append_events.Given as goal

abbrev pub invariant-loop-e : goal.invariant-loop-e
invariant-loop-e l =
    l.order.items ≡
    l.fn.order.items
    ++ filter (λ e. if l.inside then is_in l.values e else not (is_in l.values e)) (range_with_len 1 (l.e - 1))
