use Rattle.std.proofs.Common.{◌∙◌, length, ap, arith, rules}
use Rattle.order_coding.specs.Decoded.{IsDecoded}
use Rattle.order_coding.proofs.DecodedIs.{decoded-is, inside-few}
use Rattle.order_coding.proofs.Decoding.{crashes, ascends}
use Rattle.order_coding.proofs.Meaning.{meant}
use Rattle.order_coding.proofs.decoded.decode.Goals as goal

decoded :
    (c : goal.After-from_vec)
    → IsDecoded (length c.args.events.now.events) c.args.values.now (record { order = c.from_vec.result; cut = c.len-cut.result })
decoded c =
    decoded-is (length c.events.result.now) (length c.args.events.now.events) c.len-cut.result c.args.values.now c.in_ok-order.order.items c.from_vec.result
    (ap length c.events.ensures) c.in_ok-order.ensures.chosen c.in_ok-order.ensures.by_place (c.from_vec.ensures ∙ c.in_ok-append_events.ensures) (search rules)

pub overflow_cast-cut : goal.overflow_cast-cut
overflow_cast-cut c =
    omega (
      arith,
      c.len-cut.ensures,
      c.keeps_rules.ensures.few_events,
      ap length c.events.ensures,
      inside-few (length c.events.result.now) c.args.values.now c.in_ok-order.order.items c.in_ok-order.ensures.chosen,
    )

pub returns-clause-decoded : goal.returns-clause-decoded
returns-clause-decoded c = decoded c

pub returns-clause-crash : goal.returns-clause-crash
returns-clause-crash c = λ kept forward true_all.
    crashes c.args.values.now c.args.events.now.events (record { order = c.from_vec.result; cut = c.len-cut.result }) (decoded c) kept
    c.keeps_rules.ensures.txns_rise forward (meant c.args.values.now c.args.events.now.events kept true_all)

pub returns-clause-ascends : goal.returns-clause-ascends
returns-clause-ascends c =
    ascends c.args.values.now c.args.events.now.events (record { order = c.from_vec.result; cut = c.len-cut.result }) (decoded c)
