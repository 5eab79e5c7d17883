use Rattle.std.proofs.Common.{arith}
use Rattle.branch_rules.proofs.Heaping.{insert-room, insert-indexed}
use Rattle.branch_rules.proofs.heap.insert.Goals as goal

pub bounds-heap-count : goal.bounds-heap-count
bounds-heap-count c = insert-room c.args.heap.now c.args.places.now c.args.count c.requires.indexed c.args.var c.requires.there.0 c.requires.there.1 c.requires.nowhere

pub overflow_add-places : goal.overflow_add-places
overflow_add-places c =
    omega (arith, insert-room c.args.heap.now c.args.places.now c.args.count c.requires.indexed c.args.var c.requires.there.0 c.requires.there.1 c.requires.nowhere, c.requires.indexed.short)

pub returns-clause-indexed : goal.returns-clause-indexed
returns-clause-indexed c = insert-indexed c.args.heap.now c.args.places.now c.args.count c.requires.indexed c.args.var c.requires.there.0 c.requires.there.1 c.requires.nowhere
