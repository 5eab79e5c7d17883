use Rattle.std.proofs.Common.{arith}
use Rattle.trail_core.proofs.Push.{count_lt, level_le}
use Rattle.trail_core.proofs.Trail.decide.Goals as goal

pub overflow_add-level : goal.overflow_add-level
overflow_add-level c =
    let s = c.self.inside in
    omega (
      arith,
      c.self.invariant.vars_len,
      count_lt s.values.items s.origins.items s.lits.items s.count s.level s.seen c.self.invariant c.args.self.now c.self.view_is c.args.lit c.requires.there c.requires.free,
      level_le s.values.items s.origins.items s.lits.items s.count s.level s.seen c.self.invariant c.args.self.now c.self.view_is c.args.lit c.requires.there c.requires.free,
    )
