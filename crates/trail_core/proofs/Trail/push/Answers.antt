use Rattle.std.proofs.Common.{arith}
use Rattle.trail_core.proofs.Push.{count_lt, kept-push, view-push}
use Rattle.trail_core.proofs.Trail.push.Goals as goal

pub index_mut-requires-3 : goal.index_mut-requires-3
index_mut-requires-3 c =
    let s = c.self.inside in
    omega (arith, c.self.invariant.lits_len, count_lt s.values.items s.origins.items s.lits.items s.count s.level s.seen c.self.invariant c.args.self.now c.self.view_is c.args.lit c.requires.there c.requires.free)

pub overflow_add-self : goal.overflow_add-self
overflow_add-self c =
    let s = c.self.inside in
    omega (arith, c.self.invariant.vars_len, count_lt s.values.items s.origins.items s.lits.items s.count s.level s.seen c.self.invariant c.args.self.now c.self.view_is c.args.lit c.requires.there c.requires.free)

pub invariant_of-self : goal.invariant_of-self
invariant_of-self c =
    let s = c.self.inside in
    kept-push s.values.items s.origins.items s.lits.items s.count s.level s.seen c.self.invariant c.args.self.now c.self.view_is c.args.lit c.requires.there c.requires.free (record { level = c.args.level; reason = c.args.reason }) c.requires.rises

pub returns : goal.returns
returns c =
    let s = c.self.inside in
    view-push s.values.items s.origins.items s.lits.items s.count s.level s.seen c.self.invariant c.args.self.now c.self.view_is c.args.lit c.requires.there c.requires.free (record { level = c.args.level; reason = c.args.reason }) c.requires.rises
