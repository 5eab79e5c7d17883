use Rattle.std.proofs.Common.{get_or, refl, sym, ap, subst, length, ◌<◌, ℕ}
use Rattle.watch_lists.specs.Links.{Chained}
use Rattle.watch_lists.proofs.Arms.{slot-ids, pair-in, place-in, o-in, kept-true, id-in, named-here, has-here, code-in, conflict-here, advances-here, kept-unit, kept-free, advances-none}
use Rattle.watch_lists.proofs.visit.Goals as goal

pub beside-o-requires-clause-there : goal.beside-o-requires-clause-there
beside-o-requires-clause-there c = pair-in c.args.store.now.clauses c.args.trail.now c.args.ids.now c.args.chains.now c.args.l c.requires.going c.args.at c.requires.first c.side_of-slot.result.0 c.side_of-slot.result.1 c.side_of-slot.ensures

pub is_true-requires : goal.is_true-requires
is_true-requires c = o-in c.args.store.now.clauses c.args.trail.now c.args.ids.now c.args.chains.now c.args.l c.requires.going c.args.at c.requires.first c.side_of-slot.result.0 c.side_of-slot.result.1 c.side_of-slot.ensures c.beside-o.result c.beside-o.ensures

pub returns-then-is_true-clause-going : goal.returns-then-is_true-clause-going
returns-then-is_true-clause-going c =
    kept-true c.args.store.now.clauses c.args.trail.now c.args.ids.now c.args.chains.now c.args.l c.requires.going c.args.at c.requires.first c.side_of-slot.result.0 c.side_of-slot.result.1 c.side_of-slot.ensures c.beside-o.result c.beside-o.ensures c.code_of.result c.shift.new.self c.shift.ensures.lists c.shift.ensures.moves c.code_of.ensures c.if-is_true.ensures

pub returns-then-is_true-clause-advances : goal.returns-then-is_true-clause-advances
returns-then-is_true-clause-advances c = advances-none c.args.store.now.clauses c.args.ids.now c.args.trail.now

pub bounds-ids-slot : goal.bounds-ids-slot
bounds-ids-slot c = slot-ids c.args.store.now.clauses c.args.trail.now c.args.ids.now c.args.chains.now c.args.l c.requires.going c.args.at c.requires.first c.side_of-slot.result.0 c.side_of-slot.result.1 c.side_of-slot.ensures

pub clause-requires : goal.clause-requires
clause-requires c = id-in c.args.store.now.clauses c.args.trail.now c.args.ids.now c.args.chains.now c.args.l c.requires.going c.args.at c.requires.first c.side_of-slot.result.0 c.side_of-slot.result.1 c.side_of-slot.ensures c.beside-o.result c.beside-o.ensures (get_or c.args.ids.now c.side_of-slot.result.0 0) refl

pub look-requires-clause-named : goal.look-requires-clause-named
look-requires-clause-named c = named-here c.args.store.now.clauses c.args.trail.now c.args.ids.now c.args.chains.now c.args.l c.requires.going c.args.at c.requires.first c.side_of-slot.result.0 c.side_of-slot.result.1 c.side_of-slot.ensures c.beside-o.result c.beside-o.ensures (get_or c.args.ids.now c.side_of-slot.result.0 0) refl c.clause.result.now c.clause.ensures.clause

pub look-requires-clause-has : goal.look-requires-clause-has
look-requires-clause-has c = has-here c.args.store.now.clauses c.args.trail.now c.args.ids.now c.args.chains.now c.args.l c.requires.going c.args.at c.requires.first c.side_of-slot.result.0 c.side_of-slot.result.1 c.side_of-slot.ensures c.beside-o.result c.beside-o.ensures (get_or c.args.ids.now c.side_of-slot.result.0 0) refl c.clause.result.now c.clause.ensures.clause

pub set_lit-requires : goal.set_lit-requires
set_lit-requires c = place-in c.args.store.now.clauses c.args.trail.now c.args.ids.now c.args.chains.now c.args.l c.requires.going c.args.at c.requires.first c.side_of-slot.result.0 c.side_of-slot.result.1 c.side_of-slot.ensures

pub shift-requires-in-Free-clause-to_in : goal.shift-requires-in-Free-clause-to_in
shift-requires-in-Free-clause-to_in c =
    let lists-are = ap (λ (x : Chained). length x.lists) c.set_lit.ensures in
    let P : ℕ → Type 0 = λ n. c.code_of-in-Free.result < n in
    subst P (sym lists-are) (rw c.code_of-in-Free.ensures (code-in c.args.store.now.clauses c.args.trail.now c.args.ids.now c.args.chains.now c.args.l c.requires.going c.args.at c.requires.first c.side_of-slot.result.0 c.side_of-slot.result.1 c.side_of-slot.ensures c.beside-o.result c.beside-o.ensures (get_or c.args.ids.now c.side_of-slot.result.0 0) refl c.clause.result.now c.clause.ensures.clause c.in-Free.m c.in-Free.ensures.0))

pub returns-in-Free-clause-going : goal.returns-in-Free-clause-going
returns-in-Free-clause-going c =
    kept-free c.args.store.now.clauses c.args.trail.now c.args.ids.now c.args.chains.now c.args.l c.requires.going c.args.at c.requires.first c.side_of-slot.result.0 c.side_of-slot.result.1 c.side_of-slot.ensures c.beside-o.result c.beside-o.ensures (get_or c.args.ids.now c.side_of-slot.result.0 0) refl c.clause.result.now c.clause.ensures.clause
    c.in-Free.m c.set_lit.new.self c.set_lit.ensures c.code_of-in-Free.result c.shift-in-Free.new.self c.shift-in-Free.ensures.lists c.shift-in-Free.ensures.moves c.code_of-in-Free.ensures c.in-Free.ensures.0 c.in-Free.ensures.1 c.in-Free.ensures.2

pub returns-in-Free-clause-advances : goal.returns-in-Free-clause-advances
returns-in-Free-clause-advances c = advances-none c.args.store.now.clauses c.args.ids.now c.args.trail.now

pub imply-requires-clause-there : goal.imply-requires-clause-there
imply-requires-clause-there c = o-in c.args.store.now.clauses c.args.trail.now c.args.ids.now c.args.chains.now c.args.l c.requires.going c.args.at c.requires.first c.side_of-slot.result.0 c.side_of-slot.result.1 c.side_of-slot.ensures c.beside-o.result c.beside-o.ensures

pub returns-in-Unit-clause-going : goal.returns-in-Unit-clause-going
returns-in-Unit-clause-going c =
    kept-unit c.args.store.now.clauses c.args.trail.now c.args.ids.now c.args.chains.now c.args.l c.requires.going c.args.at c.requires.first c.side_of-slot.result.0 c.side_of-slot.result.1 c.side_of-slot.ensures c.beside-o.result c.beside-o.ensures (get_or c.args.ids.now c.side_of-slot.result.0 0) refl c.clause.result.now c.clause.ensures.clause
    c.imply.new.self c.imply.ensures c.code_of-in-Unit.result c.shift-in-Unit.new.self c.shift-in-Unit.ensures.lists c.shift-in-Unit.ensures.moves c.code_of-in-Unit.ensures c.in-Unit.ensures.0

pub returns-in-Unit-clause-advances : goal.returns-in-Unit-clause-advances
returns-in-Unit-clause-advances c =
    advances-here c.args.store.now.clauses c.args.trail.now c.args.ids.now c.args.chains.now c.args.l c.requires.going c.args.at c.requires.first c.side_of-slot.result.0 c.side_of-slot.result.1 c.side_of-slot.ensures c.beside-o.result c.beside-o.ensures (get_or c.args.ids.now c.side_of-slot.result.0 0) refl c.clause.result.now c.clause.ensures.clause
    c.imply.new.self c.imply.ensures c.in-Unit.ensures.0 c.in-Unit.ensures.1

pub returns-in-False-clause-advances : goal.returns-in-False-clause-advances
returns-in-False-clause-advances c = advances-none c.args.store.now.clauses c.args.ids.now c.args.trail.now

pub returns-in-False-clause-conflict : goal.returns-in-False-clause-conflict
returns-in-False-clause-conflict c = conflict-here c.args.store.now.clauses c.args.trail.now c.args.ids.now c.args.chains.now c.args.l c.requires.going c.args.at c.requires.first c.side_of-slot.result.0 c.side_of-slot.result.1 c.side_of-slot.ensures c.beside-o.result c.beside-o.ensures (get_or c.args.ids.now c.side_of-slot.result.0 0) refl c.clause.result.now c.clause.ensures.clause c.in-False.ensures
