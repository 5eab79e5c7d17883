use Rattle.std.proofs.Common.{Option, Some, None, ℕ, IfNone, List, sym, subst}
use Rattle.clause_store.specs.declared.Lit.{Lit}
use Rattle.watch_lists.specs.Going.{AreAnswered, watches_of}
use Rattle.watch_lists.proofs.Rounds.{underway, prepared, answered, lit-chain}
use Rattle.watch_lists.proofs.follow.Goals as goal

pub exchange-requires-clause-b_in : goal.exchange-requires-clause-b_in
exchange-requires-clause-b_in c =
    rw c.code_of.ensures (lit-chain c.args.trail.now c.args.chains.now.lists c.args.l c.requires.ready.ready.course c.requires.ready.ready.room c.requires.false_lit)

pub go_through-found-requires : goal.go_through-found-requires
go_through-found-requires c =
    underway c.args.store.now.clauses c.args.trail.now c.args.ids.now c.args.chains.now c.exchange.new.self c.args.l c.requires.ready c.requires.false_lit
    (lit-chain c.args.trail.now c.args.chains.now.lists c.args.l c.requires.ready.ready.course c.requires.ready.ready.room c.requires.false_lit)
    (rw c.code_of.ensures at c.exchange.ensures)

pub returns-clause-ready : goal.returns-clause-ready
returns-clause-ready c =
    prepared c.args.store.now.clauses c.go_through-found.new.trail c.args.ids.now c.go_through-found.new.chains c.put_back.new.chains c.args.l c.go_through-found.ensures.going
    c.put_back.ensures.lits c.put_back.ensures.len c.put_back.ensures.chained

if_none : (o : Option ℕ) (P Q : Type 0) → (P → Q) → IfNone o P → IfNone o Q
if_none None P Q f h = f h
if_none (Some x) P Q f h = tt

pub returns-clause-answered : goal.returns-clause-answered
returns-clause-answered c =
    let P : List Lit → Type 0 = λ ls. AreAnswered c.go_through-found.new.trail.entries (watches_of c.args.ids.now ls) c.args.l in
    if_none c.go_through-found.result _ _
    (λ done. subst P (sym c.put_back.ensures.lits)
    (answered c.args.store.now.clauses c.go_through-found.new.trail (watches_of c.args.ids.now c.go_through-found.new.chains.lits) c.go_through-found.new.chains.lists c.args.l c.go_through-found.ensures.going.going done))
    c.go_through-found.ensures.done
