use Rattle.std.proofs.Common.{◌≡◌, ◌≤◌, ℕ, List, length, reverse, sym, ◌∙◌, ap, subst}
use Rattle.std.specs.List.{All, Contains}
use Rattle.clause_store.specs.declared.Lit.{Lit}
use Rattle.clause_store.specs.Clauses.{InVars, negated}
use Rattle.cdcl_core.specs.Answering.{Solving}
use Rattle.fer_events.specs.Orders.{AreForward}
use Rattle.order_coding.specs.Variables.{order_vars}
use Rattle.question_series.specs.Assumed.{kept_lits}
use Rattle.question_series.specs.Settling.{IsFound}
use Rattle.question_series.proofs.Assumed.{lits-named, lits-apart}
use Rattle.question_series.proofs.Finding.{still-series}
use Rattle.question_series.proofs.Turned.{all-turned, apart-turned, found-turned}
use Rattle.question_series.proofs.Told.{next-answer, order-room}
use Rattle.question_series.proofs.series.Series.ask.Goals as goal

pub find-requires-clause-named : goal.find-requires-clause-named
find-requires-clause-named g c =
    let a = c.args in
    let vars = c.self.inside.solver.vars in
    let (pred, want, about) = c.requires.about in
    let room : order_vars (length a.events.now.events) ≤ vars =
    subst (λ (s : Solving). order_vars (length a.events.now.events) ≤ s.vars) (sym c.self.view_is) (order-room a.events.now pred want a.self.now about.vars) in
    let kept = kept_lits a.pairs.now.n a.pairs.now.pairs in
    let turned_so : c.as_slice.result.now ≡ reverse kept = c.as_slice.ensures ∙ c.turned-lits.ensures ∙ ap reverse c.in_ok-kept_lits.ensures in
    subst (λ (ls : List Lit). All (InVars vars) ls) (sym turned_so)
    (all-turned (InVars vars) kept (lits-named a.pairs.now.n vars a.pairs.now.pairs (subst (λ (n : ℕ). order_vars n ≤ vars) (sym c.requires.size) room) c.requires.forward))

pub find-requires-clause-apart : goal.find-requires-clause-apart
find-requires-clause-apart g c =
    let kept = kept_lits c.args.pairs.now.n c.args.pairs.now.pairs in
    let turned_so : c.as_slice.result.now ≡ reverse kept = c.as_slice.ensures ∙ c.turned-lits.ensures ∙ ap reverse c.in_ok-kept_lits.ensures in
    subst (λ (ls : List Lit). (l : Lit) → Contains ls l → Contains ls (negated l) → ⊥) (sym turned_so)
    (apart-turned kept (lits-apart c.args.pairs.now.n c.args.pairs.now.pairs c.requires.forward))

pub invariant_of-self : goal.invariant_of-self
invariant_of-self g c =
    let e = c.in_err-found.ensures in
    still-series c.self.inside.solver c.find.new.solver c.self.inside.vars c.self.inside.clauses c.self.inside.refuting c.find.new.refuting e.vars e.clauses e.learned c.self.invariant e.refuting

pub invariant_of-self-in_err-answer : goal.invariant_of-self-in_err-answer
invariant_of-self-in_err-answer g c =
    let e = c.in_ok-found.ensures in
    still-series c.self.inside.solver c.find.new.solver c.self.inside.vars c.self.inside.clauses c.self.inside.refuting c.find.new.refuting e.vars e.clauses e.learned c.self.invariant e.refuting

pub invariant_of-self-2 : goal.invariant_of-self-2
invariant_of-self-2 g c =
    let e = c.in_ok-found.ensures in
    still-series c.self.inside.solver c.find.new.solver c.self.inside.vars c.self.inside.clauses c.self.inside.refuting c.find.new.refuting e.vars e.clauses e.learned c.self.invariant e.refuting

pub returns-clause-answer : goal.returns-clause-answer
returns-clause-answer g c = λ pred want about.
    let a = c.args in
    let t = a.events.now in
    let kept = a.pairs.now.pairs in
    let e = c.in_ok-found.ensures in
    let old = a.self.now in
    let new = c.find.new.solver in
    let forward : AreForward (length t.events) kept = subst (λ (n : ℕ). AreForward n kept) c.requires.size c.requires.forward in
    let lits : c.as_slice.result.now ≡ reverse (kept_lits (length t.events) kept) =
    c.as_slice.ensures ∙ c.turned-lits.ensures ∙ ap reverse (c.in_ok-kept_lits.ensures ∙ ap (λ (n : ℕ). kept_lits n kept) c.requires.size) in
    let series = still-series c.self.inside.solver new c.self.inside.vars c.self.inside.clauses c.self.inside.refuting c.find.new.refuting e.vars e.clauses e.learned c.self.invariant e.refuting in
    let of = e.clauses ∙ ap (λ (s : Solving). s.clauses) c.self.view_is ∙ about.clauses in
    let found : IsFound old new (kept_lits (length t.events) kept) a.limit c.in_ok-found.found =
    subst (λ (s : Solving). IsFound s new (kept_lits (length t.events) kept) a.limit c.in_ok-found.found) c.self.view_is
    (found-turned c.self.inside.solver new (kept_lits (length t.events) kept) a.limit c.in_ok-found.found
    (subst (λ (ls : List Lit). IsFound c.self.inside.solver new ls a.limit c.in_ok-found.found) lits e.found)) in
    next-answer t kept pred want new of old a.limit c.in_ok-found.found c.in_ok-answer.answer forward
    (λ values crash all decoded. c.true_values_are_witnesses.ensures.witness t kept pred want values crash c.keeps_rules.ensures forward all decoded)
    (λ crash shows. c.witnesses_have_values.ensures t kept pred want crash c.keeps_rules.ensures forward shows)
    series.learned.follow found c.in_ok-answer.ensures
